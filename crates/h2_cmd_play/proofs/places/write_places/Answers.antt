use Rattle.std.proofs.Common.{ℕ, List}
use Rattle.h2_spec.specs.Trace.{trace}
use Rattle.h2_spec.specs.Texts.View.{view}
use Rattle.h2_cmd_play.specs.Places.{item_text, item_texts, text_shown}
use Rattle.h2_cmd_play.proofs.Spans.{appended, with-start}
use Rattle.h2_cmd_play.proofs.places.write_places.Goals as goal

pub returns-clause-printed : goal.returns-clause-printed
returns-clause-printed g c = λ held is.
    let start : List ℕ = item_text 0 c.args.sent.now (view c.args.conn.now.state) in
    with-start c.args.shown start (item_texts 1 (trace c.args.conn.now.state c.args.octets.now).events) held _ _ c.write_items.result
    (appended held (text_shown c.args.shown.first 0 start) _ _ is c.in_ok-write_place.ensures.octets) c.write_items.ensures.printed c.write_items.ensures.cut
