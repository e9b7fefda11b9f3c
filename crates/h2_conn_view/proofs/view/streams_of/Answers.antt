use Rattle.std.proofs.Common.{rules, ◌≡◌, length, Some, None}
use Rattle.std.specs.Prelude.{slice_get}
use Rattle.h2_spec.specs.Texts.View.{shown_stream}
use Rattle.h2_conn_view.proofs.Views.{copied-next, copied-all, fewer-left}
use Rattle.h2_conn_view.proofs.view.streams_of.Goals as goal

pub loop-stream-smaller : goal.loop-stream-smaller
loop-stream-smaller g c =
    let at : slice_get c.args.streams.now.streams (length c.loop-stream.views.items) ≡ Some c.in-Some.stream = search rules in
    fewer-left c.args.streams.now.streams c.loop-stream.views.items c.push.new.self.items c.shown_stream.result c.in-Some.stream c.in_ok-push.ensures.items at

pub loop-stream-preserved : goal.loop-stream-preserved
loop-stream-preserved g c =
    let at : slice_get c.args.streams.now.streams (length c.loop-stream.views.items) ≡ Some c.in-Some.stream = search rules in
    copied-next shown_stream c.args.streams.now.streams c.loop-stream.views.items c.push.new.self.items c.in-Some.stream c.shown_stream.result c.in_ok-push.ensures.items c.shown_stream.ensures at c.loop-stream.invariant

pub returns : goal.returns
returns g c =
    let none : slice_get c.args.streams.now.streams (length c.loop-stream.views.items) ≡ None = search rules in
    copied-all shown_stream _ _ none c.loop-stream.invariant
