use Rattle.std.proofs.Common.{◌∙◌, [], Some, ap}
use Rattle.h2_spec.specs.State.{State}
use Rattle.h2_conn.specs.Connection.{Connection, going}
use Rattle.h2_explain.specs.Explaining.{GoesOn, SaysOf}
use Rattle.h2_embed.proofs.Making.{between, book-kept, of-book, whole}
use Rattle.h2_embed.proofs.owned.OwnedConn.feed.Goals as goal

pub invariant_of-result : goal.invariant_of-result
invariant_of-result c = of-book c.self.inside.book c.into_parts-parts.result c.feed.new.conn.state (book-kept c.self.inside.book c.self.inside.parts c.into_conn-conn.result c.feed.new.conn.state _ _ _ _ _ c.into_conn-conn.ensures c.in-Ok.ensures.fed) c.into_parts-parts.ensures.book

pub returns-in-Ok-clause-goes : goal.returns-in-Ok-clause-goes
returns-in-Ok-clause-goes c =
    between (λ (d d' : Connection). GoesOn d c.args.explanation.now c.args.octets.now d' c.feed.new.self) c.into_conn-conn.result c.feed.new.conn _ _ (c.into_conn-conn.ensures ∙ ap (λ (s : State). going s []) c.self.view_is) c.in-Ok.ensures.ready
    (whole c.self.inside.book c.into_parts-parts.result c.feed.new.conn.state c.into_parts-parts.ensures.parts (book-kept c.self.inside.book c.self.inside.parts c.into_conn-conn.result c.feed.new.conn.state _ _ _ _ _ c.into_conn-conn.ensures c.in-Ok.ensures.fed)) c.in-Ok.ensures.goes

pub returns-in-Ok-clause-gains : goal.returns-in-Ok-clause-gains
returns-in-Ok-clause-gains c =
    between (λ (d d' : Connection). SaysOf d c.args.explanation.now c.args.octets.now c.feed.new.self (Some c.args.text.now.octets.items) (Some c.feed.new.output.octets.items)) c.into_conn-conn.result c.feed.new.conn _ _
    (c.into_conn-conn.ensures ∙ ap (λ (s : State). going s []) c.self.view_is) c.in-Ok.ensures.ready
    (whole c.self.inside.book c.into_parts-parts.result c.feed.new.conn.state c.into_parts-parts.ensures.parts (book-kept c.self.inside.book c.self.inside.parts c.into_conn-conn.result c.feed.new.conn.state _ _ _ _ _ c.into_conn-conn.ensures c.in-Ok.ensures.fed)) c.in-Ok.ensures.gains
