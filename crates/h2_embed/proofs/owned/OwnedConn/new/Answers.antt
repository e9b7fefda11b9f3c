use Rattle.std.proofs.Common.{◌∙◌, ap}
use Rattle.h2_conn.specs.Connection.{Connection}
use Rattle.h2_embed.proofs.Making.{of-book, rests, whole}
use Rattle.h2_embed.proofs.owned.OwnedConn.new.Goals as goal

pub into_parts-parts-requires : goal.into_parts-parts-requires
into_parts-parts-requires c = record { ready = rests c.in-Ok.conn _ c.in-Ok.ensures.opened }

pub invariant_of-result : goal.invariant_of-result
invariant_of-result c = of-book c.args.book c.into_parts-parts.result c.in-Ok.conn.state (ap (λ (d : Connection). d.state.book) c.in-Ok.ensures.opened) c.into_parts-parts.ensures.book

pub returns : goal.returns
returns c =
    whole c.args.book c.into_parts-parts.result c.in-Ok.conn.state c.into_parts-parts.ensures.parts (ap (λ (d : Connection). d.state.book) c.in-Ok.ensures.opened) ∙ ap (λ (d : Connection). d.state) c.in-Ok.ensures.opened
