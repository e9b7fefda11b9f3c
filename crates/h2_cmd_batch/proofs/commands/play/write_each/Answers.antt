use Rattle.std.proofs.Common.{refl, true}
use Rattle.h2_cmd_batch.proofs.Played.{fresh-opened, printed-opened}
use Rattle.h2_cmd_batch.proofs.commands.play.write_each.Goals as goal

pub write_places-requires-clause-new : goal.write_places-requires-clause-new
write_places-requires-clause-new g c =
    let opened = rw c.new-sent.ensures.items at c.in-Ok.ensures.ok in
    fresh-opened true c.args.book.now c.args.play.now.config c.args.octets.now _ _ opened refl

pub returns-in-Ok-clause-printed : goal.returns-in-Ok-clause-printed
returns-in-Ok-clause-printed g c = λ well held is.
    let opened = rw (← c.as_slice.ensures.value, c.new-sent.ensures.items) at c.in-Ok.ensures.ok in
    let x = c.write_places.ensures.printed well held is in
    (x.0, x.1, printed-opened true c.args.book.now c.args.play.now.config c.args.octets.now _ _ _ c.in-Ok.ensures.allowed opened x.2)
