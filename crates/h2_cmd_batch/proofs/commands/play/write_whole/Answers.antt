use Rattle.std.proofs.Common.{false}
use Rattle.h2_cmd_batch.proofs.Played.{printed-opened}
use Rattle.h2_cmd_batch.proofs.commands.play.write_whole.Goals as goal

pub returns-in-Ok-clause-printed : goal.returns-in-Ok-clause-printed
returns-in-Ok-clause-printed g c = λ well held is.
    let opened = rw c.new-sent.ensures at c.in-Ok.ensures.ok in
    let x = c.write_sent.ensures.printed well held is in
    (x.0, x.1, printed-opened false c.args.book.now c.args.play.now.config c.args.octets.now _ _ _ c.in-Ok.ensures.allowed opened x.2)
