use Rattle.std.proofs.Common.{[], inr, refl}
use Rattle.h2_cmd_batch.proofs.Tables.{table-whole}
use Rattle.h2_cmd_batch.proofs.Written.{unchanged}
use Rattle.h2_cmd_batch.proofs.commands.table.write_table.Goals as goal

pub returns-in-Ok-clause-printed : goal.returns-in-Ok-clause-printed
returns-in-Ok-clause-printed g c = λ well.
    rw (← table-whole c.args.limit c.args.input.now) (rw c.in-Ok.ensures.empty at (c.write_lines.ensures.printed well))

pub returns-in-Err-clause-printed : goal.returns-in-Err-clause-printed
returns-in-Err-clause-printed g c = λ well held is. ([], unchanged held _ is, inr (0, refl))
