-- What a command of `table` represents.
use Rattle.h2_cmd_batch.specs.TableProgram.{Command, Add, Max}
use Rattle.h2_cmd_batch.specs.declared.commands.table.TableCommand.{TableCommand}
use Rattle.h2_cmd_batch.specs.declared.commands.table.TableCommand.TheVariants as code

abbrev pub asked_by : TableCommand → Command
asked_by (code.Add name value) = Add name.now value.now
asked_by (code.Max n) = Max n
