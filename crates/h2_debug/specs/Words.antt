-- What the code's commands represent.
use Rattle.h2_debug.specs.Breakpoints.{break_of}
use Rattle.h2_debug.specs.Commands as spec
use Rattle.h2_debug.specs.declared.commands.command.Command.{Command}
use Rattle.h2_debug.specs.declared.commands.command.Command.TheVariants as code

abbrev pub asked_by : Command → spec.Command
asked_by (code.Step n) = spec.Step n
asked_by (code.Back n) = spec.Back n
asked_by (code.Go p) = spec.Go p
asked_by code.Run = spec.Run
asked_by (code.Break stop) = spec.BreakOn (break_of stop)
asked_by code.Clear = spec.Clear
asked_by code.Show = spec.Show
asked_by code.Why = spec.Why
