-- The numbers of the faults, and what a line's fault says.
use Rattle.std.specs.Prelude.{ℕ}
use Rattle.h2_script.specs.declared.fault.ScriptFault.{ScriptFault}
use Rattle.h2_script.specs.declared.fault.ScriptFault.TheVariants as fault

abbrev pub number_of : ScriptFault → ℕ
number_of fault.NoMemory = 0
number_of (fault.Syntax line kind) = 18
