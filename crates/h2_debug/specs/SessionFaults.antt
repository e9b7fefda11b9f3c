-- The numbers of the faults of a session.
use Rattle.std.specs.Prelude.{ℕ}
use Rattle.h2_debug.specs.declared.commands.session_fault.SessionFault.{SessionFault}
use Rattle.h2_debug.specs.declared.commands.session_fault.SessionFault.TheVariants.{NoMemory, BadConfig, Read, BadHex, BadCommand}

abbrev pub fault_number : SessionFault → ℕ
fault_number NoMemory = 0
fault_number BadConfig = 16
fault_number Read = 22
fault_number BadHex = 25
fault_number BadCommand = 27
