-- The numbers of the faults that stop a server.
use Rattle.std.specs.Prelude.{ℕ, Bool, true, false, Option, Some, None, Result, Ok, Err}
use Rattle.h2_serve.specs.declared.fault.ServeFault.{ServeFault}
use Rattle.h2_serve.specs.declared.fault.ServeFault.TheVariants.{NoMemory, BadConfig, Write, Socket}
use Rattle.h2_serve.specs.declared.fault.TextFault.{TextFault}
use Rattle.h2_serve.specs.declared.fault.TextFault.TheVariants as text

abbrev pub fault_number : ServeFault → ℕ
fault_number NoMemory = 0
fault_number BadConfig = 16
fault_number Write = 23
fault_number Socket = 28

-- whether a fault says that a limit or a setting is out of range
abbrev pub faults_limits : ServeFault → Bool
faults_limits NoMemory = false
faults_limits BadConfig = true
faults_limits Write = false
faults_limits Socket = false

-- whether a fault says that memory was refused, or that the output failed
abbrev pub is_of_printing : ServeFault → Bool
is_of_printing NoMemory = true
is_of_printing BadConfig = false
is_of_printing Write = true
is_of_printing Socket = false

-- whether a fault says that the output failed
abbrev pub is_write : ServeFault → Bool
is_write NoMemory = false
is_write BadConfig = false
is_write Write = true
is_write Socket = false

-- whether something was not written, as the output failed
abbrev pub not_written : {X : Type 0} → Result X ServeFault → Bool
not_written (Ok x) = false
not_written (Err fault) = is_write fault

-- the same, by why a text was not printed
abbrev pub failed_by : Option TextFault → Bool
failed_by None = false
failed_by (Some text.NoMemory) = false
failed_by (Some text.Write) = true
