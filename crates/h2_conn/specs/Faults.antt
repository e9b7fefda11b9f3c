-- The numbers of what a connection refuses, and which fault comes.
use Rattle.std.specs.Prelude.{ℕ, Bool, true, false}
use Rattle.h2_conn.specs.declared.fault.ConnFault.{ConnFault}
use Rattle.h2_conn.specs.declared.fault.ConnFault.TheVariants.{NoMemory, BadConfig, Failed}

abbrev pub fault_number : ConnFault → ℕ
fault_number NoMemory = 0
fault_number BadConfig = 16
fault_number Failed = 17

-- limits out of range are refused before memory is needed
abbrev pub refusal_for : (allowed : Bool) → ConnFault
refusal_for true = NoMemory
refusal_for false = BadConfig

-- a connection to which memory was refused takes no more
abbrev pub refusal_after : (failed : Bool) → ConnFault
refusal_after true = Failed
refusal_after false = NoMemory
