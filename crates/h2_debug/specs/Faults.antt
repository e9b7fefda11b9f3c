-- The numbers of a debugger's faults, and which one is reported.
use Rattle.std.specs.Prelude.{◌≡◌, ◌⊎◌, ℕ, zero, suc, Bool, true, false}
use Rattle.h2_debug.specs.declared.fault.DebugFault.{DebugFault}
use Rattle.h2_debug.specs.declared.fault.DebugFault.TheVariants.{NoMemory, BadConfig, AtEnd, AtStart, OutOfRange}

abbrev pub fault_number : DebugFault → ℕ
fault_number NoMemory = 0
fault_number BadConfig = 16
fault_number AtEnd = 19
fault_number AtStart = 20
fault_number OutOfRange = 21

-- limits and settings out of range are refused before any memory is needed
abbrev pub load_fault : (allowed : Bool) → DebugFault
load_fault true = NoMemory
load_fault false = BadConfig

-- position 0 is refused before any memory is needed
abbrev pub start_fault : (position : ℕ) → DebugFault
start_fault zero = AtStart
start_fault (suc p) = NoMemory

-- that no item follows is seen before any memory is needed
abbrev pub end_fault : (is_end : Bool) → DebugFault
end_fault true = AtEnd
end_fault false = NoMemory

-- out of memory, or the named fault and its cause holds
abbrev pub IsRefused : DebugFault → Type 0 → DebugFault → Type 0
IsRefused named cause fault = (fault ≡ NoMemory) ⊎ ((fault ≡ named) × cause)
