-- The faults of programs: their numbers, and the line that reports one.
use Rattle.std.specs.Prelude.{ℕ, Bool, true, false, List, [], ◌∷◌, codes, decimal}
use Rattle.h2_spec.specs.Texts.Show.{joined}
use Rattle.h2_request_book.specs.Fault.{entry_number}
use Rattle.h2_cmd_batch.specs.declared.fault.BenchFault.{BenchFault}
use Rattle.h2_cmd_batch.specs.declared.fault.BenchFault.TheVariants.{NoMemory, BadEntry, BadConfig, Read, Write, BadHex, BadAnswer, BadCommand, Socket}

abbrev pub fault_number : BenchFault → ℕ
fault_number NoMemory = 0
fault_number (BadEntry fault) = entry_number fault
fault_number BadConfig = 16
fault_number Read = 22
fault_number Write = 23
fault_number BadHex = 25
fault_number BadAnswer = 26
fault_number BadCommand = 27
fault_number Socket = 28

-- the line of the fault with this number
unfoldable pub fault_line : ℕ → List ℕ
fault_line number = joined (codes "fault " ∷ decimal number ∷ codes "\n" ∷ [])

-- the same as an object of JSON, on a line of its own
unfoldable pub fault_object : ℕ → List ℕ
fault_object number = joined (codes "{\"fault\":{\"number\":" ∷ decimal number ∷ codes "}}\n" ∷ [])

-- what reports a fault: its line, or its object where JSON is written
abbrev pub fault_text : (json : Bool) → ℕ → List ℕ
fault_text false number = fault_line number
fault_text true number = fault_object number
