-- What a program reports: a text and an exit status.
use Rattle.std.specs.Prelude.{◌≡◌, ◌⊎◌, ◌++◌, ℕ, Bool, List, take}
use Rattle.std.specs.List.{concat}
use Rattle.h2_cmd_batch.specs.Faults.{fault_line, fault_number, fault_text}
use Rattle.h2_cmd_batch.specs.declared.fault.BenchFault.{BenchFault}
use Rattle.h2_cmd_batch.specs.declared.fault.BenchFault.TheVariants.{NoMemory}

-- a text that is written, and the exit status
pub record Printed : Type 0 where
  pub text : List ℕ
  pub status : ℕ

abbrev pub done : List ℕ → Printed
done text = record { text = text; status = 0 }

abbrev pub refused : ℕ → Printed
refused fault = record { text = fault_line fault; status = 1 }

abbrev pub failed : BenchFault → Printed
failed fault = refused (fault_number fault)

-- a text, and after it the line of a fault
abbrev pub failed_after : List ℕ → BenchFault → Printed
failed_after text fault = record { text = text ++ fault_line (fault_number fault); status = 1 }

-- the same three of a command that may write JSON
abbrev pub refused_as : (json : Bool) → ℕ → Printed
refused_as json fault = record { text = fault_text json fault; status = 1 }

abbrev pub failed_as : (json : Bool) → BenchFault → Printed
failed_as json fault = refused_as json (fault_number fault)

abbrev pub failed_after_as : (json : Bool) → List ℕ → BenchFault → Printed
failed_after_as json text fault = record { text = text ++ fault_text json (fault_number fault); status = 1 }

-- that many first places of those that are reported, each whole, and then memory was refused
abbrev pub cut_short : ℕ → List (List ℕ) → Printed
cut_short count places = failed_after (concat (take count places)) NoMemory

-- what is to be reported, or some first places of it, and then memory was refused
abbrev pub OrCutShort : List (List ℕ) → Printed → Printed → Type 0
OrCutShort places printed t = (t ≡ printed) ⊎ ((count : ℕ) × (t ≡ cut_short count places))
