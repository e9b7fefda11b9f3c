-- What is taken of an input for a line, and why none is taken.
use Rattle.std.specs.Prelude.{◌≡◌, ◌⊎◌, ◌<◌, ℕ, Bool, false, List, [], length, take, Option, Some, None}
use Rattle.h2_debug.specs.Commands.{longest}
use Rattle.h2_debug.specs.Reading.{TakesLast, TakesLine}
use Rattle.h2_debug.specs.declared.commands.session_fault.SessionFault.{SessionFault}
use Rattle.h2_debug.specs.declared.commands.session_fault.SessionFault.TheVariants.{BadHex, NoMemory, Read}
use Rattle.h2_debug.specs.declared.commands.line.LineEnd.{LineEnd}
use Rattle.h2_debug.specs.declared.commands.line.LineEnd.TheVariants.{Input, LineFeed}

-- a line that ends so
abbrev pub TakesFirst : Option (List ℕ) → Option (List ℕ) → ℕ → ℕ → List ℕ → LineEnd → Type 0
TakesFirst before after first last line LineFeed = TakesLine before after first last line
TakesFirst before after first last line Input = TakesLast before after first last line

-- the first octets of a line that ends so; none where the input ended before
abbrev pub TakesNext : Option (List ℕ) → Option (List ℕ) → ℕ → ℕ → List ℕ → Option LineEnd → Type 0
TakesNext before after first last octets None = TakesLast before after first last []
TakesNext before after first last octets (Some LineFeed) = (line : List ℕ) × TakesLine before after first last line × (octets ≡ take longest line)
TakesNext before after first last octets (Some Input) = (line : List ℕ) × TakesLast before after first last line × (octets ≡ take longest line) × (0 < length line)

-- out of memory, and no read failed; or nothing more can be taken for this cause
abbrev pub IsRefused : (input_failed : Bool) → Type 0 → SessionFault → Type 0
IsRefused input_failed cause fault = ((fault ≡ NoMemory) × (input_failed ≡ false)) ⊎ ((fault ≡ Read) × cause)

-- no octets are spelled, or some are and memory was refused
abbrev pub IsNoHex : Option (List ℕ) → SessionFault → Type 0
IsNoHex None fault = fault ≡ BadHex
IsNoHex (Some octets) fault = fault ≡ NoMemory
