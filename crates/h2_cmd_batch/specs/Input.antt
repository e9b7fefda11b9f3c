-- The input of a program: when it isn't read, which octets it gives, and why it gives none.
use Rattle.std.specs.Prelude.{◌≡◌, ◌⊎◌, ◌<◌, if◌then◌else◌, ℕ, Bool, true, false, List, Option, Some, None, length}
pub use Rattle.h2_io.specs.Limit.{most}
use Rattle.h2_io.specs.HexText.{octets_spelled}
use Rattle.h2_cmd_messages.specs.Capture.{is_capture}
use Rattle.h2_cmd_batch.specs.declared.fault.BenchFault.{BenchFault}
use Rattle.h2_cmd_batch.specs.declared.fault.BenchFault.TheVariants.{NoMemory, Read, BadConfig, BadHex}

-- memory was refused, or a read failed, or there are too many octets
abbrev pub IsUnread : Option (List ℕ) → Bool → BenchFault → Type 0
IsUnread input failed fault = ((fault ≡ NoMemory) × (failed ≡ false)) ⊎ ((fault ≡ Read)
    × ((failed ≡ true) ⊎ ((failed ≡ false) × ((octets : List ℕ) → input ≡ Some octets → most < length octets))))

-- the octets that an input gives: its own where it has them as they are, but for a capture of packets; else those that its hex
-- spells
abbrev pub octets_of : (raw : Bool) → List ℕ → Option (List ℕ)
octets_of true input = if is_capture input then None else Some input
octets_of false input = octets_spelled input

-- why a connection gets none: there are none, or a limit or a setting is out of range, both found without memory; elsewhere memory
-- was refused
abbrev pub input_fault : Option (List ℕ) → (allowed : Bool) → BenchFault
input_fault None allowed = BadHex
input_fault (Some octets) false = BadConfig
input_fault (Some octets) true = NoMemory
