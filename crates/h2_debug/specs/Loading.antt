-- A debugger that is loaded from a line, and why none is.
use Rattle.std.specs.Prelude.{◌≡◌, ℕ, Bool, true, false, List, Option, Some, None}
use Rattle.h2_spec.specs.State.{is_allowed}
use Rattle.h2_spec.specs.declared.connection.Config.{Config}
use Rattle.h2_spec.specs.Requests.Answer.{Entry}
use Rattle.h2_debug.specs.Debugging.{Debugging}
use Rattle.h2_debug.specs.Loaded.{loaded}
use Rattle.h2_debug.specs.declared.commands.session_fault.SessionFault.{SessionFault}
use Rattle.h2_debug.specs.declared.commands.session_fault.SessionFault.TheVariants.{BadConfig, BadHex, NoMemory}

-- a debugger over the octets that a line spells
abbrev pub Loads : List Entry → Config → Option (List ℕ) → Debugging → Type 0
Loads book config spelled d = (octets : List ℕ) × (spelled ≡ Some octets) × (is_allowed config ≡ true) × (d ≡ loaded book config octets)

-- why none is, found before memory is needed: the line is not hex, or a limit or a setting is out of range; elsewhere
-- out of memory
abbrev pub load_fault : (spelled : Option (List ℕ)) → (allowed : Bool) → SessionFault
load_fault None allowed = BadHex
load_fault (Some octets) true = NoMemory
load_fault (Some octets) false = BadConfig
