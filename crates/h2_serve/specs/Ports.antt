-- What a port reports of its clients' wires, and how each of these is driven.
use Rattle.std.specs.Prelude.{◌≡◌, ◌⊎◌, ℕ, ◌≤◌, Bool, List, [], ◌∷◌, length, Option, option_map, Result}
use Rattle.h2_spec.specs.Requests.Answer.{Entry}
use Rattle.h2_spec.specs.Causes.Errors.{code_number}
use Rattle.h2_spec.specs.Opening.{opening_octets}
use Rattle.h2_spec.specs.State.{State, ended_code, opening}
use Rattle.h2_spec.specs.declared.connection.Config.{Config}
use Rattle.h2_conn.specs.Connection.{Connection, going}
use Rattle.h2_serve.specs.Drives.{Drives, EndsAs, drive_state, is_wire_fault}
use Rattle.h2_serve.specs.Wires.{grown}
use Rattle.h2_serve.specs.declared.driving.drive_fault.DriveEnd.{DriveEnd}
use Rattle.h2_serve.specs.declared.driving.drive_fault.DriveFault.{DriveFault}

-- what a contract sees of a wire: the octets read and written so far and the lengths of the reads, each where the wire
-- reports it, and whether its last call failed
pub record Seen : Type 0 where
  pub read : Option (List ℕ)
  pub written : Option (List ℕ)
  pub lengths : Option (List ℕ)
  pub failed : Bool

abbrev pub seen : Option (List ℕ) → Option (List ℕ) → Option (List ℕ) → Bool → Seen
seen read written lengths failed = record { read = read; written = written; lengths = lengths; failed = failed }

pub data Event : Type 0 where
  -- this port of this address was listened on
  Listening : (host : List ℕ) → (port : ℕ) → Event
  -- a client was accepted, and its wire was so
  Accepted : (before : Seen) → Event
  -- the wire was closed, and was so then
  Closed : (after : Seen) → Event

-- the address of this host that no other host reaches
abbrev pub localhost : List ℕ
localhost = 127 ∷ 0 ∷ 0 ∷ 1 ∷ []

-- the state of a connection of which nothing has arrived, and what is sent before anything is read
pub record Start : Type 0 where
  pub state : State
  pub out : List ℕ

abbrev pub start_of : List Entry → Config → Start
start_of book config = record { state = opening book config; out = opening_octets config }

-- the most turns of one connection
abbrev pub turns_allowed : ℕ
turns_allowed = 1000000

-- a connection was driven from this state over a wire, with these octets pending, and that is how it ended
pub record IsDriven (turns : ℕ) (s : State) (out : List ℕ) (before : Seen) (out' : List ℕ) (after : Seen) (end : Result DriveEnd DriveFault) : Type 0 where
  pub last : Connection
  pub drives : Drives turns (drive_state before.read before.written before.lengths out (going s [])) (drive_state after.read after.written after.lengths out' last) end
  pub ends : EndsAs end (option_map code_number (ended_code last.state.core.phase)) out'
  pub flag : after.failed ≡ is_wire_fault end

-- the connection of one client was driven from its start to its end
abbrev pub DrivesClient : Start → Seen → Seen → Result DriveEnd DriveFault → Type 0
DrivesClient start before after end = (left : List ℕ) × IsDriven turns_allowed start.state start.out before left after end

-- a client was accepted, its connection was driven so, and its wire was closed
abbrev pub HandlesOne : Start → Result DriveEnd DriveFault → Option (List Event) → Option (List Event) → Type 0
HandlesOne start end log log' =
    (before after : Seen) × DrivesClient start before after end × (log' ≡ grown log (Accepted before ∷ Closed after ∷ []))

-- the same of several clients, one after another, and nothing else
abbrev pub HandlesAll : Start → List (Result DriveEnd DriveFault) → Option (List Event) → Option (List Event) → Type 0
HandlesAll start [] log log' = log' ≡ log
HandlesAll start (end ∷ ends) log log' = (mid : Option (List Event)) × HandlesOne start end log mid × HandlesAll start ends mid log'

-- nothing happened, or a client was accepted and let go
abbrev pub LetsGo : Option (List Event) → Option (List Event) → Type 0
LetsGo log log' = (log' ≡ log) ⊎ ((before : Seen) × (log' ≡ grown log (Accepted before ∷ [])))

-- that of at most `count` clients, and then at most one was let go
abbrev pub HandlesSome : Start → (count : ℕ) → Option (List Event) → Option (List Event) → Type 0
HandlesSome start count log log' =
    (ends : List (Result DriveEnd DriveFault)) × (length ends ≤ count) × (mid : Option (List Event)) × HandlesAll start ends log mid × LetsGo mid log'

-- the same after the port was listened on; or it was not
abbrev pub ListensSome : Start → (port count : ℕ) → Option (List Event) → Option (List Event) → Type 0
ListensSome start port count log log' = (log' ≡ log) ⊎ HandlesSome start count (grown log (Listening localhost port ∷ [])) log'
