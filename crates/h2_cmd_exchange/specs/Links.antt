-- What happens on a connection to a server.
use Rattle.std.specs.Prelude.{◌≡◌, ℕ, ◌<◌, ◌≤◌, Bool, true, false, List, [], ◌∷◌, ◌++◌, take, Option, Some, None}
use Rattle.h2_cmd_exchange.specs.declared.link.LinkRead.{LinkRead}
use Rattle.h2_cmd_exchange.specs.declared.link.LinkRead.TheVariants as read

pub data LinkEvent : Type 0 where
  -- a connection was asked for; whether a server took it
  Opened : (done : Bool) → LinkEvent
  -- octets were sent; whether all of them could be
  Sent : (octets : List ℕ) → (done : Bool) → LinkEvent
  -- octets came
  Got : (octets : List ℕ) → LinkEvent
  -- nothing came for as long as was waited
  Quiet : LinkEvent
  -- the server closed the connection, or it failed
  Ended : LinkEvent
  -- the time of the case was over
  Late : LinkEvent

-- what a connection reports, with one event more
abbrev pub happened : Option (List LinkEvent) → LinkEvent → Option (List LinkEvent)
happened None event = None
happened (Some events) event = Some (events ++ event ∷ [])

abbrev pub late_if : Bool → Option (List LinkEvent) → Option (List LinkEvent)
late_if true log = happened log Late
late_if false log = log

-- what a read gave, with the buffer after it
abbrev pub read_event : LinkRead → List ℕ → LinkEvent
read_event (read.Octets count) buffer = Got (take count buffer)
read_event read.Quiet buffer = Quiet
read_event read.Ended buffer = Ended

-- octets that were read are at least one, and are in the buffer
abbrev pub IsWithin : LinkRead → (room : ℕ) → Type 0
IsWithin (read.Octets count) room = (0 < count) × (count ≤ room)
IsWithin read.Quiet room = Unit {0}
IsWithin read.Ended room = Unit {0}
