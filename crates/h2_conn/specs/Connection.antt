-- A connection between two calls: a state, and octets in which there is no item yet (RFC 9113, 3.4 and 5.4.1).
use Rattle.std.specs.Prelude.{◌≡◌, ℕ, Bool, true, false, List, []}
use Rattle.h2_frame.specs.Rest.{Rest}
use Rattle.h2_spec.specs.declared.connection.Phase.{Phase}
use Rattle.h2_spec.specs.declared.connection.Phase.TheVariants.{Preface, Settings, Running, Ended}
use Rattle.h2_spec.specs.Frames.Frame.{NoItem}
use Rattle.h2_spec.specs.State.{State}
use Rattle.h2_spec.specs.Trace.{left_by, next_item}

-- a state, the octets that wait for more, and whether memory was refused
pub record Connection : Type 0 where
  pub state : State
  pub rest : List ℕ
  pub failed : Bool

abbrev pub going : State → List ℕ → Connection
going s rest = record { state = s; rest = rest; failed = false }

-- memory was refused: the state is that before the item, its open block included, and no octets wait
abbrev pub halted : State → Connection
halted s = record { state = s; rest = []; failed = true }

-- what a state and the octets that are held represent
abbrev pub connection : Bool → State → List ℕ → Connection
connection false s octets = going s (left_by s.core.phase octets)
connection true s octets = halted s

-- whether the preface is awaited
abbrev pub awaits_preface : Phase → Bool
awaits_preface Preface = true
awaits_preface Settings = false
awaits_preface Running = false
awaits_preface (Ended code) = false

-- whether a connection error has ended the connection
abbrev pub is_ended : Phase → Bool
is_ended Preface = false
is_ended Settings = false
is_ended Running = false
is_ended (Ended code) = true

-- before the end of the connection the splitter gives items, and the preface first
abbrev pub Fits : Rest → Phase → Type 0
Fits r Preface = (r.is_over ≡ false) × (r.expects_preface ≡ true)
Fits r Settings = (r.is_over ≡ false) × (r.expects_preface ≡ false)
Fits r Running = (r.is_over ≡ false) × (r.expects_preface ≡ false)
Fits r (Ended code) = Unit {0}

-- unless memory was refused, the splitter and the phase agree, and all items were taken
abbrev pub IsAtRest : Bool → State → Rest → Type 0
IsAtRest false s r = Fits r s.core.phase × (next_item s r.octets ≡ NoItem)
IsAtRest true s r = Unit {0}

-- all items were taken, and no octets wait
abbrev pub IsReady : State → Rest → Type 0
IsReady s r = IsAtRest false s r × (left_by s.core.phase r.octets ≡ [])
