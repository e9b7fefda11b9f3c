-- The octets that a connection holds between two calls.
use Rattle.std.proofs.Common.{◌≡◌, ℕ, Bool, true, false, List, [], refl}
use Rattle.h2_frame.specs.Rest.{Rest}
use Rattle.h2_spec.specs.declared.connection.Phase.{Phase}
use Rattle.h2_spec.specs.declared.connection.Phase.TheVariants.{Preface, Settings, Running, Ended}
use Rattle.h2_spec.specs.Frames.Frame.{NoItem}
use Rattle.h2_spec.specs.State.{State}
use Rattle.h2_spec.specs.Trace.{left_by, next_in, next_item}
use Rattle.h2_conn.specs.Connection.{IsAtRest, connection, is_ended}

left-no_item : (p : Phase) (limit : ℕ) (b : List ℕ) → next_in p limit b ≡ NoItem → next_in p limit (left_by p b) ≡ NoItem
left-no_item Preface limit b e = e
left-no_item Settings limit b e = e
left-no_item Running limit b e = e
left-no_item (Ended code) limit b e = refl

-- unless memory was refused, no item is in them
pub rest-no_item : (failed : Bool) (s : State) (r : Rest) → IsAtRest failed s r → failed ≡ false → let c = connection failed s r.octets in next_item c.state c.rest ≡ NoItem
unfolding next_item
rest-no_item false s r h e = left-no_item s.core.phase s.core.own.frame r.octets h.1
rest-no_item true s r h e = absurd cc

left-over : (p : Phase) (b : List ℕ) → is_ended p ≡ true → left_by p b ≡ []
left-over Preface b e = absurd cc
left-over Settings b e = absurd cc
left-over Running b e = absurd cc
left-over (Ended code) b e = refl

-- after the end there are none
pub rest-over : (failed : Bool) (s : State) (b : List ℕ) → let c = connection failed s b in is_ended c.state.core.phase ≡ true → c.rest ≡ []
rest-over false s b e = left-over s.core.phase b e
rest-over true s b e = refl

-- the state of a connection is the one inside it
pub state-inside : (failed : Bool) (s : State) (b : List ℕ) → (connection failed s b).state ≡ s
state-inside false s b = refl
state-inside true s b = refl
