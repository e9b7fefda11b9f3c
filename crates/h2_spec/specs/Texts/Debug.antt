-- Positions in a run, and where it stops.
use Rattle.std.specs.Prelude.{ℕ, zero, suc, ◌+◌, ◌-◌, Bool, false, List, [], ◌∷◌, drop, ◌==◌, if◌then◌else◌}
use Rattle.std.specs.List.{list_any}
use Rattle.h2_spec.specs.declared.frames.Head.{Head}
use Rattle.h2_spec.specs.Frames.Frame.{Frame, Item, Preface, BadPreface, WholeFrame, Oversize}
use Rattle.h2_spec.specs.State.{State}
use Rattle.h2_spec.specs.Trace.{Event}

-- the state after this many items
abbrev pub state_at : State → List Event → ℕ → State
state_at s es zero = s
state_at s [] (suc p) = s
state_at s (e ∷ es) (suc p) = state_at e.state es p

-- the frames sent for the item before a position, and the first frames at position 0
abbrev pub sent_at : List Frame → List Event → ℕ → List Frame
sent_at sent es zero = sent
sent_at sent [] (suc p) = sent
sent_at sent (e ∷ es) (suc p) = sent_at e.sent es p

-- where a run stops: at a position, or after an item by its type, its stream, or the type of a frame sent for it
pub data Break : Type 0 where
  AtPosition : ℕ → Break
  OnType : ℕ → Break
  OnStream : ℕ → Break
  OnSent : ℕ → Break

-- the head of an item passes the test; the preface has none
abbrev pub head_is : (Head → Bool) → Item → Bool
head_is test Preface = false
head_is test BadPreface = false
head_is test (WholeFrame h p) = test h
head_is test (Oversize h) = test h

-- whether the item before position q matches
abbrev pub matches : ℕ → Event → Break → Bool
matches q e (AtPosition p) = p == q
matches q e (OnType kind) = head_is (λ h. h.kind == kind) e.item
matches q e (OnStream id) = head_is (λ h. h.stream == id) e.item
matches q e (OnSent kind) = list_any (λ f. f.kind == kind) e.sent

-- the least position from q on that matches, or the last one
abbrev pub stop_from : List Break → ℕ → List Event → ℕ
stop_from breaks q [] = q - 1
stop_from breaks q (e ∷ es) = if list_any (matches q e) breaks then q else stop_from breaks (q + 1) es

-- where a run from position p stops
unfoldable pub stop : List Break → List Event → ℕ → ℕ
stop breaks es p = stop_from breaks (p + 1) (drop p es)
