-- Where a run stops, in the words of breakpoints: at the first later position that one matches, or at the end.
use Rattle.std.specs.Prelude.{◌≡◌, ◌⊎◌, ℕ, zero, suc, ◌<◌, ◌≤◌, true, List, length, slice_get, Option, Some, None}
use Rattle.std.specs.List.{list_any}
use Rattle.h2_spec.specs.Texts.Debug.{Break, matches}
use Rattle.h2_spec.specs.Trace.{Event}

-- the item that leads to a position; none leads to 0
abbrev pub event_to : List Event → ℕ → Option Event
event_to es zero = None
event_to es (suc n) = slice_get es n

-- a breakpoint matches the item that leads to this position
abbrev pub IsMatched : List Break → List Event → ℕ → Type 0
IsMatched breaks es q = (e : Event) × (event_to es q ≡ Some e) × (list_any (matches q e) breaks ≡ true)

-- a run from position p stops at q: a later position that a breakpoint matches, or the end; and none matches between
pub record IsStop (breaks : List Break) (es : List Event) (p q : ℕ) : Type 0 where
  pub later : p < q
  pub within : q ≤ length es
  pub here : IsMatched breaks es q ⊎ (q ≡ length es)
  pub first : (r : ℕ) → p < r → r < q → IsMatched breaks es r → ⊥
