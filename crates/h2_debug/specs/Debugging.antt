-- What a debugger represents, and what its moves result in.
use Rattle.std.specs.Prelude.{◌≡◌, ℕ, zero, suc, ◌+◌, ◌-◌, ◌*◌, ◌/◌, ◌≤◌, ◌&&◌, nat_le, min, max, if◌then◌else◌, List, length, Option, Some, None}
use Rattle.h2_spec.specs.Texts.Debug.{Break}
use Rattle.h2_debug.specs.Places.{AreKept, IsAt, KeptPlace, Placed, Source, end, longer}

-- a run, the breakpoints, the present position, the greatest one that was reached, how many items were run to the
-- present position since the last `back` or `go` began, or since the start, and how many of its items that `back` or
-- `go` ran again
pub record Debugging : Type 0 where
  pub run : Source
  pub breaks : List Break
  pub position : ℕ
  pub reached : ℕ
  pub ran : ℕ
  pub replayed : ℕ

-- at another position, to which that many items were run
abbrev pub moved_by : ℕ → ℕ → Debugging → Debugging
moved_by ran p d = record d { position = p; reached = max p d.reached; ran = ran }

-- at a later position, to which the items from the present one on were run
abbrev pub moved : ℕ → Debugging → Debugging
moved p d = moved_by (d.ran + (p - d.position)) p d

-- the greatest multiple of 64 at which a place is kept that is not above this position
abbrev pub nearest_kept : ℕ → Debugging → ℕ
nearest_kept p d = min p d.reached / 64 * 64

-- where a move to a position starts: there, or at the present position where that is between the two
abbrev pub replay_start : ℕ → Debugging → ℕ
replay_start p d = if nat_le d.position p && nat_le (nearest_kept p d) d.position then d.position else nearest_kept p d

-- of that many positions after this one, how many had been reached
abbrev pub reached_among : (reached s n : ℕ) → ℕ
reached_among reached s zero = 0
reached_among reached s (suc n) = reached_among reached s n + (if nat_le (s + suc n) reached then 1 else 0)

-- how many items a move to a position runs again: those up to the greatest position that was reached
abbrev pub replay_count : ℕ → Debugging → ℕ
replay_count p d = min p d.reached - replay_start p d

-- at another position after `back` or `go`: the items from where the move starts were run, and no others
abbrev pub moved_counting : ℕ → Debugging → Debugging
moved_counting p d = record (moved_by (p - replay_start p d) p d) { replayed = replay_count p d }

-- over more octets, at the same position
abbrev pub fed : List ℕ → Debugging → Debugging
fed more d = record d { run = longer more d.run }

-- the farthest place, where it is not the present one
abbrev pub farthest_or : Option Placed → Placed → Placed
farthest_or None place = place
farthest_or (Some far) place = far

-- a place at the greatest position that was reached, or above it
pub record IsFarthest (r : Source) (far : Placed) (reached : ℕ) : Type 0 where
  pub here : IsAt r far
  pub as_far : reached ≤ far.position

-- the present place, the farthest one, and what is kept: of one place at each multiple of 64 up to the greatest position
-- that was reached, but for that position while it is the present one
pub record IsKept (r : Source) (place far : Placed) (kept : List KeptPlace) (reached replayed : ℕ) : Type 0 where
  pub now : IsAt r place
  pub far_is : IsFarthest r far reached
  pub kept_is : AreKept r 0 kept
  pub below : reached ≤ length kept * 64
  pub due : reached ≡ length kept * 64 → place.position ≡ reached
  pub within : place.position ≤ reached
  pub reached_is : reached ≤ end r
  pub few : replayed ≤ 63
