use Rattle.std.proofs.Common.{◌≡◌, ◌≤◌, ◌+◌, ◌-◌, length}
use Rattle.h2_debug.specs.Places.{IsReached}
use Rattle.h2_debug.proofs.places.forward.forward_to.Given as goal

abbrev pub invariant-loop-place : goal.invariant-loop-place
invariant-loop-place g l = record {
  reached : IsReached l.source l.place l.kept.items;
  more : length l.fn.kept.items ≤ length l.kept.items;
  ahead : l.place.position ≤ l.target;
  later : l.fn.place.position ≤ l.place.position;
  ran : l.place.ran ≡ l.fn.place.ran + (l.place.position - l.fn.place.position);
}

abbrev pub decreases-loop-place : goal.decreases-loop-place
decreases-loop-place g l = l.target - l.place.position
