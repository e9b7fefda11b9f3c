use Rattle.std.proofs.Common.{◌≡◌, ◌≤◌, ◌-◌}
use Rattle.h2_debug.specs.Cases.{is_ended_by}
use Rattle.h2_debug.specs.Places.{IsAt}
use Rattle.h2_debug.proofs.places.cases.is_ended_by.Given as goal

abbrev pub invariant-loop-place : goal.invariant-loop-place
invariant-loop-place g l = record {
  at : IsAt l.source l.place;
  ahead : l.place.position ≤ l.target;
  ended : l.ended ≡ is_ended_by l.source l.stream l.place.position;
}

abbrev pub decreases-loop-place : goal.decreases-loop-place
decreases-loop-place g l = l.target - l.place.position
