use Rattle.std.proofs.Common.{◌≡◌, ◌≤◌, ◌+◌, ◌-◌, length}
use Rattle.std.specs.Prelude.{map}
use Rattle.h2_spec.specs.Texts.Debug.{stop}
use Rattle.h2_debug.specs.Breakpoints.{break_of}
use Rattle.h2_debug.specs.Places.{IsReached, events}
use Rattle.h2_debug.proofs.places.forward.forward_to_stop.Given as goal

abbrev pub invariant-loop-place : goal.invariant-loop-place
invariant-loop-place g l = record {
  reached : IsReached l.source l.place l.kept.items;
  more : length l.fn.kept.items ≤ length l.kept.items;
  ahead : l.place.position ≤ l.bound;
  later : l.fn.place.position ≤ l.place.position;
  ran : l.place.ran ≡ l.fn.place.ran + (l.place.position - l.fn.place.position);
  same : stop (map break_of l.breaks) (events l.source) l.fn.place.position ≡ stop (map break_of l.breaks) (events l.source) l.place.position;
}

abbrev pub decreases-loop-place : goal.decreases-loop-place
decreases-loop-place g l = l.bound - l.place.position
