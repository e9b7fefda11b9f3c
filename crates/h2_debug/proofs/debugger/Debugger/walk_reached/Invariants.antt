use Rattle.std.proofs.Common.{◌≡◌, ◌<◌, ◌≤◌, ◌+◌, ◌-◌}
use Rattle.h2_spec.specs.Texts.Debug.{stop}
use Rattle.h2_debug.specs.Places.{IsAt, events}
use Rattle.h2_debug.proofs.debugger.Debugger.walk_reached.Given as goal

abbrev pub invariant-loop-place : goal.invariant-loop-place
invariant-loop-place g l = record {
  self : l.self ≡ l.fn.self;
  at : IsAt l.fn.self.run l.place;
  known : l.place.position ≤ l.fn.self.reached;
  later : l.fn.self.position ≤ l.place.position;
  ran : l.place.ran ≡ l.fn.self.ran + (l.place.position - l.fn.self.position);
  before : l.place.position < stop l.fn.self.breaks (events l.fn.self.run) l.fn.self.position;
  same : stop l.fn.self.breaks (events l.fn.self.run) l.place.position ≡ stop l.fn.self.breaks (events l.fn.self.run) l.fn.self.position;
}

abbrev pub decreases-loop-place : goal.decreases-loop-place
decreases-loop-place g l = l.fn.self.reached - l.place.position
