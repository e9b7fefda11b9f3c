use Rattle.std.proofs.Common.{◌≡◌, ◌++◌}
use Rattle.h2_debug.specs.Debugging.{farthest_or}
use Rattle.h2_debug.proofs.Longer.{debugger-longer}
use Rattle.h2_debug.proofs.debugger.Debugger.feed.Goals as goal

pub invariant_of-self-2 : goal.invariant_of-self-2
invariant_of-self-2 g c =
    let s = c.self.inside in
    let items : c.extend_from_slice.new.self.items ≡ s.octets.items ++ c.args.more.now = c.in_ok-extend_from_slice.ensures.items in
    rw items (debugger-longer _ c.args.more.now s.present (farthest_or s.farthest s.present) s.kept.items s.reached s.replayed c.self.invariant)
