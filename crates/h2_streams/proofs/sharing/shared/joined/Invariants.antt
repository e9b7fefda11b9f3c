use Rattle.std.proofs.Common.{◌≡◌, take}
use Rattle.h2_streams.specs.Sends.{with_sends}
use Rattle.h2_streams.proofs.sharing.shared.joined.Given as goal

abbrev pub invariant-loop-i : goal.invariant-loop-i
invariant-loop-i g l = l.list.items ≡ take l.i (with_sends l.records l.sends)
