use Rattle.std.proofs.Common.{◌≡◌, map, take}
use Rattle.h2_streams.specs.Sends.{without_send}
use Rattle.h2_streams.proofs.sharing.shared.are_these.Given as goal

abbrev pub invariant-loop-i : goal.invariant-loop-i
invariant-loop-i g l = take l.i l.shared ≡ map without_send (take l.i l.streams)
