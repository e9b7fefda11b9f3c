use Rattle.std.proofs.Common.{◌≡◌, map, take}
use Rattle.h2_streams.specs.Sends.{without_send}
use Rattle.h2_streams.proofs.sharing.shared.shared_streams.Given as goal

abbrev pub invariant-loop-stream : goal.invariant-loop-stream
invariant-loop-stream g l = l.list.items ≡ map without_send (take l.stream-index l.streams)
