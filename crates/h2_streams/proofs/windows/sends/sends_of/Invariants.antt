use Rattle.std.proofs.Common.{◌≡◌, map, take}
use Rattle.h2_streams.specs.Sends.{send_of}
use Rattle.h2_streams.proofs.windows.sends.sends_of.Given as goal

abbrev pub invariant-loop-stream : goal.invariant-loop-stream
invariant-loop-stream g l = l.sends.items ≡ map send_of (take l.stream-index l.streams)
