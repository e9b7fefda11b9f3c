use Rattle.std.proofs.Common.{◌≡◌, map, take}
use Rattle.h2_streams.specs.Sends.{send_of}
use Rattle.h2_streams.proofs.windows.sends.are_sends_of.Given as goal

abbrev pub invariant-loop-i : goal.invariant-loop-i
invariant-loop-i l = take l.i l.sends ≡ map send_of (take l.i l.streams)
