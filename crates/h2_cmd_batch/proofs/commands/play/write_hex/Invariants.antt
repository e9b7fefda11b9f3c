use Rattle.std.proofs.Common.{◌≡◌, ℕ, List, ◌++◌, length, false}
use Rattle.std.specs.Io.KnownBytes.{Appends}
use Rattle.hex.specs.Hex.{encode_lower}
use Rattle.h2_cmd_batch.proofs.commands.play.write_hex.Given as goal

abbrev pub invariant-loop-sent : goal.invariant-loop-sent
invariant-loop-sent g l = record {
  well : g.O.Output.has_failed l.output ≡ false;
  name : g.O.Output.name l.output ≡ g.O.Output.name l.fn.output;
  spelled : (done : List ℕ) × Appends (g.O.Output.written l.fn.output) (g.O.Output.written l.output) done × (done ++ encode_lower l.sent ≡ encode_lower l.fn.sent);
}

abbrev pub decreases-loop-sent : goal.decreases-loop-sent
decreases-loop-sent g l = length l.sent
