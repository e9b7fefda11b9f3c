use Rattle.std.proofs.Common.{◌≡◌, length, false}
use Rattle.h2_serve.specs.Wires.{Writes}
use Rattle.h2_serve.proofs.driving.outgoing.write_outbox.Given as goal

abbrev pub invariant-loop-out : goal.invariant-loop-out
invariant-loop-out g l = record {
  written : Writes (g.S.Wire.octets_written l.fn.wire) l.fn.out (g.S.Wire.octets_written l.wire) l.out;
  read : g.S.Wire.octets_read l.wire ≡ g.S.Wire.octets_read l.fn.wire;
  lengths : g.S.Wire.read_lengths l.wire ≡ g.S.Wire.read_lengths l.fn.wire;
  flag : g.S.Wire.has_failed l.wire ≡ false;
}

abbrev pub decreases-loop-out : goal.decreases-loop-out
decreases-loop-out g l = length l.out
