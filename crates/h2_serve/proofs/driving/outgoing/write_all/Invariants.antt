use Rattle.std.proofs.Common.{◌≡◌, ◌≤◌, ◌-◌, take, vec_len, false}
use Rattle.h2_serve.specs.Wires.{grown}
use Rattle.h2_serve.proofs.driving.outgoing.write_all.Given as goal

abbrev pub invariant-loop-done : goal.invariant-loop-done
invariant-loop-done g l = record {
  within : l.done ≤ vec_len l.out;
  out : l.out.items ≡ l.fn.out.items;
  written : g.S.Wire.octets_written l.wire ≡ grown (g.S.Wire.octets_written l.fn.wire) (take l.done l.fn.out.items);
  read : g.S.Wire.octets_read l.wire ≡ g.S.Wire.octets_read l.fn.wire;
  lengths : g.S.Wire.read_lengths l.wire ≡ g.S.Wire.read_lengths l.fn.wire;
  flag : g.S.Wire.has_failed l.wire ≡ false;
}

abbrev pub decreases-loop-done : goal.decreases-loop-done
decreases-loop-done g l = vec_len l.out - l.done
