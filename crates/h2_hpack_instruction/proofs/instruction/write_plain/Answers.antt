use Rattle.std.proofs.Common.{length}
use Rattle.h2_spec.specs.Hpack.Integer.{spell_int}
use Rattle.h2_hpack_instruction.proofs.Appending.{before-call, before-two, both, extended}
use Rattle.h2_hpack_instruction.proofs.instruction.write_plain.Goals as goal

pub returns : goal.returns
returns g c =
    let out = c.args.out.now in
    let mid = c.write_int.new.out in
    let now = c.extend_from_slice.new.self.items in
    let octets = c.args.octets.now in
    let head = spell_int 7 0 (length octets) in
    let first = c.in_ok-write_int.ensures.ok in
    let more = extended c.extend_from_slice.result mid.items octets now c.extend_from_slice.ensures.items in
    record {
      ok = both c.extend_from_slice.result out.items head octets mid.items now first more.0;
      kept = before-two out mid head now first (before-call c.extend_from_slice.result mid octets now more.0 more.1);
    }
