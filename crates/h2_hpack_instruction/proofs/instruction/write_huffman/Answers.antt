use Rattle.std.proofs.Common.{◌≡◌, ◌++◌, ℕ, length, ap, ◌∙◌, arith}
use Rattle.h2_spec.specs.Hpack.Huffman.{spell_huffman}
use Rattle.h2_spec.specs.Hpack.Integer.{spell_int}
use Rattle.h2_hpack_instruction.proofs.Appending.{before-call, before-two, both}
use Rattle.h2_hpack_instruction.proofs.Lengths.{string-short}
use Rattle.h2_hpack_instruction.proofs.instruction.write_huffman.Goals as goal

pub overflow_cast-huff_len : goal.overflow_cast-huff_len
overflow_cast-huff_len g c = let short = string-short c.args.text.now c.requires in omega (arith, short, c.huff_len.ensures)

pub returns : goal.returns
returns g c =
    let out = c.args.out.now in
    let mid = c.write_int.new.out in
    let now = c.huff_write.new.out.items in
    let octets = spell_huffman c.args.text.now in
    let head = spell_int 7 128 (length octets) in
    let first : mid.items ≡ out.items ++ head = c.in_ok-write_int.ensures.ok ∙ ap (λ (n : ℕ). out.items ++ spell_int 7 128 n) c.huff_len.ensures in
    record {
      ok = both c.huff_write.result out.items head octets mid.items now first c.huff_write.ensures.ok;
      kept = before-two out mid head now first (before-call c.huff_write.result mid octets now c.huff_write.ensures.ok c.huff_write.ensures.err);
    }
