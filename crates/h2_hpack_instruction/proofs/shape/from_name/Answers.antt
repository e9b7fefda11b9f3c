use Rattle.std.proofs.Common.{◌≤◌, ◌+◌, length, drop, subst, arith, ℕ, List}
use Rattle.h2_hpack_instruction.specs.Resume.{NameOctets, ValueLength, name_at}
use Rattle.h2_hpack_instruction.specs.Shapes.{mode_of}
use Rattle.h2_hpack_instruction.specs.declared.shape.PartialName.TheVariants as name
use Rattle.h2_hpack_instruction.proofs.Resuming.{goes-on, name-whole}
use Rattle.h2_hpack_instruction.proofs.shape.from_name.Goals as goal

pub returns-then-count-octets_from : goal.returns-then-count-octets_from
returns-then-count-octets_from c =
    let b = c.args.octets.now in
    let at = c.args.at in
    let mode = mode_of c.args.mode in
    let count = c.args.count in
    let whole : count ≤ length (drop at b) = subst (λ (xs : List ℕ). count ≤ length xs) c.octets_from.ensures c.if-count-octets_from.true in
    goes-on b (NameOctets mode c.args.huffman count) (ValueLength mode (name_at b (name.Named c.args.huffman at count))) at (at + count) (at + count) (at + count) c.from_value_length.result (name-whole b at mode c.args.huffman count c.requires.begins.1 whole) (omega arith) c.from_value_length.ensures
