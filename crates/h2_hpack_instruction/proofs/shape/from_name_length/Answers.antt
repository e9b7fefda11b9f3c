use Rattle.std.proofs.Common.{◌≡◌, ◌+◌, ap, ◌∙◌, subst, refl, arith, drop}
use Rattle.h2_hpack_instruction.specs.Resume.{NameLength, NameOctets, IsReadOn, huffman_flag}
use Rattle.h2_hpack_instruction.specs.Shapes.{mode_of}
use Rattle.h2_hpack_instruction.specs.declared.shape.Known.TheVariants as known
use Rattle.h2_hpack_instruction.specs.declared.shape.Point.{Point}
use Rattle.h2_hpack_instruction.proofs.Resuming.{goes-on, stops-at_length, name-length, name-length-more, name-length-too_long}
use Rattle.h2_hpack_instruction.proofs.shape.from_name_length.Goals as goal

pub returns-in-Whole : goal.returns-in-Whole
returns-in-Whole c =
    let b = c.args.octets.now in
    let at = c.args.at in
    let mode = mode_of c.args.mode in
    let count = c.in-Whole.count in
    let used = c.in-Whole.used in
    let flag : c.is_huffman-huffman.result ≡ huffman_flag (drop at b) = c.is_huffman-huffman.ensures ∙ ap huffman_flag c.octets_from.ensures in
    let read = subst (λ f. IsReadOn b (NameOctets mode f count) (at + used) (at + used + count) c.from_name.result) flag c.from_name.ensures in
    goes-on b (NameLength mode) (NameOctets mode (huffman_flag (drop at b)) count) at (at + used) at (at + used + count) c.from_name.result (name-length b at mode count used c.requires.begins.1 c.in-Whole.ensures.value) (omega arith) read

pub returns-in-More : goal.returns-in-More
returns-in-More c =
    let b = c.args.octets.now in
    let p : Point = record { known = known.NameLength c.args.mode; at = c.args.at; passed = c.args.at } in
    (name-length-more b c.args.at (mode_of c.args.mode) c.in-More.ensures.value, stops-at_length b p c.requires.begins.1 c.in-More.ensures.place refl (c.requires.begins.0, refl))

pub returns-in-TooLong : goal.returns-in-TooLong
returns-in-TooLong c = name-length-too_long c.args.octets.now c.args.at (mode_of c.args.mode) c.in-TooLong.ensures.value
