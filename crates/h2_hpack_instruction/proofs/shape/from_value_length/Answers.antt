use Rattle.std.proofs.Common.{◌≡◌, ◌+◌, ap, ◌∙◌, subst, refl, arith, drop}
use Rattle.h2_hpack_instruction.specs.Resume.{ValueLength, ValueOctets, IsReadOn, name_at, huffman_flag}
use Rattle.h2_hpack_instruction.specs.Shapes.{mode_of}
use Rattle.h2_hpack_instruction.specs.declared.shape.Known.TheVariants as known
use Rattle.h2_hpack_instruction.specs.declared.shape.Point.{Point}
use Rattle.h2_hpack_instruction.proofs.Resuming.{goes-on, name-further, stops-at_length, value-length, value-length-more, value-length-too_long}
use Rattle.h2_hpack_instruction.proofs.shape.from_value_length.Goals as goal

pub from_value-requires : goal.from_value-requires
from_value-requires c = record { begins = (name-further c.args.at (c.args.at + c.in-Whole.used) c.args.name (omega arith) c.requires.begins.0, c.in-Whole.ensures.place.1) }

pub returns-in-Whole : goal.returns-in-Whole
returns-in-Whole c =
    let b = c.args.octets.now in
    let at = c.args.at in
    let mode = mode_of c.args.mode in
    let name = name_at b c.args.name in
    let count = c.in-Whole.count in
    let used = c.in-Whole.used in
    let flag : c.is_huffman-huffman.result ≡ huffman_flag (drop at b) = c.is_huffman-huffman.ensures ∙ ap huffman_flag c.octets_from.ensures in
    let read = subst (λ f. IsReadOn b (ValueOctets mode name f count) (at + used) (at + used + count) c.from_value.result) flag c.from_value.ensures in
    goes-on b (ValueLength mode name) (ValueOctets mode name (huffman_flag (drop at b)) count) at (at + used) at (at + used + count) c.from_value.result (value-length b at mode name count used c.requires.begins.1 c.in-Whole.ensures.value) (omega arith) read

pub returns-in-More : goal.returns-in-More
returns-in-More c =
    let b = c.args.octets.now in
    let p : Point = record { known = known.ValueLength c.args.mode c.args.name; at = c.args.at; passed = c.args.at } in
    (value-length-more b c.args.at (mode_of c.args.mode) (name_at b c.args.name) c.in-More.ensures.value, stops-at_length b p c.requires.begins.1 c.in-More.ensures.place refl (c.requires.begins.0, refl))

pub returns-in-TooLong : goal.returns-in-TooLong
returns-in-TooLong c = value-length-too_long c.args.octets.now c.args.at (mode_of c.args.mode) (name_at c.args.octets.now c.args.name) c.in-TooLong.ensures.value
