use Rattle.std.proofs.Common.{ap, ◌∙◌, sym, arith}
use Rattle.h2_spec.specs.Hpack.Instruction as spec
use Rattle.h2_spec.specs.Read.{read_map}
use Rattle.h2_hpack_instruction.proofs.Resuming.{announced, stops-at_start}
use Rattle.h2_hpack_instruction.proofs.shape.indexed.Goals as goal

pub returns-in-Whole : goal.returns-in-Whole
returns-in-Whole c =
    let place = c.in-Whole.ensures.place in
    (announced 7 spec.Indexed c.args.octets.now c.requires.announced ∙ ap (read_map spec.Indexed) (sym c.in-Whole.ensures.value), record { within = omega (arith, place.1); passed = omega arith; huffman = place.0 })

pub returns-in-More : goal.returns-in-More
returns-in-More c =
    let b = c.args.octets.now in
    (announced 7 spec.Indexed b c.requires.announced ∙ ap (read_map spec.Indexed) (sym c.in-More.ensures.value), stops-at_start b c.start.result (c.start.ensures.anywhere b) c.start.ensures.passed (omega (arith, c.in-More.ensures.place)))

pub returns-in-TooLong : goal.returns-in-TooLong
returns-in-TooLong c = announced 7 spec.Indexed c.args.octets.now c.requires.announced ∙ ap (read_map spec.Indexed) (sym c.in-TooLong.ensures.value)
