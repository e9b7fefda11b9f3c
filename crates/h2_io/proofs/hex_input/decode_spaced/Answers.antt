use Rattle.std.proofs.Common.{◌∙◌, ◌≤◌, ap, sym, take, arith}
use Rattle.h2_spec.specs.Requests.AnswerWords.{body_of}
use Rattle.h2_io.specs.HexText.{most_octets}
use Rattle.h2_io.proofs.HexBlocks.{spaced-decoded, spaced-refused}
use Rattle.h2_io.proofs.hex_input.decode_spaced.Goals as goal

pub returns-in-Some-clause-spelled : goal.returns-in-Some-clause-spelled
returns-in-Some-clause-spelled c =
    let t = c.take_digits-used in
    spaced-decoded c.args.text.now t.new.digits.items (take c.in-Some.count c.decode_block.new.block) t.result t.ensures.digits
    (ap body_of (sym c.as_slice.ensures.value) ∙ c.in-Some.ensures.some)

pub returns-in-Some-clause-within : goal.returns-in-Some-clause-within
returns-in-Some-clause-within c =
    let t = c.take_digits-used in
    let few : c.in-Some.count ≤ most_octets = omega (arith, c.in-Some.ensures.count, c.as_slice.ensures.fits) in
    (t.ensures.some c.requires.some, t.ensures.within, few)

pub returns-in-None-clause-none : goal.returns-in-None-clause-none
returns-in-None-clause-none c =
    let t = c.take_digits-used in
    spaced-refused c.args.text.now t.new.digits.items t.result t.ensures.digits t.ensures.few t.ensures.whole
    (ap body_of (sym c.as_slice.ensures.value) ∙ c.in-None.ensures.none)

pub decode_block-requires-clause-block : goal.decode_block-requires-clause-block
decode_block-requires-clause-block c = c.requires.block
