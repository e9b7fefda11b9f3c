use Rattle.std.proofs.Common.{◌∙◌, ◌<◌, ◌≤◌, ap, sym, length, take, arith}
use Rattle.std.proofs.lemmas.List.{length-take-le}
use Rattle.h2_spec.specs.Requests.AnswerWords.{body_of}
use Rattle.h2_io.specs.HexText.{most_octets}
use Rattle.h2_io.proofs.HexBlocks.{plain-decoded}
use Rattle.h2_io.proofs.hex_input.decode_front.Goals as goal

pub decode_block-requires-clause-block : goal.decode_block-requires-clause-block
decode_block-requires-clause-block c = c.requires.block

pub returns-in-Some-clause-spelled : goal.returns-in-Some-clause-spelled
returns-in-Some-clause-spelled c =
    plain-decoded c.args.text.now (take c.in-Some.count c.decode_block.new.block) c.min-used.result
    (ap body_of (sym c.octets_up_to.ensures) ∙ c.in-Some.ensures.some)

pub returns-in-Some-clause-within : goal.returns-in-Some-clause-within
returns-in-Some-clause-within c =
    let used = c.min-used.result in
    let text = c.args.text.now in
    let some : 0 < used = omega (arith, c.min-used.ensures, c.requires.some, c.requires.width) in
    let within : used ≤ length text = omega (arith, c.min-used.ensures) in
    let long = ap (λ xs. length xs) c.octets_up_to.ensures ∙ length-take-le used text within in
    let few : c.in-Some.count ≤ most_octets = omega (arith, c.in-Some.ensures.count, long, c.min-used.ensures, c.requires.few) in
    (some, within, few)
