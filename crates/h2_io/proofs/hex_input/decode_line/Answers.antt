use Rattle.std.proofs.Common.{◌∙◌, ◌<◌, ◌≤◌, ap, sym, length, take, arith}
use Rattle.std.proofs.lemmas.List.{length-take-le}
use Rattle.h2_spec.specs.Requests.AnswerWords.{body_of}
use Rattle.h2_io.specs.HexText.{most_digits, most_octets}
use Rattle.h2_io.proofs.HexBlocks.{plain-decoded}
use Rattle.h2_io.proofs.hex_input.decode_line.Goals as goal

pub decode_block-requires-clause-few : goal.decode_block-requires-clause-few
decode_block-requires-clause-few c =
    let long = ap (λ xs. length xs) c.octets_up_to.ensures ∙ length-take-le c.digits_ahead-used.result c.args.text.now c.digits_ahead-used.ensures.within in
    let few : length c.octets_up_to.result.now ≤ most_digits = omega (arith, long, c.digits_ahead-used.ensures.few) in
    few

pub decode_block-requires-clause-block : goal.decode_block-requires-clause-block
decode_block-requires-clause-block c = c.requires.block

pub returns-in-Some-clause-spelled : goal.returns-in-Some-clause-spelled
returns-in-Some-clause-spelled c =
    plain-decoded c.args.text.now (take c.in-Some.count c.decode_block.new.block) c.digits_ahead-used.result
    (ap body_of (sym c.octets_up_to.ensures) ∙ c.in-Some.ensures.some)

pub returns-in-Some-clause-within : goal.returns-in-Some-clause-within
returns-in-Some-clause-within c =
    let used = c.digits_ahead-used in
    let some : 0 < used.result = omega (arith, c.if-used-lt-LINE.false) in
    let long = ap (λ xs. length xs) c.octets_up_to.ensures ∙ length-take-le used.result c.args.text.now used.ensures.within in
    let few : c.in-Some.count ≤ most_octets = omega (arith, c.in-Some.ensures.count, long, used.ensures.few) in
    (some, used.ensures.within, few)

pub returns-then-used-lt-LINE-clause-spelled : goal.returns-then-used-lt-LINE-clause-spelled
returns-then-used-lt-LINE-clause-spelled c = c.decode_spaced.ensures.spelled

pub returns-then-used-lt-LINE-clause-within : goal.returns-then-used-lt-LINE-clause-within
returns-then-used-lt-LINE-clause-within c = c.decode_spaced.ensures.within

pub returns-then-used-lt-LINE-clause-none : goal.returns-then-used-lt-LINE-clause-none
returns-then-used-lt-LINE-clause-none c = c.decode_spaced.ensures.none

pub returns-then-used-lt-LINE-clause-same : goal.returns-then-used-lt-LINE-clause-same
returns-then-used-lt-LINE-clause-same c = c.decode_spaced.ensures.same

pub returns-in-None-clause-spelled : goal.returns-in-None-clause-spelled
returns-in-None-clause-spelled c = c.decode_spaced-in-None.ensures.spelled

pub returns-in-None-clause-within : goal.returns-in-None-clause-within
returns-in-None-clause-within c = c.decode_spaced-in-None.ensures.within

pub returns-in-None-clause-none : goal.returns-in-None-clause-none
returns-in-None-clause-none c = c.decode_spaced-in-None.ensures.none

pub returns-in-None-clause-same : goal.returns-in-None-clause-same
returns-in-None-clause-same c = c.decode_spaced-in-None.ensures.same ∙ c.decode_block.ensures.same
