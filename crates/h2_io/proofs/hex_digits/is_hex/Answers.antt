use Rattle.std.proofs.Common.{◌≡◌, ◌∙◌, ◌<◌, List, ℕ, is_some, length, drop, ap, sym, arith}
use Rattle.std.proofs.lemmas.List.{length-drop, nil_from_length}
use Rattle.h2_spec.specs.Requests.AnswerWords.{body_of}
use Rattle.h2_io.proofs.HexBlocks.{block-decoded, block-refused, end-some, last-or-even, refused-some, step-some}
use Rattle.h2_io.proofs.hex_digits.is_hex.Goals as goal

pub loop-rest-preserved : goal.loop-rest-preserved
loop-rest-preserved c =
    let rest = c.loop-rest.rest.now in
    let front = block-decoded rest _ c.min-count.result (ap body_of (sym c.octets_up_to.ensures) ∙ c.in-Some.ensures.some) in
    step-some (body_of c.args.digits.now) (body_of rest) (body_of (drop c.min-count.result rest)) _ c.loop-rest.invariant front
    ∙ ap (λ (xs : List ℕ). is_some (body_of xs)) (sym c.octets_from-rest.ensures)

pub returns : goal.returns
returns c =
    let none : length c.loop-rest.rest.now ≡ 0 = grind (arith, c.loop-rest-test.ensures) in
    sym (end-some (body_of c.args.digits.now) c.loop-rest.rest.now c.loop-rest.invariant (nil_from_length c.loop-rest.rest.now none))

pub returns-in_default : goal.returns-in_default
returns-in_default c =
    let rest = c.loop-rest.rest.now in
    let count = c.min-count.result in
    let refused = block-refused rest count (last-or-even rest count c.min-count.ensures) (ap body_of (sym c.octets_up_to.ensures) ∙ c.in_default.ensures.none) in
    sym (refused-some (body_of c.args.digits.now) (body_of rest) c.loop-rest.invariant refused)

pub loop-rest-smaller : goal.loop-rest-smaller
loop-rest-smaller c =
    let passed = ap (λ (xs : List ℕ). length xs) c.octets_from-rest.ensures ∙ length-drop c.min-count.result c.loop-rest.rest.now in
    let less : length c.octets_from-rest.result.now < length c.loop-rest.rest.now = grind (arith, passed, c.min-count.ensures, c.loop-rest-test.ensures) in
    less

pub octets_up_to-requires : goal.octets_up_to-requires
octets_up_to-requires c = omega (arith, c.min-count.ensures)

pub decode_block-requires-clause-block : goal.decode_block-requires-clause-block
decode_block-requires-clause-block c = c.octets_up_to.array_long

pub octets_from-rest-requires : goal.octets_from-rest-requires
octets_from-rest-requires c = omega (arith, c.min-count.ensures)
