use Rattle.std.proofs.Common.{◌≡◌, ◌∙◌, ◌<◌, ◌++◌, ap, sym, length, take, arith}
use Rattle.std.proofs.lemmas.List.{length-drop, nil_from_length}
use Rattle.std.proofs.lemmas.Result.{IfOk-from_err}
use Rattle.h2_io.specs.HexText.{all_in_front, octets_spelled}
use Rattle.h2_io.proofs.HexBlocks.{end-decoded, none-decoded, refused-decoded, step-decoded}
use Rattle.h2_io.proofs.hex_input.decode_text.Goals as goal

pub returns-in_err-reserve-clause-hex : goal.returns-in_err-reserve-clause-hex
returns-in_err-reserve-clause-hex g c = IfOk-from_err c.from_residual.result _ c.from_residual.ensures.0

pub returns-in_err-reserve-clause-none : goal.returns-in_err-reserve-clause-none
returns-in_err-reserve-clause-none g c = IfOk-from_err c.from_residual.result _ c.from_residual.ensures.0

pub loop-rest-init : goal.loop-rest-init
loop-rest-init g c = record {
  spelled =
      sym c.after_spaces-rest.ensures.spelled
      ∙ none-decoded (octets_spelled c.after_spaces-rest.result.now) c.reserve.new.self.items (c.in_ok-reserve.ensures.items ∙ c.requires);
  some = omega arith;
  few = omega arith;
}

pub decode_front-requires-clause-block : goal.decode_front-requires-clause-block
decode_front-requires-clause-block g c = c.loop-rest-test.array_long

pub returns-in_default-clause-none : goal.returns-in_default-clause-none
returns-in_default-clause-none g c = λ _.
    refused-decoded (octets_spelled c.args.text.now) (octets_spelled c.loop-rest.rest.now) c.loop-rest.octets.items c.loop-rest.invariant.spelled c.in_default.ensures.none

pub octets_up_to-requires : goal.octets_up_to-requires
octets_up_to-requires g c = omega (arith, c.in-Some.ensures.within.2, c.in-Some.ensures.same, c.loop-rest-test.array_long)

pub returns-in_err-extend_from_slice-clause-hex : goal.returns-in_err-extend_from_slice-clause-hex
returns-in_err-extend_from_slice-clause-hex g c = IfOk-from_err c.from_residual-in_err-extend_from_slice.result _ c.from_residual-in_err-extend_from_slice.ensures.0

pub returns-in_err-extend_from_slice-clause-none : goal.returns-in_err-extend_from_slice-clause-none
returns-in_err-extend_from_slice-clause-none g c = IfOk-from_err c.from_residual-in_err-extend_from_slice.result _ c.from_residual-in_err-extend_from_slice.ensures.0

pub octets_from-after-requires : goal.octets_from-after-requires
octets_from-after-requires g c = c.in-Some.ensures.within.1

pub width_after-width-requires : goal.width_after-width-requires
width_after-width-requires g c = c.in-Some.ensures.within.0

pub loop-rest-smaller : goal.loop-rest-smaller
loop-rest-smaller g c =
    let passed = ap (λ xs. length xs) c.octets_from-after.ensures ∙ length-drop c.in-Some.used c.loop-rest.rest.now in
    let less : length c.after_spaces-rest-in-loop-rest.result.now < length c.loop-rest.rest.now =
    omega (arith, c.after_spaces-rest-in-loop-rest.ensures.within, passed, c.in-Some.ensures.within.0, c.in-Some.ensures.within.1) in
    less

pub loop-rest-preserved : goal.loop-rest-preserved
loop-rest-preserved g c =
    let block = take c.in-Some.count c.decode_front.new.block in
    let octets = c.loop-rest.octets.items in
    let after = octets_spelled c.after_spaces-rest-in-loop-rest.result.now in
    let passed = ap octets_spelled (sym c.octets_from-after.ensures) ∙ sym c.after_spaces-rest-in-loop-rest.ensures.spelled in
    record {
      spelled =
          step-decoded (octets_spelled c.args.text.now) (octets_spelled c.loop-rest.rest.now) after octets block c.extend_from_slice.new.self.items
          c.loop-rest.invariant.spelled
          (c.in-Some.ensures.spelled ∙ ap (all_in_front block) passed)
          (◌∙◌ {b = octets ++ c.octets_up_to.result.now} c.in_ok-extend_from_slice.ensures.items (ap (λ xs. octets ++ xs) c.octets_up_to.ensures));
      some = c.width_after-width.ensures.some;
      few = c.width_after-width.ensures.few;
    }

pub returns-clause-hex : goal.returns-clause-hex
returns-clause-hex g c = λ _.
    let none : length c.loop-rest.rest.now ≡ 0 = grind (arith, c.loop-rest-test.ensures) in
    end-decoded (octets_spelled c.args.text.now) c.loop-rest.octets.items c.loop-rest.rest.now c.loop-rest.invariant.spelled (nil_from_length c.loop-rest.rest.now none)
