use Rattle.std.proofs.Common.{◌≡◌, ◌∙◌, ◌<◌, List, Option, ℕ, is_some, length, filter, ap, sym, arith}
use Rattle.std.proofs.lemmas.List.{length-drop, nil_from_length}
use Rattle.h2_io.specs.HexText.{all_in_front, is_digit, octets_spelled}
use Rattle.h2_io.proofs.HexBlocks.{end-some, refused-some, step-some}
use Rattle.h2_io.proofs.hex_input.is_hex_text.Goals as goal

pub loop-rest-init : goal.loop-rest-init
loop-rest-init c = record {
  spelled = ap (λ (o : Option (List ℕ)). is_some o) (sym c.after_spaces-rest.ensures.spelled);
  some = omega arith;
  few = omega arith;
}

pub returns-in_default : goal.returns-in_default
returns-in_default c =
    sym (refused-some (octets_spelled c.args.text.now) (octets_spelled c.loop-rest.rest.now) c.loop-rest.invariant.spelled c.in_default.ensures.none)

pub octets_from-after-requires : goal.octets_from-after-requires
octets_from-after-requires c = c.in-Some.ensures.within.1

pub width_after-width-requires : goal.width_after-width-requires
width_after-width-requires c = c.in-Some.ensures.within.0

pub loop-rest-smaller : goal.loop-rest-smaller
loop-rest-smaller c =
    let passed = ap (λ (xs : List ℕ). length xs) c.octets_from-after.ensures ∙ length-drop c.in-Some.used c.loop-rest.rest.now in
    let less : length c.after_spaces-rest-in-loop-rest.result.now < length c.loop-rest.rest.now =
    omega (arith, c.after_spaces-rest-in-loop-rest.ensures.within, passed, c.in-Some.ensures.within.0, c.in-Some.ensures.within.1) in
    less

pub loop-rest-preserved : goal.loop-rest-preserved
loop-rest-preserved c =
    let after = octets_spelled c.after_spaces-rest-in-loop-rest.result.now in
    let passed = ap octets_spelled (sym c.octets_from-after.ensures) ∙ sym c.after_spaces-rest-in-loop-rest.ensures.spelled in
    record {
      spelled =
          step-some (octets_spelled c.args.text.now) (octets_spelled c.loop-rest.rest.now) after _ c.loop-rest.invariant.spelled
          (c.in-Some.ensures.spelled ∙ ap (all_in_front _) passed);
      some = c.width_after-width.ensures.some;
      few = c.width_after-width.ensures.few;
    }

pub returns : goal.returns
returns c =
    let none : length c.loop-rest.rest.now ≡ 0 = grind (arith, c.loop-rest-test.ensures) in
    sym (end-some (octets_spelled c.args.text.now) (filter is_digit c.loop-rest.rest.now) c.loop-rest.invariant.spelled (ap (filter is_digit) (nil_from_length c.loop-rest.rest.now none)))
