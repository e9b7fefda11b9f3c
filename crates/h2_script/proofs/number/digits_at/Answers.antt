use Rattle.std.proofs.Common.{◌∙◌, ℕ, drop, ◌<◌, ◌+◌, ◌*◌, ap, sym, arith}
use Rattle.h2_spec.specs.Texts.Assemble.{scanned}
use Rattle.h2_script.proofs.Scans.{power_more, scan_digit, scan_end, scan_high, scan_low}
use Rattle.h2_script.proofs.number.digits_at.Goals as goal

pub returns-then-digit-lt48 : goal.returns-then-digit-lt48
returns-then-digit-lt48 c =
    sym (sym c.loop-digit.invariant.so_far ∙ scan_low c.loop-digit.number c.loop-digit.digit-index c.args.text.now c.loop-digit-test.true c.if-digit-lt48.true)

pub returns-then-digit-gt57 : goal.returns-then-digit-gt57
returns-then-digit-gt57 c =
    sym (sym c.loop-digit.invariant.so_far ∙ scan_high c.loop-digit.number c.loop-digit.digit-index c.args.text.now c.loop-digit-test.true c.if-digit-gt57.true)

pub loop-digit-preserved : goal.loop-digit-preserved
loop-digit-preserved c =
    let s = c.args.text.now in
    let i = c.loop-digit.digit-index in
    let step = scan_digit c.loop-digit.number i s c.loop-digit-test.true c.if-digit-lt48.false c.if-digit-gt57.false in
    let digit : c.from.result < 10 = omega (arith, c.from.ensures) in
    record {
      so_far = ap (λ (d : ℕ). scanned (c.loop-digit.number * 10 + d) (drop (i + 1) s)) c.from.ensures ∙ sym step ∙ c.loop-digit.invariant.so_far;
      small = power_more c.loop-digit.number c.from.result i c.loop-digit.invariant.small digit;
    }

pub returns : goal.returns
returns c = sym (sym c.loop-digit.invariant.so_far ∙ scan_end c.loop-digit.number c.loop-digit.digit-index c.args.text.now c.loop-digit-test.false)
