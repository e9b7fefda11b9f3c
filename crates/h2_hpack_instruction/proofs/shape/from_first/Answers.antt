use Rattle.std.proofs.Common.{◌≡◌, length, arith, rules, refl, sym, ◌∙◌, le-leb}
use Rattle.std.proofs.lemmas.Bool.{lt-leb}
use Rattle.h2_spec.specs.Hpack.Instruction.{instr_at}
use Rattle.h2_hpack_instruction.proofs.Reading.{instr-none}
use Rattle.h2_hpack_instruction.proofs.Resuming.{first-announces, past-zero, stops-at_start}
use Rattle.h2_hpack_instruction.proofs.shape.from_first.Goals as goal

pub returns-in_default : goal.returns-in_default
returns-in_default c =
    let b = c.args.octets.now in
    let none : length b ≡ 0 = search rules in
    (past-zero (instr_at b) ∙ sym (instr-none b none), stops-at_start b c.start.result (c.start.ensures.anywhere b) c.start.ensures.passed (omega (arith, none)))

pub indexed-requires : goal.indexed-requires
indexed-requires c = record {
  announced = λ more. first-announces c.args.octets.now c.in-Some.field-0-1.now c.in-Some.first.now c.in-Some.ensures.cases.0 more ∙ rw (le-leb 128 c.in-Some.first.now c.if-first-ge128.true) refl;
}

pub literal-requires : goal.literal-requires
literal-requires c = record {
  announced = λ more.
      let o = c.in-Some.first.now in
      first-announces c.args.octets.now c.in-Some.field-0-1.now o c.in-Some.ensures.cases.0 more ∙ rw (lt-leb 128 o c.if-first-ge128.false, le-leb 64 o c.if-first-ge64.true) refl;
}

pub update-requires : goal.update-requires
update-requires c = record {
  announced = λ more.
      let o = c.in-Some.first.now in
      first-announces c.args.octets.now c.in-Some.field-0-1.now o c.in-Some.ensures.cases.0 more ∙ rw (lt-leb 128 o c.if-first-ge128.false, lt-leb 64 o c.if-first-ge64.false, le-leb 32 o c.if-first-ge32.true) refl;
}

pub literal-requires-then-first-ge16 : goal.literal-requires-then-first-ge16
literal-requires-then-first-ge16 c = record {
  announced = λ more.
      let o = c.in-Some.first.now in
      first-announces c.args.octets.now c.in-Some.field-0-1.now o c.in-Some.ensures.cases.0 more
      ∙ rw (lt-leb 128 o c.if-first-ge128.false, lt-leb 64 o c.if-first-ge64.false, lt-leb 32 o c.if-first-ge32.false, le-leb 16 o c.if-first-ge16.true) refl;
}

pub literal-requires-else-first-ge16 : goal.literal-requires-else-first-ge16
literal-requires-else-first-ge16 c = record {
  announced = λ more.
      let o = c.in-Some.first.now in
      first-announces c.args.octets.now c.in-Some.field-0-1.now o c.in-Some.ensures.cases.0 more
      ∙ rw (lt-leb 128 o c.if-first-ge128.false, lt-leb 64 o c.if-first-ge64.false, lt-leb 32 o c.if-first-ge32.false, lt-leb 16 o c.if-first-ge16.false) refl;
}
