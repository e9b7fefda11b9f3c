use Rattle.std.proofs.Common.{ap, ◌∙◌, sym}
use Rattle.h2_spec.specs.Hpack.Instruction.{Indexed, instr_at}
use Rattle.h2_spec.specs.Read.{Whole}
use Rattle.h2_hpack_instruction.proofs.Reading.{short-index}
use Rattle.h2_hpack_instruction.proofs.shape.short_index.Goals as goal

pub returns-in-Some-clause-read : goal.returns-in-Some-clause-read
returns-in-Some-clause-read c =
    let o = c.in-Some.first.now in
    ap instr_at c.in-Some.ensures.cases.0 ∙ short-index o c.in-Some.field-0-1.now c.if-first-ge128.true c.if-first-lt255.true ∙ ap (λ i. Whole (Indexed i) 1) (sym c.from.ensures)
