use Rattle.std.proofs.Common.{Some, Ok, refl, ap, sym, ◌∙◌}
use Rattle.h2_table.specs.Lent.{field_lent}
use Rattle.h2_spec.proofs.BlockLaws.{applied-indexed_due, applied-indexed, applied-no_index}
use Rattle.h2_fields.specs.Applied.{progress_in}
use Rattle.h2_hpack_instruction.specs.Faults.{refusal}
use Rattle.h2_fields.proofs.effect.apply_indexed.Goals as goal

pub returns-then-is_due-clause-applied : goal.returns-then-is_due-clause-applied
returns-then-is_due-clause-applied g c = λ _.
    let p = progress_in c.args.collected.now c.args.table.now c.args.edit.now in
    (refl, ap refusal (applied-indexed_due c.args.table.now.limit p c.args.index (sym c.if-is_due.ensures)))

pub returns-in-None-clause-applied : goal.returns-in-None-clause-applied
returns-in-None-clause-applied g c = λ _.
    let p = progress_in c.args.collected.now c.args.table.now c.args.edit.now in
    (refl, ap refusal (applied-no_index c.args.table.now.limit p c.args.index (sym c.if-is_due.ensures) (sym c.in-None.ensures.field)) ∙ ap Some (sym c.index_fault.ensures))

pub returns-in_ok-add_indexed-in-Some-clause-applied : goal.returns-in_ok-add_indexed-in-Some-clause-applied
returns-in_ok-add_indexed-in-Some-clause-applied g c =
    let p = progress_in c.args.collected.now c.args.table.now c.args.edit.now in
    applied-indexed c.args.table.now.limit p c.args.index (field_lent c.in-Some.found) (sym c.if-is_due.ensures) (sym c.in-Some.ensures.field)
    ∙ ap (λ s. Ok (progress_in s c.args.table.now c.args.edit.now)) (sym c.in_ok-add_indexed-in-Some.ensures.ok)
