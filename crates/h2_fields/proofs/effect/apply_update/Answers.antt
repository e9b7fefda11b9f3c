use Rattle.std.proofs.Common.{refl, ap}
use Rattle.h2_spec.specs.Hpack.Block.{has_fields}
use Rattle.h2_spec.proofs.BlockLaws.{applied-update, applied-update_late, applied-update_large}
use Rattle.h2_table.specs.Edits.{EditOf}
use Rattle.h2_fields.specs.Applied.{progress_in}
use Rattle.h2_hpack_instruction.specs.Faults.{refusal}
use Rattle.h2_fields.proofs.Applying.{not-false, not-true, not_above}
use Rattle.h2_fields.proofs.effect.apply_update.Goals as goal

pub returns-then-not-is_empty-clause-applied : goal.returns-then-not-is_empty-clause-applied
returns-then-not-is_empty-clause-applied g c = λ _.
    let p = progress_in c.args.collected.now c.args.table.now c.args.edit.now in
    (refl, ap refusal (applied-update_late c.args.table.now.limit p c.args.max (not-false (has_fields p.fields) c.if-not-is_empty.ensures)))

pub returns-in-Ok-clause-applied : goal.returns-in-Ok-clause-applied
returns-in-Ok-clause-applied g c =
    let p = progress_in c.args.collected.now c.args.table.now c.args.edit.now in
    let empty = not-true (has_fields p.fields) c.if-not-is_empty.ensures in
    rw (c.update_came.ensures, c.in-Ok.ensures.resized) (applied-update c.args.table.now.limit p c.args.max empty (not_above c.args.table.now.limit c.args.max c.in-Ok.ensures.over_limit.1))

pub returns-in-Err-clause-applied : goal.returns-in-Err-clause-applied
returns-in-Err-clause-applied g c = λ _.
    let p = progress_in c.args.collected.now c.args.table.now c.args.edit.now in
    let empty = not-true (has_fields p.fields) c.if-not-is_empty.ensures in
    (ap (λ (e : EditOf). progress_in c.args.collected.now c.args.table.now e) c.in-Err.ensures.unchanged, ap refusal (applied-update_large c.args.table.now.limit p c.args.max empty (c.in-Err.ensures.over_limit.0 refl)))
