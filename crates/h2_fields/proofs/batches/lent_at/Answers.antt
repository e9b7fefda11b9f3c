use Rattle.std.proofs.Common.{◌≡◌, IfSome, option_map, slice_get, sym, subst}
use Rattle.h2_table.specs.Lent.{IsMarked, field_lent}
use Rattle.h2_fields.proofs.batches.lent_at.Goals as goal

pub returns-in_err-name-clause-field : goal.returns-in_err-name-clause-field
returns-in_err-name-clause-field g c = subst (λ r. option_map field_lent r ≡ slice_get c.args.list.now.fields c.args.place) (sym c.from_residual.ensures) c.in_err-name.ensures

pub returns-in_err-name-clause-marked : goal.returns-in_err-name-clause-marked
returns-in_err-name-clause-marked g c = subst (λ r. IfSome r IsMarked) (sym c.from_residual.ensures) tt

pub bounds-marks-place : goal.bounds-marks-place
bounds-marks-place g c = c.if-place-marks.false

pub returns-clause-field : goal.returns-clause-field
returns-clause-field g c = c.in_ok-name.ensures
