use Rattle.std.proofs.Common.{◌∷◌, [], inl, inr, refl, ap, sym, ◌∙◌}
use Rattle.std.proofs.lemmas.Result.{err_from_is_err_and}
use Rattle.h2_spec.specs.Hpack.Block.{FieldsSoFar, table_after}
use Rattle.h2_spec.proofs.BlockLaws.{applied-literal_due}
use Rattle.h2_table.specs.Edits.{edited}
use Rattle.h2_fields.specs.Applied.{progress_in}
use Rattle.h2_hpack_instruction.specs.Faults.{refusal}
use Rattle.h2_hpack_instruction.specs.Shapes.{mode_of, name_of, string_of}
use Rattle.h2_fields.proofs.Applying.{literal-refused, literal-applied, not_entered}
use Rattle.h2_fields.proofs.effect.apply_literal.Goals as goal

pub returns-then-is_due-clause-applied : goal.returns-then-is_due-clause-applied
returns-then-is_due-clause-applied g c = λ _.
    let p = progress_in c.args.collected.now c.args.table.now c.args.edit.now in
    (refl, ap refusal (applied-literal_due c.args.table.now.limit p (mode_of c.args.mode) (name_of c.args.name) (string_of c.args.value) (sym c.if-is_due.ensures)))

pub returns-in_err-read_literal-clause-applied : goal.returns-in_err-read_literal-clause-applied
returns-in_err-read_literal-clause-applied g c =
    let p = progress_in c.args.collected.now c.args.table.now c.args.edit.now in
    let e = err_from_is_err_and c.from_residual.result c.from_residual.ensures.1 in
    let r = c.in_err-read_literal.ensures in
    rw (e.1, e.2) (λ h.
    (ap (λ s. progress_in s c.args.table.now c.args.edit.now) r.0, literal-refused c.args.table.now.limit p (mode_of c.args.mode) (name_of c.args.name) (string_of c.args.value) _ (sym c.if-is_due.ensures) (r.1 h)))

pub returns-in_ok-enter_last-in-IncrementalIndexing-clause-applied : goal.returns-in_ok-enter_last-in-IncrementalIndexing-clause-applied
returns-in_ok-enter_last-in-IncrementalIndexing-clause-applied g c =
    let base = c.args.table.now in
    let old = c.args.edit.now in
    let r = c.in_ok-read_literal.ensures in
    let entered = c.in_ok-enter_last-in-IncrementalIndexing.ensures.table c.args.collected.now.fields r.0 (ap (λ (s : FieldsSoFar). s.fields) r.3) in
    let mode = ap (λ m. table_after (mode_of m) (edited base.table.entries old) r.0) (sym c.in-IncrementalIndexing.is) in
    literal-applied base.limit c.args.collected.now c.enter_last.new.collected base old c.enter_last.new.edit (mode_of c.args.mode) (name_of c.args.name) (string_of c.args.value) r.0 (sym c.if-is_due.ensures) r.1 r.2 (c.in_ok-enter_last-in-IncrementalIndexing.ensures.fields ∙ r.3) (entered ∙ mode)

pub returns-in-WithoutIndexing : goal.returns-in-WithoutIndexing
returns-in-WithoutIndexing g c =
    let base = c.args.table.now in
    let old = c.args.edit.now in
    let r = c.in_ok-read_literal.ensures in
    record {
      belongs = c.requires.belongs;
      applied = literal-applied base.limit c.args.collected.now c.read_literal.new.collected base old old (mode_of c.args.mode) (name_of c.args.name) (string_of c.args.value) r.0 (sym c.if-is_due.ensures) r.1 r.2 r.3
          (not_entered (mode_of c.args.mode) (edited base.table.entries old) r.0 (elim c.in-WithoutIndexing.is [ inl e ↦ inl (ap mode_of e) | inr e ↦ inr (ap mode_of e) ]));
      grows = (r.0 ∷ [], ap (λ (s : FieldsSoFar). s.fields) r.3);
    }
