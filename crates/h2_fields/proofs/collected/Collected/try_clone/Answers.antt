use Rattle.std.proofs.Common.{◌++◌, List, map, ap, ◌∙◌, sym}
use Rattle.std.proofs.lemmas.Result.{IfOk-from_err}
use Rattle.std.proofs.lemmas.List.Elements.{same_from_all_zip}
use Rattle.h2_spec.specs.Hpack.Block.{FieldsSoFar, list_size}
use Rattle.h2_spec.specs.Hpack.Field.{Field}
use Rattle.h2_hpack_list.specs.Listed.{Listed}
use Rattle.h2_hpack_validity.specs.Mark.{mark_of}
use Rattle.h2_fields.proofs.collected.Collected.try_clone.Goals as goal

pub returns-in_err-marks : goal.returns-in_err-marks
returns-in_err-marks g c = record { same = IfOk-from_err c.from_residual.result _ c.from_residual.ensures.0 }

pub returns-in_err-list : goal.returns-in_err-list
returns-in_err-list g c = record { same = IfOk-from_err c.from_residual-in_err-list.result _ c.from_residual-in_err-list.ensures.0 }

pub returns-in_err-try_clone : goal.returns-in_err-try_clone
returns-in_err-try_clone g c = record { same = IfOk-from_err c.from_residual-in_err-try_clone.result _ c.from_residual-in_err-try_clone.ensures.0 }

pub invariant_of-result : goal.invariant_of-result
invariant_of-result g c =
    let d = c.self.inside in
    let shared = c.in_ok-try_clone.ensures in
    let list = c.in_ok-list.ensures.same in
    let marks = same_from_all_zip _ d.marks.items c.in_ok-marks.marks.items c.in_ok-marks.ensures.cases.0 (λ x y e. e) in (
      c.self.invariant.0 ∙ ap (λ (fs : List Field). list_size (fs ++ d.list.fields)) (sym shared) ∙ ap (λ (l : Listed). list_size (c.in_ok-try_clone.field-0 ++ l.fields)) (sym list),
      marks ∙ c.self.invariant.1 ∙ ap (λ (l : Listed). map mark_of l.fields) (sym list),
    )

pub returns : goal.returns
returns g c =
    let d = c.self.inside in
    let list = c.in_ok-list.list in
    let so_far = λ (shared after : List Field). let s : FieldsSoFar = record { fields = shared ++ after; due = d.due } in s in
    record { same = ap (λ (fs : List Field). so_far fs list.fields) c.in_ok-try_clone.ensures ∙ ap (λ (l : Listed). so_far d.shared l.fields) c.in_ok-list.ensures.same ∙ c.self.view_is }
