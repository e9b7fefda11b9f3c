use Rattle.std.proofs.Common.{◌≡◌, ◌∙◌, ℕ, ◌+◌, ◌<◌, List, [], ◌∷◌, ◌++◌, ap, append-nil, append_assoc, drop, get_or, length, sym}
use Rattle.std.proofs.lemmas.List.{at_drop_all, drop_more}
use Rattle.std.proofs.lemmas.Result.{IfOk-from_err}
use Rattle.h2_spec.specs.declared.streams.Stream.{Stream}
use Rattle.h2_streams.specs.Patches.{Step, run_of, steps_of}
use Rattle.h2_streams.proofs.sharing.patch.Patch.list.Goals as goal

pub returns-in_err-append : goal.returns-in_err-append
returns-in_err-append g c = IfOk-from_err c.from_residual.result _ c.from_residual.ensures.0

pub returns-in_err-share : goal.returns-in_err-share
returns-in_err-share g c = IfOk-from_err c.from_residual-in_err-share.result _ c.from_residual-in_err-share.ensures.0

pub returns-in_err-push : goal.returns-in_err-push
returns-in_err-push g c = IfOk-from_err c.from_residual-in_err-push.result _ c.from_residual-in_err-push.ensures.0

pub returns-in_err-append-2 : goal.returns-in_err-append-2
returns-in_err-append-2 g c = IfOk-from_err c.from_residual-in_err-append-2.result _ c.from_residual-in_err-append-2.ensures.0

-- one step more, whose records were appended
step-more : (base : List Stream) (steps : List Step) (i : ℕ) (step : Step) (old new : List Stream) → new ≡ (old ++ run_of base step.run) ++ step.own ∷ [] → i < length steps → step ≡ get_or steps i step
    → new ++ steps_of base (drop (i + 1) steps) ≡ old ++ steps_of base (drop i steps)
step-more base steps i step old new is within at =
    let rest = steps_of base (drop (i + 1) steps) in
    let left : drop i steps ≡ step ∷ drop (i + 1) steps = drop_more steps i step within ∙ ap (λ x. x ∷ drop (i + 1) steps) (sym at) in
    ap (λ xs. xs ++ rest) is ∙ append_assoc (old ++ run_of base step.run) (step.own ∷ []) rest ∙ append_assoc old (run_of base step.run) (step.own ∷ rest) ∙ ap (λ ss. old ++ steps_of base ss) (sym left)

pub loop-step-init : goal.loop-step-init
loop-step-init g c = ap (λ l. l ++ steps_of c.args.base.now c.args.self.now.steps.items) c.new-list.ensures.items

pub loop-step-preserved : goal.loop-step-preserved
loop-step-preserved g c =
    let base = c.args.base.now in
    let old = c.loop-step.list.items in
    let added = c.in_ok-append.ensures ∙ ap (λ r. old ++ r) c.records.ensures in
    let whole = c.in_ok-push.ensures.items ∙ (λ k. added k ++ c.in_ok-share.ensures k ∷ []) in
    let shown = whole ∙ ap (λ (s : Step). (old ++ run_of base s.run) ++ s.own ∷ []) c.step.view_is in
    let same = c.as_slice-step-items.ensures.value in
    step-more base c.args.self.now.steps.items c.loop-step.step-index c.step-item.result old c.push.new.self.items shown (rw same at c.loop-step-test.true) (rw same at c.step-item.is) ∙ c.loop-step.invariant

pub returns : goal.returns
returns g c =
    let base = c.args.base.now in
    let steps = c.args.self.now.steps.items in
    let list = c.loop-step.list.items in
    let none = at_drop_all (steps_of base) steps c.loop-step.step-index (rw c.as_slice-step-items.ensures.value at c.loop-step-test.false) in
    let all = sym (append-nil list) ∙ ap (λ r. list ++ r) (sym none) ∙ c.loop-step.invariant in
    c.in_ok-append-2.ensures ∙ (λ k. all k ++ c.records-2.ensures k)
