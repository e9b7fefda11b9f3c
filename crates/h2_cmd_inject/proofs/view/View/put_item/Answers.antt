use Rattle.std.proofs.Common.{◌∙◌, ◌++◌, ℕ, List, ap, subst, sym}
use Rattle.std.proofs.lemmas.Result.{on_ok_weaker}
use Rattle.h2_cmd_dialogue.specs.Woven.{Parts}
use Rattle.h2_cmd_inject.proofs.ViewLaws.{item-put}
use Rattle.h2_cmd_inject.specs.Views.{is_opening, judged_of}
use Rattle.h2_explain.specs.Explains.{shows_item}
use Rattle.h2_explain_step.specs.Explained.{IsItemOf}
use Rattle.h2_explain_step.specs.declared.taking.Observed.{Observed}
use Rattle.h2_cmd_inject.proofs.view.View.put_item.Goals as goal

pub returns-clause-text : goal.returns-clause-text
returns-clause-text c =
    let v = c.args.self.now in
    let x = c.args.item.now in
    let y = c.item-shown.result in
    let old : List ℕ = c.args.out.now.items in
    let sent = c.as_slice-sent.ensures.value ∙ ap (λ (p : Parts). p.sent) c.parts.view_is in
    let of = subst (λ (s : List ℕ). IsItemOf (judged_of v.since x) x.number x.offset x.ahead.now s y) sent
    (subst (λ (o : Observed). IsItemOf o x.number x.offset x.ahead.now c.as_slice-sent.result.now y) c.judged-observed.ensures c.item-shown.ensures) in
    let own : List ℕ = c.put_text.new.lines in
    on_ok_weaker c.put_aside.result
    (item-put (shows_item c.args.form x v.account.warnings) c.args.form (is_opening c.args.form v.items) v.opening v.since c.args.parts.now x y v.account.changes.items
    own old c.extend_from_slice.new.self.items c.put_aside.new.out.items (sym c.shows_item.ensures ∙ c.if-not-shows_item.false) of c.in_ok-put_text.ensures
    (c.in_ok-extend_from_slice.ensures.items ∙ ap (λ (k : List ℕ). old ++ k) c.octets.ensures))
    c.put_aside.ensures
