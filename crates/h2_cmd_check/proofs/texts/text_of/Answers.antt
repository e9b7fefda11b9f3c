use Rattle.std.proofs.Common.{◌∙◌, refl}
use Rattle.std.proofs.lemmas.Result.{IfOk-weaker}
use Rattle.h2_explain_text.specs.Lines.{with_changes}
use Rattle.h2_cmd_check.proofs.texts.text_of.Goals as goal

pub returns : goal.returns
returns c =
    let a = c.account.new.account in
    let put = c.in_ok-put.ensures in
    IfOk-weaker c.text_with.result _ _
    (λ text is. (_, _, a.changes.items, c.in_ok-account.ensures.changes, (with_changes a.changes.items a.unshown.items put.0, refl, is ∙ c.octets.ensures ∙ put.1)))
    c.text_with.ensures
