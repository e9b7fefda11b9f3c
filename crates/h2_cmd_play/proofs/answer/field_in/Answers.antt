use Rattle.std.proofs.Common.{◌∙◌, sym, ap, Option, ℕ}
use Rattle.h2_cmd_play.proofs.AnswerTexts.{field-cut, field_cut}
use Rattle.h2_cmd_play.proofs.answer.field_in.Goals as goal

pub returns-in_err-at : goal.returns-in_err-at
returns-in_err-at c =
    let none = (c.in_err-at.ensures).place in
    rw c.from_residual.ensures (ap (λ (o : Option ℕ). field_cut o c.args.part.now) none ∙ sym (field-cut c.args.part.now))

pub returns : goal.returns
returns c =
    let some = (c.in_ok-at.ensures).place in
    rw (c.text_before.ensures, c.text_from.ensures) (ap (λ (o : Option ℕ). field_cut o c.args.part.now) some ∙ sym (field-cut c.args.part.now))
