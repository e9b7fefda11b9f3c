use Rattle.std.proofs.Common.{◌∙◌, ◌≤◌, length, sym, ap, arith, Option, ℕ}
use Rattle.std.proofs.lemmas.List.{drop_all}
use Rattle.h2_cmd_play.proofs.AnswerTexts.{parts-cut, parts_cut}
use Rattle.h2_cmd_play.proofs.answer.cut.Goals as goal

pub returns-in-Some-clause-parts : goal.returns-in-Some-clause-parts
returns-in-Some-clause-parts c =
    rw (c.text_before.ensures, c.text_from.ensures) (parts-cut c.args.text.now ∙ ap (λ (o : Option ℕ). parts_cut o c.args.text.now) (sym c.in-Some.ensures.place))

pub returns-in-None-clause-parts : goal.returns-in-None-clause-parts
returns-in-None-clause-parts c =
    let text = c.args.text.now in
    let whole : length text ≤ length text = omega arith in
    rw (c.text_from-in-None.ensures, drop_all (length text) text whole) (parts-cut c.args.text.now ∙ ap (λ (o : Option ℕ). parts_cut o c.args.text.now) (sym c.in-None.ensures.place))
