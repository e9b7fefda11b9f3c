use Rattle.std.proofs.Common.{◌≡◌, ◌∙◌, ap, subst, sym, Option}
use Rattle.h2_spec.specs.Causes.Rules.{row_shown}
use Rattle.h2_spec.specs.declared.causes.Cause.{Cause}
use Rattle.h2_explain_item.specs.Special.{rule_of_cause}
use Rattle.h2_cmd_items.specs.Rules.{IsRowBy}
use Rattle.h2_cmd_items.proofs.rule.row_of.Goals as goal

pub returns-in-Some : goal.returns-in-Some
returns-in-Some c =
    subst (λ (k : Option Cause). IsRowBy k c.args.item.now (row_shown c.rule_of_cause.result)) (sym c.in-Some.is)
    (c.args.account.now.facts, c.rule_of_cause.ensures ∙ ap (rule_of_cause c.in-Some.cause) c.case_of_error.ensures)

pub returns-in-None : goal.returns-in-None
returns-in-None c =
    subst (λ (k : Option Cause). IsRowBy k c.args.item.now (row_shown c.row_without_error.result)) (sym c.in-None.is) c.row_without_error.ensures
