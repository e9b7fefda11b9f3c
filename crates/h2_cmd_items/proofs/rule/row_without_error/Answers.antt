use Rattle.std.proofs.Common.{◌≡◌, ◌∙◌, ap, subst, sym, Option}
use Rattle.h2_spec.specs.Causes.Rules.{row_shown}
use Rattle.h2_spec.specs.declared.ignored.Ignored.{Ignored}
use Rattle.h2_explain_item.specs.Special.{rule_of_reason}
use Rattle.h2_cmd_items.specs.Rules.{IsRowWithoutError}
use Rattle.h2_cmd_items.proofs.rule.row_without_error.Goals as goal

pub returns-in-Some : goal.returns-in-Some
returns-in-Some c =
    subst (λ (k : Option Ignored). IsRowWithoutError k c.args.item.now (row_shown c.rule_of_reason.result)) (sym c.in-Some.is)
    (c.args.account.now.facts, c.rule_of_reason.ensures ∙ ap (rule_of_reason c.in-Some.reason) c.case_of_reason.ensures)

pub returns-in-None : goal.returns-in-None
returns-in-None c =
    subst (λ (k : Option Ignored). IsRowWithoutError k c.args.item.now (row_shown c.row.result)) (sym c.in-None.is) (c.accepted_of.result, c.row.ensures)
