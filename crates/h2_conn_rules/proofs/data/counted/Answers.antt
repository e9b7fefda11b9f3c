use Rattle.std.proofs.Common.{◌+◌, ◌∙◌, rules, sym}
use Rattle.h2_conn_rules.proofs.CreditLaws.{all-owed, counted-owes, counted-returns, still-owed}
use Rattle.h2_conn_rules.proofs.data.counted.Goals as goal

pub returns-in-None-clause-rule : goal.returns-in-None-clause-rule
returns-in-None-clause-rule c =
    let a = c.args in
    let none = sym c.owe.ensures.answer ∙ c.in-None.is in
    let owed = c.owe.ensures.owed ∙ still-owed a.threshold (a.core.owed + a.count) none in
    let rule = counted-owes a.threshold a.core a.count none in
    search rules

pub returns-in-Some-clause-rule : goal.returns-in-Some-clause-rule
returns-in-Some-clause-rule c =
    let a = c.args in
    let some = sym c.owe.ensures.answer ∙ c.in-Some.is in
    let owed = c.owe.ensures.owed ∙ (all-owed a.threshold (a.core.owed + a.count) c.in-Some.credit some).1 in
    let rule = counted-returns a.threshold a.core a.count c.in-Some.credit some in
    search rules
