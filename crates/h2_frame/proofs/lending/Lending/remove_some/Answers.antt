use Rattle.std.proofs.Common.{◌+◌, ◌≤◌, ◌∙◌, List, length, drop, ap, sym, subst, arith, length-drop}
use Rattle.std.proofs.lemmas.List.{drop-drop}
use Rattle.h2_frame.specs.declared.lending.Loan.{Loan}
use Rattle.h2_frame.specs.Loans.{AreLoans, IsShortened, spread}
use Rattle.h2_frame.proofs.LoanLaws.{drop-own, drop-shortened, is-first, no-first, spread-none}
use Rattle.h2_frame.proofs.lending.Lending.remove_some.Goals as goal

pub overflow_add-self : goal.overflow_add-self
overflow_add-self g c =
    let r = c.self.inside in
    let none = no-first r.loans.items (sym c.first_loan.ensures ∙ c.in-None.is) in
    let all = ap length (sym (spread-none r.gone r.own.items r.loans.items none) ∙ c.self.view_is) in
    omega (arith, all, c.requires.within, length-drop r.gone r.own.items)

pub invariant_of-self : goal.invariant_of-self
invariant_of-self g c =
    let r = c.self.inside in
    let none = no-first r.loans.items (sym c.first_loan.ensures ∙ c.in-None.is) in
    let all = ap length (sym (spread-none r.gone r.own.items r.loans.items none) ∙ c.self.view_is) in
    let within : r.gone + c.args.most ≤ length r.own.items = omega (arith, all, c.requires.within, length-drop r.gone r.own.items) in
    subst (AreLoans (r.gone + c.args.most) (length r.own.items)) (sym none) within

pub returns-in-None-clause-rest : goal.returns-in-None-clause-rest
returns-in-None-clause-rest g c =
    let r = c.self.inside in
    let none = no-first r.loans.items (sym c.first_loan.ensures ∙ c.in-None.is) in
    spread-none (r.gone + c.args.most) r.own.items r.loans.items none
    ∙ sym (drop-drop c.args.most r.gone r.own.items)
    ∙ ap (drop c.args.most) (sym (spread-none r.gone r.own.items r.loans.items none) ∙ c.self.view_is)

pub returns-in-Some-clause-rest : goal.returns-in-Some-clause-rest
returns-in-Some-clause-rest g c =
    let r = c.self.inside in
    let p = c.in-Some.loan in
    let ps = drop 1 r.loans.items in
    let k = c.min-count.result in
    let e = is-first r.loans.items p (sym c.first_loan.ensures ∙ c.in-Some.is) in
    let loans = subst (AreLoans r.gone (length r.own.items)) e c.self.invariant in
    let least = c.min-count.ensures in
    let more = c.if-self-loan.true in
    let fits : r.gone + k ≤ p.at = omega (arith, least, more) in
    ap (spread (r.gone + k) r.own.items) e ∙ drop-own r.gone k r.own.items p ps fits loans ∙ ap (drop k) (ap (spread r.gone r.own.items) (sym e) ∙ c.self.view_is)

pub invariant_of-self-in-Some-2 : goal.invariant_of-self-in-Some-2
invariant_of-self-in-Some-2 g c =
    let r = c.self.inside in
    let p = c.in-Some.loan in
    let ps = drop 1 r.loans.items in
    let k = c.min-count-in-Some-2.result in
    let e = is-first r.loans.items p (sym c.first_loan.ensures ∙ c.in-Some.is) in
    let loans = subst (AreLoans r.gone (length r.own.items)) e c.self.invariant in
    let least = c.min-count-in-Some-2.ensures in
    let shorter = subst (λ (xs : List Loan). IsShortened (drop k) k xs c.shorten_front.new.loans.items) e c.shorten_front.ensures in
    (drop-shortened r.gone k r.own.items p ps c.shorten_front.new.loans.items c.if-self-loan.false loans (omega (arith, least)) shorter).0

pub returns-in-Some-2-clause-rest : goal.returns-in-Some-2-clause-rest
returns-in-Some-2-clause-rest g c =
    let r = c.self.inside in
    let p = c.in-Some.loan in
    let ps = drop 1 r.loans.items in
    let k = c.min-count-in-Some-2.result in
    let e = is-first r.loans.items p (sym c.first_loan.ensures ∙ c.in-Some.is) in
    let loans = subst (AreLoans r.gone (length r.own.items)) e c.self.invariant in
    let least = c.min-count-in-Some-2.ensures in
    let shorter = subst (λ (xs : List Loan). IsShortened (drop k) k xs c.shorten_front.new.loans.items) e c.shorten_front.ensures in
    (drop-shortened r.gone k r.own.items p ps c.shorten_front.new.loans.items c.if-self-loan.false loans (omega (arith, least)) shorter).1
    ∙ ap (drop k) (ap (spread r.gone r.own.items) (sym e) ∙ c.self.view_is)
