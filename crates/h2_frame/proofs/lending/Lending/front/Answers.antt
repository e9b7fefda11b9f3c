use Rattle.std.proofs.Common.{◌≡◌, ◌<◌, ◌≤◌, ◌∙◌, ℕ, List, length, take, drop, ap, sym, subst, arith, length-drop}
use Rattle.std.proofs.lemmas.List.{length-take-le}
use Rattle.h2_frame.specs.Loans.{AreLoans, spread}
use Rattle.h2_frame.proofs.LoanLaws.{is-first, lent-front, loans-within, no-first, own-front, spread-none, whole-front}
use Rattle.h2_frame.proofs.lending.Lending.front.Goals as goal

pub octets_up_to-requires : goal.octets_up_to-requires
octets_up_to-requires g c =
    let r = c.self.inside in
    let p = c.in-Some.loan in
    let e = is-first r.loans.items p (sym c.first_loan.ensures ∙ c.in-Some.is) in
    let loans = subst (AreLoans r.gone (length r.own.items)) e c.self.invariant in
    subst (λ (xs : List ℕ). p.at ≤ length xs) (sym c.as_slice-in-Some.ensures.value) (loans-within p.at (length r.own.items) (drop 1 r.loans.items) loans.2)

pub octets_from-requires-in-Some : goal.octets_from-requires-in-Some
octets_from-requires-in-Some g c =
    let r = c.self.inside in
    let p = c.in-Some.loan in
    let e = is-first r.loans.items p (sym c.first_loan.ensures ∙ c.in-Some.is) in
    let loans = subst (AreLoans r.gone (length r.own.items)) e c.self.invariant in
    let within = loans-within p.at (length r.own.items) (drop 1 r.loans.items) loans.2 in
    let least = loans.0 in
    let same : c.octets_up_to.result.now ≡ take p.at r.own.items = c.octets_up_to.ensures ∙ ap (take p.at) c.as_slice-in-Some.ensures.value in
    subst (λ (xs : List ℕ). r.gone ≤ length xs) (sym same) (omega (arith, length-take-le p.at r.own.items within, least))

pub returns-in-None-clause-first : goal.returns-in-None-clause-first
returns-in-None-clause-first g c =
    let r = c.self.inside in
    let none = no-first r.loans.items (sym c.first_loan.ensures ∙ c.in-None.is) in
    whole-front c.octets_from.result.now c.args.self.now
    (c.octets_from.ensures ∙ ap (drop r.gone) c.as_slice.ensures.value ∙ sym (spread-none r.gone r.own.items r.loans.items none) ∙ c.self.view_is)

pub returns-in-None-clause-some : goal.returns-in-None-clause-some
returns-in-None-clause-some g c =
    let r = c.self.inside in
    let none = no-first r.loans.items (sym c.first_loan.ensures ∙ c.in-None.is) in
    let all = c.octets_from.ensures ∙ ap (drop r.gone) c.as_slice.ensures.value ∙ sym (spread-none r.gone r.own.items r.loans.items none) ∙ c.self.view_is in
    λ some. subst (λ (xs : List ℕ). 0 < length xs) (sym all) some

pub returns-in-Some-clause-first : goal.returns-in-Some-clause-first
returns-in-Some-clause-first g c =
    let r = c.self.inside in
    let p = c.in-Some.loan in
    let ps = drop 1 r.loans.items in
    let e = is-first r.loans.items p (sym c.first_loan.ensures ∙ c.in-Some.is) in
    let same : c.octets_from-in-Some.result.now ≡ drop r.gone (take p.at r.own.items) = c.octets_from-in-Some.ensures ∙ ap (drop r.gone) (c.octets_up_to.ensures ∙ ap (take p.at) c.as_slice-in-Some.ensures.value) in
    subst (λ (xs : List ℕ). xs ≡ take (length xs) c.args.self.now) (sym same)
    (own-front r.gone r.own.items p ps ∙ ap (take (length (drop r.gone (take p.at r.own.items)))) (ap (spread r.gone r.own.items) (sym e) ∙ c.self.view_is))

pub returns-in-Some-clause-some : goal.returns-in-Some-clause-some
returns-in-Some-clause-some g c =
    let r = c.self.inside in
    let p = c.in-Some.loan in
    let e = is-first r.loans.items p (sym c.first_loan.ensures ∙ c.in-Some.is) in
    let loans = subst (AreLoans r.gone (length r.own.items)) e c.self.invariant in
    let within = loans-within p.at (length r.own.items) (drop 1 r.loans.items) loans.2 in
    let same : c.octets_from-in-Some.result.now ≡ drop r.gone (take p.at r.own.items) = c.octets_from-in-Some.ensures ∙ ap (drop r.gone) (c.octets_up_to.ensures ∙ ap (take p.at) c.as_slice-in-Some.ensures.value) in
    let more = c.if-self-loan.true in
    λ _. subst (λ (xs : List ℕ). 0 < length xs) (sym same) (omega (arith, length-drop r.gone (take p.at r.own.items), length-take-le p.at r.own.items within, more))

pub returns-in-Some-2-clause-first : goal.returns-in-Some-2-clause-first
returns-in-Some-2-clause-first g c =
    let r = c.self.inside in
    let p = c.in-Some.loan in
    let ps = drop 1 r.loans.items in
    let e = is-first r.loans.items p (sym c.first_loan.ensures ∙ c.in-Some.is) in
    let loans = subst (AreLoans r.gone (length r.own.items)) e c.self.invariant in
    lent-front r.gone r.own.items p ps c.if-self-loan.false loans ∙ ap (take (length p.octets.now)) (ap (spread r.gone r.own.items) (sym e) ∙ c.self.view_is)

pub returns-in-Some-2-clause-some : goal.returns-in-Some-2-clause-some
returns-in-Some-2-clause-some g c =
    let r = c.self.inside in
    let e = is-first r.loans.items c.in-Some.loan (sym c.first_loan.ensures ∙ c.in-Some.is) in
    λ _. (subst (AreLoans r.gone (length r.own.items)) e c.self.invariant).1
