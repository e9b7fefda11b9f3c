use Rattle.std.proofs.Common.{◌≡◌, ◌+◌, ◌-◌, ◌≤◌, ◌∙◌, ℕ, List, Option, length, take, drop, ap, sym, subst, arith, length-drop}
use Rattle.std.proofs.lemmas.List.{length-take-le}
use Rattle.h2_frame.specs.declared.lending.Loan.{Loan}
use Rattle.h2_frame.specs.Loans.{AreLoans, IsTaken, spread}
use Rattle.h2_frame.proofs.LoanLaws.{cut-drop, cut-own, cut-shortened, loans-last, spread-none}
use Rattle.h2_frame.proofs.lending.Lending.cut_some.Goals as goal

pub overflow_sub-len : goal.overflow_sub-len
overflow_sub-len g c =
    let r = c.self.inside in
    let t = subst (λ (o : Option Loan). IsTaken r.loans.items o c.take_last.new.loans.items) c.in-None.is c.take_last.ensures.taken in
    let all = ap length (sym (spread-none r.gone r.own.items r.loans.items t.0) ∙ c.self.view_is) in
    let n : c.len.result ≡ length r.own.items = omega arith in
    omega (arith, all, n, c.requires.within, length-drop r.gone r.own.items)

pub invariant_of-self : goal.invariant_of-self
invariant_of-self g c =
    let r = c.self.inside in
    let t = subst (λ (o : Option Loan). IsTaken r.loans.items o c.take_last.new.loans.items) c.in-None.is c.take_last.ensures.taken in
    let all = ap length (sym (spread-none r.gone r.own.items r.loans.items t.0) ∙ c.self.view_is) in
    let n : c.len.result ≡ length r.own.items = omega arith in
    let fits : r.gone + c.args.most ≤ length r.own.items = omega (arith, all, c.requires.within, length-drop r.gone r.own.items) in
    let size = ap length c.truncate.ensures.items ∙ length-take-le (c.len.result - c.args.most) r.own.items (omega (arith, n)) in
    let within : r.gone ≤ length c.truncate.new.self.items = omega (arith, size, n, fits) in
    subst (AreLoans r.gone (length c.truncate.new.self.items)) (sym t.1) within

pub returns-in-None-clause-rest : goal.returns-in-None-clause-rest
returns-in-None-clause-rest g c =
    let r = c.self.inside in
    let k = c.args.most in
    let t = subst (λ (o : Option Loan). IsTaken r.loans.items o c.take_last.new.loans.items) c.in-None.is c.take_last.ensures.taken in
    let same = sym (spread-none r.gone r.own.items r.loans.items t.0) ∙ c.self.view_is in
    let all = ap length same in
    let n : c.len.result ≡ length r.own.items = omega arith in
    let fits : r.gone + k ≤ length r.own.items = omega (arith, all, c.requires.within, length-drop r.gone r.own.items) in
    spread-none r.gone c.truncate.new.self.items c.take_last.new.loans.items t.1
    ∙ ap (drop r.gone) (c.truncate.ensures.items ∙ ap (λ (m : ℕ). take (m - k) r.own.items) n)
    ∙ cut-drop r.gone k r.own.items fits
    ∙ ap (λ (xs : List ℕ). take (length xs - k) xs) same

pub invariant_of-self-then-loan-len : goal.invariant_of-self-then-loan-len
invariant_of-self-then-loan-len g c =
    let r = c.self.inside in
    let p = c.in-Some.loan in
    let k = c.min-count.result in
    let ps = c.take_last.new.loans.items in
    let t = subst (λ (o : Option Loan). IsTaken r.loans.items o ps) c.in-Some.is c.take_last.ensures.taken in
    let n : c.len-in-Some-2.result ≡ length r.own.items = omega arith in
    let least = c.min-count.ensures in
    let more = c.if-loan-len.true in
    let fits : p.at + k ≤ length r.own.items = omega (arith, least, more) in
    let x = cut-own r.gone k r.own.items p ps fits (subst (AreLoans r.gone (length r.own.items)) t c.self.invariant) in
    let own = c.truncate-in-Some.ensures.items ∙ ap (λ (m : ℕ). take (m - k) r.own.items) n in
    subst (λ (xs : List ℕ). AreLoans r.gone (length xs) c.push_back_reserved.new.self.items) (sym own)
    (subst (λ (qs : List Loan). AreLoans r.gone (length (take (length r.own.items - k) r.own.items)) qs) (sym c.push_back_reserved.ensures.items) x.0)

pub returns-in-Some-clause-rest : goal.returns-in-Some-clause-rest
returns-in-Some-clause-rest g c =
    let r = c.self.inside in
    let p = c.in-Some.loan in
    let k = c.min-count.result in
    let ps = c.take_last.new.loans.items in
    let t = subst (λ (o : Option Loan). IsTaken r.loans.items o ps) c.in-Some.is c.take_last.ensures.taken in
    let n : c.len-in-Some-2.result ≡ length r.own.items = omega arith in
    let least = c.min-count.ensures in
    let more = c.if-loan-len.true in
    let fits : p.at + k ≤ length r.own.items = omega (arith, least, more) in
    let x = cut-own r.gone k r.own.items p ps fits (subst (AreLoans r.gone (length r.own.items)) t c.self.invariant) in
    let own = c.truncate-in-Some.ensures.items ∙ ap (λ (m : ℕ). take (m - k) r.own.items) n in
    ap (λ (xs : List ℕ). spread r.gone xs c.push_back_reserved.new.self.items) own
    ∙ ap (spread r.gone (take (length r.own.items - k) r.own.items)) c.push_back_reserved.ensures.items
    ∙ x.1
    ∙ ap (λ (xs : List ℕ). take (length xs - k) xs) (ap (spread r.gone r.own.items) (sym t) ∙ c.self.view_is)

pub invariant_of-self-in-Some-2 : goal.invariant_of-self-in-Some-2
invariant_of-self-in-Some-2 g c =
    let r = c.self.inside in
    let p = c.in-Some.loan in
    let k = c.min-count-in-Some-2.result in
    let ps = c.take_last.new.loans.items in
    let t = subst (λ (o : Option Loan). IsTaken r.loans.items o ps) c.in-Some.is c.take_last.ensures.taken in
    let least = c.min-count-in-Some-2.ensures in
    let after = c.if-loan-len.false in
    (cut-shortened r.gone k r.own.items p ps c.put_shorter.new.loans.items (omega (arith, after)) (subst (AreLoans r.gone (length r.own.items)) t c.self.invariant) (omega (arith, least)) c.put_shorter.ensures).0

pub returns-in-Some-2-clause-some : goal.returns-in-Some-2-clause-some
returns-in-Some-2-clause-some g c =
    let r = c.self.inside in
    let p = c.in-Some.loan in
    let ps = c.take_last.new.loans.items in
    let t = subst (λ (o : Option Loan). IsTaken r.loans.items o ps) c.in-Some.is c.take_last.ensures.taken in
    let least = c.min-count-in-Some-2.ensures in
    let some = (loans-last r.gone (length r.own.items) p ps (subst (AreLoans r.gone (length r.own.items)) t c.self.invariant)).2 in
    let octets = some in
    let most = c.requires.within.0 in
    (omega (arith, least, octets, most), omega (arith, least))

pub returns-in-Some-2-clause-rest : goal.returns-in-Some-2-clause-rest
returns-in-Some-2-clause-rest g c =
    let r = c.self.inside in
    let p = c.in-Some.loan in
    let k = c.min-count-in-Some-2.result in
    let ps = c.take_last.new.loans.items in
    let t = subst (λ (o : Option Loan). IsTaken r.loans.items o ps) c.in-Some.is c.take_last.ensures.taken in
    let least = c.min-count-in-Some-2.ensures in
    let after = c.if-loan-len.false in
    (cut-shortened r.gone k r.own.items p ps c.put_shorter.new.loans.items (omega (arith, after)) (subst (AreLoans r.gone (length r.own.items)) t c.self.invariant) (omega (arith, least)) c.put_shorter.ensures).1
    ∙ ap (λ (xs : List ℕ). take (length xs - k) xs) (ap (spread r.gone r.own.items) (sym t) ∙ c.self.view_is)
