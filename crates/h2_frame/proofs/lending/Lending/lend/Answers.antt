use Rattle.std.proofs.Common.{◌++◌, ◌∙◌, ℕ, List, ap, arith}
use Rattle.h2_frame.proofs.LoanLaws.{lent}
use Rattle.h2_frame.proofs.lending.Lending.lend.Goals as goal

pub invariant_of-self-2 : goal.invariant_of-self-2
invariant_of-self-2 g c =
    let r = c.self.inside in
    let a = c.args in
    (lent r.gone r.own.items a.head.now c.extend_from_slice.new.self.items (record { at = c.len.result; octets = a.payload }) r.loans.items c.reserve.new.self.items c.push_back_reserved.new.self.items c.self.invariant
    c.in_ok-extend_from_slice.ensures.items c.reserve.ensures.items c.push_back_reserved.ensures.items (omega arith) c.requires.some).0

pub returns-clause-ok : goal.returns-clause-ok
returns-clause-ok g c =
    let r = c.self.inside in
    let a = c.args in
    (lent r.gone r.own.items a.head.now c.extend_from_slice.new.self.items (record { at = c.len.result; octets = a.payload }) r.loans.items c.reserve.new.self.items c.push_back_reserved.new.self.items c.self.invariant
    c.in_ok-extend_from_slice.ensures.items c.reserve.ensures.items c.push_back_reserved.ensures.items (omega arith) c.requires.some).1
    ∙ ap (λ (xs : List ℕ). xs ++ a.head.now ++ a.payload.now) c.self.view_is
