use Rattle.std.proofs.Common.{◌++◌, ◌∙◌, ℕ, List, ap}
use Rattle.h2_frame.proofs.LoanLaws.{copied}
use Rattle.h2_frame.proofs.lending.Lending.copy.Goals as goal

pub invariant_of-self-2 : goal.invariant_of-self-2
invariant_of-self-2 g c =
    let r = c.self.inside in
    let a = c.args in
    (copied r.gone r.own.items c.reserve.new.self.items c.extend_from_slice.new.self.items c.append_front.new.own.items c.extend_from_slice-2.new.self.items a.head.now a.front.now a.rest.now r.loans.items c.self.invariant
    c.reserve.ensures.items c.in_ok-extend_from_slice.ensures.items c.in_ok-append_front.ensures.items c.in_ok-extend_from_slice-2.ensures.items).0

pub returns-clause-ok : goal.returns-clause-ok
returns-clause-ok g c =
    let r = c.self.inside in
    let a = c.args in
    (copied r.gone r.own.items c.reserve.new.self.items c.extend_from_slice.new.self.items c.append_front.new.own.items c.extend_from_slice-2.new.self.items a.head.now a.front.now a.rest.now r.loans.items c.self.invariant
    c.reserve.ensures.items c.in_ok-extend_from_slice.ensures.items c.in_ok-append_front.ensures.items c.in_ok-extend_from_slice-2.ensures.items).1
    ∙ ap (λ (xs : List ℕ). xs ++ a.head.now ++ a.front.now ++ a.rest.now) c.self.view_is
