use Rattle.std.proofs.Common.{◌∙◌, sym, arith, length-drop, length, drop, [], ◌≡◌}
use Rattle.std.proofs.lemmas.List.{nil_from_length}
use Rattle.h2_frame.proofs.LoanLaws.{spread-none}
use Rattle.h2_frame.proofs.lending.Lending.forget_gone.Goals as goal

pub returns-then-self-len : goal.returns-then-self-len
returns-then-self-len g c =
    let r = c.self.inside in
    let none = c.are_none.ensures c.if-are_none.true in
    let all : r.gone ≡ length r.own.items = omega (arith, c.if-self-len.true) in
    let nothing : drop r.gone r.own.items ≡ [] = nil_from_length (drop r.gone r.own.items) (omega (arith, length-drop r.gone r.own.items, all)) in
    spread-none 0 c.clear.new.self.items r.loans.items none ∙ c.clear.ensures.items ∙ sym nothing ∙ sym (spread-none r.gone r.own.items r.loans.items none) ∙ c.self.view_is
