use Rattle.std.proofs.Common.{◌==◌, ℕ, length, arith, sym}
use Rattle.std.proofs.lemmas.Bool.{eq-eqb}
use Rattle.std.proofs.lemmas.List.Sums.{position_or_len_is}
use Rattle.h2_explain_item.proofs.diagnosis.field_facts.end_of_member.Goals as goal

pub returns-then-octet-eq44 : goal.returns-then-octet-eq44
returns-then-octet-eq44 c =
    sym (position_or_len_is (λ (x : ℕ). x == 44) c.args.list.now c.loop-at.at 0 (omega (arith, c.loop-at-test.true)) c.loop-at.invariant (λ _. eq-eqb _ 44 c.if-octet-eq44.true))

pub returns : goal.returns
returns c =
    sym (position_or_len_is (λ (x : ℕ). x == 44) c.args.list.now (length c.args.list.now) 0 (omega arith) (λ k less. c.loop-at.invariant k (omega (arith, less, c.loop-at-test.false)))
    (λ less. absurd (omega (arith, less))))
