use Rattle.std.proofs.Common.{◌≡◌, ◌≢◌, ℕ, List, ◌++◌, Option, IsErr, Some, None, Err, option_map, refl, ap, ◌∙◌, subst, sym, rules}
use Rattle.std.proofs.lemmas.Bool.{false≢true}
use Rattle.h2_spec.specs.Hpack.Block.{Decoded, FieldsSoFar, Unfinished, carried_on, decoded, progress_with}
use Rattle.h2_fields.specs.Blocks.{BlockSoFar, CanRemain, TicksRise, answer_of, decoded_with, outcome_of}
use Rattle.h2_fields.proofs.FoundFaults.{answers-faulty, faulty_outcome, shows_nothing, carried-faulty, carried-open, shown-faulty, stopped-named}
use Rattle.h2_hpack_instruction.specs.declared.fault.BlockFault.{BlockFault}
use Rattle.h2_hpack_instruction.specs.declared.fault.BlockFault.TheVariants as faults
use Rattle.h2_fields.proofs.block.BlockDecoder.push.Goals as goal

-- a decoder that goes on has not refused
still-open : (rest : List ℕ) → Some (Unfinished rest) ≢ None
still-open rest e = cc

not_refused : (rest : List ℕ) → IsErr (answer_of (Some (Unfinished rest))) → ⊥
not_refused rest e = false≢true e

pub returns-in-Some-clause-carried : goal.returns-in-Some-clause-carried
returns-in-Some-clause-carried g c = λ h.
    let rest = c.self.inside.rest in
    let shown : outcome_of rest (Some c.in-Some.repeated) ≡ c.args.self.now.outcome = ap (outcome_of rest) (sym c.in-Some.is) ∙ ap (λ (s : BlockSoFar). s.outcome) c.self.view_is in
    let leads = subst (CanRemain rest) c.in-Some.is c.self.invariant.1 in
    let faulty = faulty_outcome rest c.in-Some.repeated leads (λ e. h (sym shown ∙ e)) in
    carried-faulty c.args.table.now.limit c.args.table.now.table c.args.self.now c.args.piece.now faulty.0 (sym shown ∙ faulty.1)

pub returns-in-Ok-clause-carried : goal.returns-in-Ok-clause-carried
returns-in-Ok-clause-carried g c = λ _.
    let d = c.self.inside in
    let was : BlockSoFar = record { fields = d.collected.fields; due = d.collected.due; outcome = outcome_of d.rest d.fault; ticks = d.ticks } in
    let limit = c.args.table.now.limit in
    let piece = c.args.piece.now in
    let table = c.args.table.now.table in
    rw c.in_default.is
    (ap Some (sym c.in-Ok.ensures.ok) ∙ carried-open limit table was d.rest piece (ap (outcome_of d.rest) c.in_default.is)
    ∙ ap (λ (s : BlockSoFar). option_map (λ (before : Decoded). carried_on limit before piece) (decoded_with table s)) c.self.view_is)

pub returns-in-Err-clause-carried : goal.returns-in-Err-clause-carried
returns-in-Err-clause-carried g c = λ h.
    let d = c.self.inside in
    let f = c.in-Err.fault in
    let new = c.advance.new in
    let was : BlockSoFar = record { fields = d.collected.fields; due = d.collected.due; outcome = outcome_of d.rest d.fault; ticks = d.ticks } in
    let now : BlockSoFar = record { fields = new.collected.fields; due = new.collected.due; outcome = outcome_of new.rest (Some f); ticks = new.ticks } in
    let limit = c.args.table.now.limit in
    let piece = c.args.piece.now in
    let table = c.args.table.now.table in
    let other : f ≢ faults.NoMemory = λ e. h (ap (λ x. outcome_of new.rest (Some x)) e) in
    let exact = c.in-Err.ensures.fault.exact other in
    let result = decoded limit (progress_with table d.collected) (d.rest ++ piece) in
    shown-faulty new.table.table now new.rest result f refl exact.0 exact.1
    ∙ carried-open limit table was d.rest piece (ap (outcome_of d.rest) c.in_default.is)
    ∙ ap (λ (s : BlockSoFar). option_map (λ (before : Decoded). carried_on limit before piece) (decoded_with table s)) c.self.view_is

pub invariant_of-self : goal.invariant_of-self
invariant_of-self g c = (c.advance.ensures.copied, subst (CanRemain c.advance.new.rest) (sym c.in_default.is) c.in-Ok.ensures.cut)

pub returns-in-Ok-clause-answer : goal.returns-in-Ok-clause-answer
returns-in-Ok-clause-answer g c = sym (ap (λ (f : Option BlockFault). answer_of (outcome_of c.advance.new.rest f)) c.in_default.is)

pub returns-in-Ok-clause-refused : goal.returns-in-Ok-clause-refused
returns-in-Ok-clause-refused g c = λ h.
    let rest = c.advance.new.rest in
    absurd (let w : Some (Unfinished rest) ≡ None = sym (ap (outcome_of rest) c.in_default.is) ∙ h in cc)

pub returns-in-Err-clause-answer : goal.returns-in-Err-clause-answer
returns-in-Err-clause-answer g c =
    let d = c.self.inside in
    let named = stopped-named c.args.table.now.limit (progress_with c.args.table.now.table d.collected) (progress_with c.advance.new.table.table c.advance.new.collected) (d.rest ++ c.args.piece.now) c.in-Err.fault c.in-Err.ensures.fault in
    answers-faulty c.advance.new.rest c.in-Err.fault named

-- where memory was refused, nothing but the outcome is new
emptied : FieldsSoFar → ℕ → BlockSoFar
emptied s ticks = record { fields = s.fields; due = s.due; outcome = None; ticks = ticks }

pub returns-in-Err-clause-refused : goal.returns-in-Err-clause-refused
unfolding emptied
returns-in-Err-clause-refused g c = λ h.
    let new = c.advance.new in
    let refused = shows_nothing new.rest c.in-Err.fault h in
    let same = c.in-Err.ensures.unchanged (ap Err refused) in
    (ap (λ o. record (emptied new.collected new.ticks) { outcome = o }) h ∙ ap (λ s. emptied s new.ticks) same.0 ∙ ap (emptied c.self.inside.collected) same.2 ∙ ap (λ (s : BlockSoFar). let r : BlockSoFar = record s { outcome = None } in r) c.self.view_is, same.3)

pub returns-in-Some-clause-stays : goal.returns-in-Some-clause-stays
returns-in-Some-clause-stays g c = search rules

pub returns-in-Some-clause-refused : goal.returns-in-Some-clause-refused
returns-in-Some-clause-refused g c = search rules

pub returns-in-Ok-clause-spent : goal.returns-in-Ok-clause-spent
returns-in-Ok-clause-spent g c = λ h.
    let d = c.self.inside in
    let going : c.args.self.now.outcome ≡ Some (Unfinished d.rest) = sym (ap (λ (s : BlockSoFar). s.outcome) c.self.view_is) ∙ ap (outcome_of d.rest) c.in_default.is in
    absurd (still-open d.rest (sym going ∙ h))

pub returns-in-Ok-clause-stays : goal.returns-in-Ok-clause-stays
returns-in-Ok-clause-stays g c = λ h.
    let d = c.self.inside in
    let going : c.args.self.now.outcome ≡ Some (Unfinished d.rest) = sym (ap (λ (s : BlockSoFar). s.outcome) c.self.view_is) ∙ ap (outcome_of d.rest) c.in_default.is in
    absurd (not_refused d.rest (subst (λ o. IsErr (answer_of o)) going h))

pub returns-in-Ok-clause-limit : goal.returns-in-Ok-clause-limit
returns-in-Ok-clause-limit g c = c.advance.ensures.limit

pub returns-in-Err-clause-spent : goal.returns-in-Err-clause-spent
returns-in-Err-clause-spent g c = λ h.
    let d = c.self.inside in
    let going : c.args.self.now.outcome ≡ Some (Unfinished d.rest) = sym (ap (λ (s : BlockSoFar). s.outcome) c.self.view_is) ∙ ap (outcome_of d.rest) c.in_default.is in
    absurd (still-open d.rest (sym going ∙ h))

pub returns-in-Err-clause-stays : goal.returns-in-Err-clause-stays
returns-in-Err-clause-stays g c = λ h.
    let d = c.self.inside in
    let going : c.args.self.now.outcome ≡ Some (Unfinished d.rest) = sym (ap (λ (s : BlockSoFar). s.outcome) c.self.view_is) ∙ ap (outcome_of d.rest) c.in_default.is in
    absurd (not_refused d.rest (subst (λ o. IsErr (answer_of o)) going h))

pub returns-in-Err-clause-limit : goal.returns-in-Err-clause-limit
returns-in-Err-clause-limit g c = c.advance.ensures.limit

pub returns-in-Ok-clause-ticks : goal.returns-in-Ok-clause-ticks
returns-in-Ok-clause-ticks g c =
    let d = c.self.inside in
    let new = c.advance.new in
    let piece = c.args.piece.now in
    let shown = λ (s : FieldsSoFar) (rest : List ℕ) (f : Option BlockFault) (ticks : ℕ). let b : BlockSoFar = record { fields = s.fields; due = s.due; outcome = outcome_of rest f; ticks = ticks } in b in
    subst (λ (s : BlockSoFar). TicksRise s piece (shown new.collected new.rest d.fault new.ticks)) c.self.view_is
    (subst (λ (f : Option BlockFault). TicksRise (shown d.collected d.rest f d.ticks) piece (shown new.collected new.rest f new.ticks)) (sym c.in_default.is) c.in-Ok.ensures.ticks)

pub advance-requires : goal.advance-requires
advance-requires g c = record { copied = c.self.invariant.0 }

pub invariant_of-self-in-Err : goal.invariant_of-self-in-Err
invariant_of-self-in-Err g c =
    let d = c.self.inside in
    (c.advance.ensures.copied, stopped-named c.args.table.now.limit (progress_with c.args.table.now.table d.collected) (progress_with c.advance.new.table.table c.advance.new.collected) (d.rest ++ c.args.piece.now) c.in-Err.fault c.in-Err.ensures.fault)

pub returns-in-Some-clause-answer : goal.returns-in-Some-clause-answer
returns-in-Some-clause-answer g c =
    let rest = c.self.inside.rest in
    answers-faulty rest c.in-Some.repeated (subst (CanRemain rest) c.in-Some.is c.self.invariant.1)
    ∙ ap (λ f. answer_of (outcome_of rest f)) (sym c.in-Some.is) ∙ ap (λ (s : BlockSoFar). answer_of s.outcome) c.self.view_is
