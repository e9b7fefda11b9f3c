use Rattle.std.proofs.Common.{ap, ◌∙◌, subst, sym, ℕ, ◌≤◌, Option, IfSome, IsTrue}
use Rattle.std.specs.List.{AllByRecursion}
use Rattle.h2_spec.specs.Stream.{AreRising, Records, next_waiting, waits_above}
use Rattle.h2_streams.proofs.LiveLaws.{find-least}
use Rattle.h2_streams.proofs.SharedLaws.{rising-all, waiting-all}
use Rattle.h2_streams.proofs.records.Streams.next_waiting.Goals as goal

pub returns-clause-first : goal.returns-clause-first
returns-clause-first g c =
    let s = c.self.inside in
    c.next_waiting.ensures.first ∙ sym (waiting-all c.args.after s.base s.own c.self.invariant) ∙ ap (λ (v : Records). next_waiting c.args.after v.streams) c.self.view_is

pub returns-clause-least : goal.returns-clause-least
unfolding next_waiting
returns-clause-least g c =
    let after = c.args.after in
    let r = c.args.self.now in
    let s = c.self.inside in
    let rising = let P : Records → Type 0 = λ v. AreRising 0 v.last v.streams in subst P c.self.view_is (rising-all s.base s.own c.self.invariant) in
    subst (λ (o : Option ℕ). IfSome o (λ id. AllByRecursion (λ st. IsTrue (waits_above after st) → id ≤ st.id) r.streams)) (sym (returns-clause-first g c)) (find-least (waits_above after) 0 r.last r.streams rising)
