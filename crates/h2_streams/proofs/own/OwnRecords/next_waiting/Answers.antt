use Rattle.std.proofs.Common.{◌∙◌, ap, subst, sym, ℕ, ◌≤◌, Option, IfSome, IsTrue, List}
use Rattle.std.specs.Prelude.{slice_get}
use Rattle.std.specs.List.{AllByRecursion}
use Rattle.h2_spec.specs.Stream.{Records, next_waiting, waits_above, AreRising}
use Rattle.h2_streams.specs.Kept.{ids_at, is_entered}
use Rattle.h2_streams.proofs.LiveLaws.{find-least, first-of, ids-live, idle-waits, kept-places, unentered}
use Rattle.h2_streams.proofs.own.OwnRecords.next_waiting.Goals as goal

pub returns-clause-first : goal.returns-clause-first
unfolding next_waiting
returns-clause-first g c =
    let s = c.self.inside in
    let after = c.args.after in
    let asked = rw c.as_slice.ensures.value at c.first_waiting.ensures in
    let rs = s.records.items in
    let kept = c.self.invariant.0 in
    asked ∙ ap (λ (places : List ℕ). slice_get (ids_at (waits_above after) rs places) 0) (kept-places rs s.live.entries s.ended s.ready.items s.last kept)
    ∙ ap (λ ids. slice_get ids 0) (ids-live (is_entered kept.left) (waits_above after) (λ st out. idle-waits after st (unentered kept.left st out)) rs) ∙ first-of (waits_above after) rs
    ∙ ap (λ (v : Records). next_waiting after v.streams) c.self.view_is

pub returns-clause-least : goal.returns-clause-least
unfolding next_waiting
returns-clause-least g c =
    let after = c.args.after in
    let r = c.args.self.now in
    let rising = let P : Records → Type 0 = λ v. AreRising 0 v.last v.streams in subst P c.self.view_is c.self.invariant.0.rising in
    subst (λ (o : Option ℕ). IfSome o (λ id. AllByRecursion (λ st. IsTrue (waits_above after st) → id ≤ st.id) r.streams)) (sym (returns-clause-first g c)) (find-least (waits_above after) 0 r.last r.streams rising)
