use Rattle.std.proofs.Common.{◌≡◌, ap, List, [], ◌∷◌, ◌++◌, ℕ, false, refl, ◌∙◌, sym, true≢false}
use Rattle.std.specs.Option.{is_some}
use Rattle.std.specs.Prelude.{slice_get}
use Rattle.h2_spec.specs.Stream.{waits_above}
use Rattle.h2_streams.specs.Kept.{id_if, ids_at}
use Rattle.h2_streams.proofs.lookup.walks.first_waiting.Goals as goal

-- what is first after a list with nothing in it
first-after : (xs ys : List ℕ) → is_some (slice_get xs 0) ≡ false → slice_get ys 0 ≡ slice_get (xs ++ ys) 0
first-after [] ys h = refl
first-after (x ∷ xs) ys h = absurd (true≢false h)

pub loop-place-init : goal.loop-place-init
loop-place-init g c =
    ap (λ ps. slice_get (ids_at (waits_above c.args.after) c.args.records.now ps) 0) (c.into_iter-place-iterator.ensures.into_iter_gives ∙ c.values-place-items.ensures.rest)

pub loop-place-preserved : goal.loop-place-preserved
loop-place-preserved g c =
    let t = waits_above c.args.after in
    let rs = c.args.records.now in
    let none = ap is_some (sym (c.waiting_id-id.ensures ∙ ap (λ o. slice_get (id_if t o) 0) c.record_at.ensures)) ∙ sym c.if-is_some.ensures in
    first-after (id_if t (slice_get rs c.in-Some.place.now)) (ids_at t rs c.next.new.self) none ∙ ap (λ ps. slice_get (ids_at t rs ps) 0) (sym c.in-Some.ensures.steps) ∙ c.loop-place.invariant

pub returns : goal.returns
returns g c =
    ap (λ ps. slice_get (ids_at (waits_above c.args.after) c.args.records.now ps) 0) (sym c.in-None.ensures.steps.0) ∙ c.loop-place.invariant
