use Rattle.std.proofs.Common.{◌≡◌, ◌∙◌, ◌≤◌, ◌+◌, ℕ, suc, Some, ap, arith, sym, take}
use Rattle.std.specs.Prelude.{slice_get}
use Rattle.h2_streams.specs.Joined.{with_base}
use Rattle.h2_streams.proofs.BriefLaws.{take-next}
use Rattle.h2_streams.proofs.brief.base.list_of.Goals as goal

pub loop-place-preserved : goal.loop-place-preserved
loop-place-preserved g c =
    let all = (with_base c.args.base.now c.args.own.now).streams in
    let st = c.in-Some.stream in
    let there : slice_get all c.loop-place.place ≡ Some st = sym c.at.ensures ∙ c.in-Some.is in
    let next : c.loop-place.place + 1 ≡ suc c.loop-place.place = omega arith in
    record {
      within = omega (arith, c.loop-place-test.true);
      listed = rw (c.in_ok-push.ensures.items, c.loop-place.invariant.listed) (sym (ap (λ (n : ℕ). take n all) next ∙ take-next c.loop-place.place all st there));
    }

pub returns : goal.returns
returns g c =
    let all = (with_base c.args.base.now c.args.own.now).streams in
    let done : c.loop-place.place ≡ c.args.count = omega (arith, c.loop-place.invariant.within, c.loop-place-test.false) in
    c.loop-place.invariant.listed ∙ ap (λ (n : ℕ). take n all) done
