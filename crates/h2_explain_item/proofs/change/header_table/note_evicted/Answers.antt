use Rattle.std.proofs.Common.{◌≡◌, ◌∙◌, ◌-◌, ◌<◌, false, ◌∷◌, ◌++◌, [], List, drop, take, sym, ap, arith}
use Rattle.std.proofs.lemmas.List.{append_assoc}
use Rattle.h2_spec.specs.Hpack.DynamicTable.{total_size}
use Rattle.h2_spec.specs.Hpack.Field.{Field, field}
use Rattle.h2_explain_item.specs.FollowedTable.{EntryGone, EntryListed, evictions, evictor_seen, gone_with}
use Rattle.h2_explain_item.proofs.FollowedLaws.{evicted-is, one-evicted}
use Rattle.h2_explain_item.proofs.change.header_table.note_evicted.Goals as goal

pub loop-left-preserved : goal.loop-left-preserved
loop-left-preserved g c =
    let es = c.args.table.now.table.entries in
    let i = c.loop-left.invariant in
    let by = evictor_seen c.args.by in
    let x = field c.in-Some.name.now c.in-Some.value.now in
    let over : c.args.available < total_size (take c.loop-left.place es) = omega (arith, c.loop-left-test.true, i.counted) in
    let one = one-evicted es c.loop-left.place x c.args.available c.in-Some.ensures over in
    let at : c.saturating_sub-place.result ≡ c.loop-left.place - 1 = omega (arith, c.saturating_sub-place.ensures) in
    let rest : drop c.saturating_sub-place.result es ≡ x ∷ drop c.loop-left.place es = ap (λ n. drop n es) at ∙ one.rest in
    let gone : EntryGone = record { entry = x; evictor = by } in
    let kept : c.keep.new.kept.items ≡ gone ∷ take 63 (gone_with by (drop c.loop-left.place es) c.args.kept.now.items) =
    c.in_ok-keep.ensures ∙ ap (λ (y : EntryGone). y ∷ take 63 c.loop-left.kept.items) c.in_ok-of.ensures ∙ ap (λ (ys : List EntryGone). gone ∷ take 63 ys) i.kept in
    let evicted_one : Field → EntryListed = λ f. record { is_entered = false; entry = f } in
    let listed : c.push.new.self.items ≡ c.args.out.now.items ++ evictions (x ∷ drop c.loop-left.place es) =
    c.in_ok-push.ensures.items ∙ ap (λ (y : Field). c.loop-left.out.items ++ evicted_one y ∷ []) c.in_ok-entry.ensures ∙ ap (λ ys. ys ++ evicted_one x ∷ []) i.listed ∙ append_assoc c.args.out.now.items (evictions (drop c.loop-left.place es)) (evicted_one x ∷ []) in
    record {
      inside = omega (arith, at, i.inside);
      counted = rw at (omega (arith, i.counted, one.counted));
      same = rw at (one.same ∙ i.same);
      kept = kept ∙ sym (ap (λ ds. gone_with by ds c.args.kept.now.items) rest);
      listed = listed ∙ sym (ap (λ ds. c.args.out.now.items ++ evictions ds) rest);
    }

pub returns-clause-kept : goal.returns-clause-kept
returns-clause-kept g c =
    let es = c.args.table.now.table.entries in
    let i = c.loop-left.invariant in
    i.kept ∙ ap (λ ds. gone_with (evictor_seen c.args.by) ds c.args.kept.now.items) (evicted-is es c.loop-left.place c.args.available i.inside (omega (arith, i.counted, c.loop-left-test.false)) i.same)

pub returns-clause-listed : goal.returns-clause-listed
returns-clause-listed g c =
    let es = c.args.table.now.table.entries in
    let i = c.loop-left.invariant in
    i.listed ∙ ap (λ ds. c.args.out.now.items ++ evictions ds) (evicted-is es c.loop-left.place c.args.available i.inside (omega (arith, i.counted, c.loop-left-test.false)) i.same)
