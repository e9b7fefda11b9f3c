use Rattle.std.proofs.Common.{◌≡◌, [], ◌∷◌, ◌+◌, ◌∙◌, ap, arith, drop, drop_of_length-le, subst, sym}
use Rattle.std.proofs.lemmas.List.{drop_more}
use Rattle.h2_streams.specs.Kept.{Rise, place_of}
use Rattle.h2_streams.proofs.RebuiltLaws.{as_in-nothing, writes-first, writes-next}
use Rattle.h2_streams.proofs.lookup.places.write_each.Goals as goal

pub loop-stream-init : goal.loop-stream-init
loop-stream-init g c = record {
  written = writes-first c.args.changed.now c.args.records.now.items c.requires.rising c.requires.changed c.requires.known;
  capacity = omega arith;
}

pub place_of-place-requires : goal.place_of-place-requires
place_of-place-requires g c = subst (Rise 0) (sym c.as_slice.ensures.value) c.loop-stream.invariant.written.rising

pub write-requires-clause-known : goal.write-requires-clause-known
write-requires-clause-known g c =
    let i = c.loop-stream.stream-index in
    let st = c.stream-item.result in
    let left : drop i c.args.changed.now ≡ st ∷ drop (i + 1) c.args.changed.now = drop_more c.args.changed.now i st c.loop-stream-test.true ∙ ap (λ x. x ∷ drop (i + 1) c.args.changed.now) (sym c.stream-item.is) in
    (rw left at c.loop-stream.invariant.written.known).0

pub write-requires-clause-place : goal.write-requires-clause-place
write-requires-clause-place g c = c.place_of-place.ensures.value ∙ ap (place_of c.stream-item.result.id) c.as_slice.ensures.value

pub loop-stream-preserved : goal.loop-stream-preserved
loop-stream-preserved g c =
    let i = c.loop-stream.stream-index in
    let st = c.stream-item.result in
    let left : drop i c.args.changed.now ≡ st ∷ drop (i + 1) c.args.changed.now = drop_more c.args.changed.now i st c.loop-stream-test.true ∙ ap (λ x. x ∷ drop (i + 1) c.args.changed.now) (sym c.stream-item.is) in
    record {
      written = rw c.write.ensures.items (writes-next _ _ st (drop (i + 1) c.args.changed.now) _ (rw left at c.loop-stream.invariant.written));
      capacity = omega (arith, c.loop-stream.invariant.capacity, c.write.ensures.capacity);
    }

pub returns-clause-items : goal.returns-clause-items
returns-clause-items g c =
    let done : drop c.loop-stream.stream-index c.args.changed.now ≡ [] = drop_of_length-le c.args.changed.now (omega (arith, c.loop-stream-test.false)) in
    sym (as_in-nothing c.loop-stream.records.items) ∙ (rw done at c.loop-stream.invariant.written.items)
