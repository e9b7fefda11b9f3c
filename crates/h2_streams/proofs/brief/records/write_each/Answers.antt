use Rattle.std.proofs.Common.{◌≡◌, [], ◌∷◌, ◌+◌, ◌∙◌, List, ap, arith, drop, drop_of_length-le, map, refl, sym}
use Rattle.std.proofs.lemmas.List.{drop_more}
use Rattle.h2_spec.specs.declared.streams.Stream.{Stream}
use Rattle.h2_streams.specs.Brief.{brief, briefs_from}
use Rattle.h2_streams.proofs.JoinedLaws.{known-map, rise-map}
use Rattle.h2_streams.proofs.RebuiltLaws.{as_in-nothing, writes-first, writes-next}
use Rattle.h2_streams.proofs.brief.records.write_each.Goals as goal

pub loop-stream-init : goal.loop-stream-init
loop-stream-init g c =
    let base = briefs_from 0 c.args.runs.now c.args.kinds.now.items in
    record {
      written = writes-first (map brief c.args.changed.now) base c.requires.rising (rise-map brief (λ st. refl) 0 c.args.changed.now c.requires.changed) (known-map brief (λ st. refl) base c.args.changed.now c.requires.known);
      len = refl;
      capacity = omega arith;
    }

pub write-requires-clause-rising : goal.write-requires-clause-rising
write-requires-clause-rising g c = c.loop-stream.invariant.written.rising

pub write-requires-clause-known : goal.write-requires-clause-known
write-requires-clause-known g c =
    let i = c.loop-stream.stream-index in
    let st = c.stream-item.result in
    let left : drop i c.args.changed.now ≡ st ∷ drop (i + 1) c.args.changed.now = drop_more c.args.changed.now i st c.loop-stream-test.true ∙ ap (λ x. x ∷ drop (i + 1) c.args.changed.now) (sym c.stream-item.is) in
    (rw left at c.loop-stream.invariant.written.known).0

pub loop-stream-preserved : goal.loop-stream-preserved
loop-stream-preserved g c =
    let i = c.loop-stream.stream-index in
    let st = c.stream-item.result in
    let left : drop i c.args.changed.now ≡ st ∷ drop (i + 1) c.args.changed.now = drop_more c.args.changed.now i st c.loop-stream-test.true ∙ ap (λ x. x ∷ drop (i + 1) c.args.changed.now) (sym c.stream-item.is) in
    record {
      written = rw c.write.ensures.items (writes-next _ _ (brief st) (map brief (drop (i + 1) c.args.changed.now)) _ (rw left at c.loop-stream.invariant.written));
      len = c.write.ensures.len ∙ c.loop-stream.invariant.len;
      capacity = omega (arith, c.loop-stream.invariant.capacity, c.write.ensures.capacity);
    }

pub returns : goal.returns
returns g c =
    let done : drop c.loop-stream.stream-index c.args.changed.now ≡ [] = drop_of_length-le c.args.changed.now (omega (arith, c.loop-stream-test.false)) in
    record {
      items = sym (as_in-nothing (briefs_from 0 c.args.runs.now c.loop-stream.kinds.items)) ∙ (rw done at c.loop-stream.invariant.written.items);
      len = c.loop-stream.invariant.len;
      capacity = c.loop-stream.invariant.capacity;
    }
