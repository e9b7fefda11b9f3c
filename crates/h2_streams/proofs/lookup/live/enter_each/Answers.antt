use Rattle.std.proofs.Common.{◌≡◌, [], ◌∷◌, ◌+◌, ◌∙◌, ap, append-nil, refl, arith, drop, drop_of_length-le, sym}
use Rattle.std.proofs.lemmas.List.{drop_more}
use Rattle.h2_spec.specs.Stream.{is_live, live_count}
use Rattle.h2_streams.proofs.LiveLaws.{as_count, count-cons}
use Rattle.h2_streams.proofs.RebuiltLaws.{enters-absent, enters-first, enters-next}
use Rattle.h2_streams.proofs.lookup.live.enter_each.Goals as goal

pub loop-stream-init : goal.loop-stream-init
loop-stream-init g c = record {
  entered = enters-first c.args.streams.now c.args.records.now c.args.live.now.entries c.requires.order c.requires.empty;
  enough = c.requires.enough;
}

pub enter-requires-clause-new : goal.enter-requires-clause-new
enter-requires-clause-new g c =
    let i = c.loop-stream.stream-index in
    let st = c.stream-item.result in
    let left : drop i c.args.streams.now ≡ st ∷ drop (i + 1) c.args.streams.now = drop_more c.args.streams.now i st c.loop-stream-test.true ∙ ap (λ x. x ∷ drop (i + 1) c.args.streams.now) (sym c.stream-item.is) in
    let w = rw left at c.loop-stream.invariant.entered in
    enters-absent st (drop (i + 1) c.args.streams.now) c.loop-stream.live.entries w.behind

pub enter-requires-clause-enough : goal.enter-requires-clause-enough
enter-requires-clause-enough g c = λ is.
    let i = c.loop-stream.stream-index in
    let st = c.stream-item.result in
    let left : drop i c.args.streams.now ≡ st ∷ drop (i + 1) c.args.streams.now = drop_more c.args.streams.now i st c.loop-stream-test.true ∙ ap (λ x. x ∷ drop (i + 1) c.args.streams.now) (sym c.stream-item.is) in
    let count = ap live_count left ∙ count-cons st (drop (i + 1) c.args.streams.now) in
    let one : as_count (is_live st.kind) ≡ 1 = rw (sym c.is_live.ensures ∙ is) refl in
    omega (arith, count, one, c.loop-stream.invariant.enough)

pub loop-stream-preserved : goal.loop-stream-preserved
loop-stream-preserved g c =
    let i = c.loop-stream.stream-index in
    let st = c.stream-item.result in
    let left : drop i c.args.streams.now ≡ st ∷ drop (i + 1) c.args.streams.now = drop_more c.args.streams.now i st c.loop-stream-test.true ∙ ap (λ x. x ∷ drop (i + 1) c.args.streams.now) (sym c.stream-item.is) in
    let count = ap live_count left ∙ count-cons st (drop (i + 1) c.args.streams.now) in
    let room = rw c.is_live.ensures at c.enter.ensures.spare in
    record {
      entered = rw (c.enter.ensures.entries, c.place_of.ensures.value, c.is_live.ensures) (enters-next _ _ st (drop (i + 1) c.args.streams.now) _ (rw left at c.loop-stream.invariant.entered));
      enough = omega (arith, count, room, c.loop-stream.invariant.enough);
    }

pub returns : goal.returns
returns g c =
    let done : drop c.loop-stream.stream-index c.args.streams.now ≡ [] = drop_of_length-le c.args.streams.now (omega (arith, c.loop-stream-test.false)) in
    sym (append-nil c.loop-stream.live.entries) ∙ (rw done at c.loop-stream.invariant.entered.live_is)
