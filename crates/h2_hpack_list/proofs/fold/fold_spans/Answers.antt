use Rattle.std.proofs.Common.{◌≡◌, ◌<◌, ◌≤◌, [], ◌∷◌, ◌++◌, length, take, get_or, map, subst, ap, ◌∙◌, sym, arith, length-take}
use Rattle.std.proofs.lemmas.List.{map-append, take_more}
use Rattle.h2_hpack_list.specs.Folded.{AreBelow, chosen, nothing}
use Rattle.h2_hpack_list.specs.Spans.{field_in}
use Rattle.h2_hpack_list.proofs.Folding.{below-more, below-push, chosen-push, span-in}
use Rattle.h2_hpack_list.proofs.fold.fold_spans.Goals as goal

pub loop-span-preserved : goal.loop-span-preserved
loop-span-preserved g c =
    let list = c.args.list.now in
    let i = c.loop-span.span-index in
    let before = c.loop-span.spans.items in
    let now = c.place_for.new.spans.items in
    let places = c.loop-span.places.items in
    let place = c.in_ok-place.place in
    let s = get_or list i nothing in
    let inside : i < length list = omega (arith, c.loop-span-test.true) in
    let longer : length before ≤ length now = omega (arith, ap length c.in_ok-place.ensures.kept, length-take (length before) now) in
    let pushed : c.push.new.self.items ≡ places ++ place ∷ [] = c.in_ok-push.ensures.items in
    record {
      below = subst (AreBelow (length now)) (sym pushed) (below-push (length now) places place (below-more (length before) (length now) places c.loop-span.invariant.below longer) c.in_ok-place.ensures.below);
      within = λ end h.
          let at = span-in 0 list end i h inside in
          c.in_ok-place.ensures.within end (c.loop-span.invariant.within end h) at.ordered at.within;
      same = λ octets.
          ap (chosen octets now) pushed
          ∙ chosen-push octets before now places place (field_in octets s) c.loop-span.invariant.below c.in_ok-place.ensures.kept (c.in_ok-place.ensures.is octets)
          ∙ ap (λ fs. fs ++ field_in octets s ∷ []) (c.loop-span.invariant.same octets)
          ∙ sym (map-append (field_in octets) (take i list) (s ∷ []))
          ∙ ap (map (field_in octets)) (sym (take_more list i nothing inside));
    }
