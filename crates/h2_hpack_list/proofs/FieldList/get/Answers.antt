use Rattle.std.proofs.Common.{length, take, Some, sym, ap, ◌∙◌, refl, arith}
use Rattle.std.specs.Prelude.{slice_get, option_map}
use Rattle.std.proofs.lemmas.List.{length-map}
use Rattle.std.proofs.lemmas.Option.{slice_get-map, slice_get_read, slice_get_past}
use Rattle.h2_hpack_list.specs.Listed.{Listed}
use Rattle.h2_hpack_list.specs.Spans.{field_in}
use Rattle.h2_hpack_list.proofs.Closing.{span-at, field-cut}
use Rattle.h2_hpack_list.proofs.FieldList.get.Goals as goal

pub parts-requires-clause-ordered : goal.parts-requires-clause-ordered
parts-requires-clause-ordered g c =
    let l = c.self.inside in
    (span-at 0 l.spans.items l.start c.args.place c.index-span.result.now c.self.invariant.1 (omega arith) c.index-span.ensures).ordered

pub parts-requires-clause-within : goal.parts-requires-clause-within
parts-requires-clause-within g c =
    let l = c.self.inside in
    let at = span-at 0 l.spans.items l.start c.args.place c.index-span.result.now c.self.invariant.1 (omega arith) c.index-span.ensures in
    omega (arith, at.within, c.self.invariant.0, ap length c.as_slice.ensures.value)

pub returns-then-place-len : goal.returns-then-place-len
returns-then-place-len g c =
    let l = c.self.inside in
    let s = c.index-span.result.now in
    let at = span-at 0 l.spans.items l.start c.args.place s c.self.invariant.1 (omega arith) c.index-span.ensures in
    let view = field_in (take l.start l.octets.items) in
    let there = slice_get_read l.spans.items (length l.spans.items) c.args.place s refl (omega arith) c.index-span.ensures in
    ap Some (c.parts.ensures ∙ ap (λ o. field_in o s) c.as_slice.ensures.value ∙ sym (field-cut s l.start l.octets.items at.ordered at.within c.self.invariant.0))
    ∙ sym (slice_get-map view l.spans.items c.args.place ∙ ap (option_map view) there)
    ∙ ap (λ (o : Listed). slice_get o.fields c.args.place) c.self.view_is

pub returns-else-place-len : goal.returns-else-place-len
returns-else-place-len g c =
    let l = c.self.inside in
    let count = ap (λ (o : Listed). length o.fields) c.self.view_is in
    sym (slice_get_past c.args.self.now.fields c.args.place (omega (arith, count, length-map l.spans.items (field_in (take l.start l.octets.items)))))
