use Rattle.std.proofs.Common.{◌≡◌, ℕ, List, take, length, map}
use Rattle.h2_hpack_list.specs.Spans.{AreSpans, field_in}
use Rattle.h2_hpack_list.specs.Folded.{AreBelow, AreWithin, chosen}
use Rattle.h2_hpack_list.proofs.fold.fold_spans.Given as goal

abbrev pub invariant-loop-span : goal.invariant-loop-span
invariant-loop-span g l = record {
  below : AreBelow (length l.spans.items) l.places.items;
  within : (end : ℕ) → AreSpans 0 l.list end → AreWithin end l.spans.items;
  same : (octets : List ℕ) → chosen octets l.spans.items l.places.items ≡ map (field_in octets) (take l.span-index l.list);
}
