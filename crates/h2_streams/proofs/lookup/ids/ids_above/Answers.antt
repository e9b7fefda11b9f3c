use Rattle.std.proofs.Common.{arith, leb, ◌∙◌, rules}
use Rattle.std.proofs.lemmas.List.{length-drop, take_all}
use Rattle.std.proofs.lemmas.List.Sorted.{IsPartitionPoint-from_clause, IsPartitionedBy-leb, IsNonDecreasingBy-from_default}
use Rattle.h2_streams.proofs.IdsLaws.{rise-ordered, above-point}
use Rattle.h2_streams.proofs.lookup.ids.ids_above.Goals as goal

pub returns : goal.returns
returns c =
    let ids = c.args.ids.now in
    let k = c.partition_point-start.result in
    let parted = IsPartitionedBy-leb (λ y. y) ids c.args.after (IsNonDecreasingBy-from_default (λ y. y) ids 0 (rise-ordered 0 ids c.requires)) in
    let point = IsPartitionPoint-from_clause (λ y. leb y c.args.after) ids k c.partition_point-start.ensures.partitioned parted (λ a r q h. search rules) in
    take_all _ _ (omega (arith, length-drop k ids)) ∙ above-point ids k c.args.after c.partition_point-start.ensures.bound point.0 point.1
