use Rattle.std.proofs.Common.{nat_lt, rules}
use Rattle.std.proofs.lemmas.List.Sorted.{IsPartitionPoint-from_clause, IsPartitionedBy-ltb}
use Rattle.h2_spec.specs.declared.streams.Stream.{Stream}
use Rattle.h2_streams.proofs.PlaceLaws.{rise-ordered, point-place}
use Rattle.h2_streams.proofs.lookup.places.place_of.Goals as goal

pub returns-clause-value : goal.returns-clause-value
returns-clause-value c =
    let rs = c.args.records.now in
    let id = c.args.id in
    let k = c.partition_point.result in
    let parted = IsPartitionedBy-ltb (λ (st : Stream). st.id) rs id (rise-ordered 0 rs c.requires) in
    let point = IsPartitionPoint-from_clause (λ (st : Stream). nat_lt st.id id) rs k c.partition_point.ensures.partitioned parted (λ a r q h. search rules) in
    point-place rs k id c.partition_point.ensures.bound point.0 point.1
