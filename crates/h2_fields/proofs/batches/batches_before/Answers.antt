use Rattle.std.proofs.Common.{nat_lt, rules}
use Rattle.std.proofs.lemmas.List.Sorted.{IsPartitionPoint-from_clause, IsPartitionedBy-ltb}
use Rattle.h2_fields.specs.Batches.{FieldsFrom}
use Rattle.h2_fields.proofs.BatchLaws.{starts-ordered, point-before}
use Rattle.h2_fields.proofs.batches.batches_before.Goals as goal

pub returns-clause-value : goal.returns-clause-value
returns-clause-value g c =
    let bs = c.args.batches.now in
    let bound = c.args.bound in
    let k = c.partition_point.result in
    let parted = IsPartitionedBy-ltb (λ (b : FieldsFrom). b.start) bs bound (starts-ordered 0 bs c.requires) in
    let point = IsPartitionPoint-from_clause (λ (b : FieldsFrom). nat_lt b.start bound) bs k c.partition_point.ensures.partitioned parted (λ a r q h. search rules) in
    point-before bs k bound c.partition_point.ensures.bound point.0 point.1
