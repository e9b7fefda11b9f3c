use Rattle.std.proofs.Common.{◌∙◌, leb, rules, sym}
use Rattle.std.proofs.lemmas.List.Sorted.{IsPartitionPoint-from_clause, IsPartitionedBy-leb}
use Rattle.h2_streams.specs.declared.brief.runs.IdRun.{IdRun}
use Rattle.h2_streams.proofs.RunLaws.{ends-ordered, point-none, point-some}
use Rattle.h2_streams.proofs.brief.runs.id_at.Goals as goal

pub id-requires : goal.id-requires
id-requires c =
    let runs = c.args.runs.now in
    let place = c.args.place in
    let k = c.partition_point-index.result in
    let parted = IsPartitionedBy-leb (λ (r : IdRun). r.end) runs place (ends-ordered 0 runs c.requires) in
    let point = IsPartitionPoint-from_clause (λ (r : IdRun). leb r.end place) runs k c.partition_point-index.ensures.partitioned parted (λ a r q h. search rules) in
    let found = point-some runs k place c.in-Some.run' point.0 point.1 (sym c.in-Some.ensures) in
    found.0

pub returns-in-Some : goal.returns-in-Some
returns-in-Some c =
    let runs = c.args.runs.now in
    let place = c.args.place in
    let k = c.partition_point-index.result in
    let parted = IsPartitionedBy-leb (λ (r : IdRun). r.end) runs place (ends-ordered 0 runs c.requires) in
    let point = IsPartitionPoint-from_clause (λ (r : IdRun). leb r.end place) runs k c.partition_point-index.ensures.partitioned parted (λ a r q h. search rules) in
    let found = point-some runs k place c.in-Some.run' point.0 point.1 (sym c.in-Some.ensures) in
    c.id.ensures ∙ sym found.1

pub returns-in-None : goal.returns-in-None
returns-in-None c =
    let runs = c.args.runs.now in
    let place = c.args.place in
    let k = c.partition_point-index.result in
    let parted = IsPartitionedBy-leb (λ (r : IdRun). r.end) runs place (ends-ordered 0 runs c.requires) in
    let point = IsPartitionPoint-from_clause (λ (r : IdRun). leb r.end place) runs k c.partition_point-index.ensures.partitioned parted (λ a r q h. search rules) in
    sym (point-none runs k place point.0 (sym c.in-None.ensures) c.partition_point-index.ensures.bound)
