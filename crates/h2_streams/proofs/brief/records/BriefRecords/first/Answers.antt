use Rattle.std.proofs.Common.{◌≡◌, ◌≤◌, ◌∙◌, ◌++◌, List, ap, arith, length, length-take-le, sym, take}
use Rattle.h2_spec.specs.declared.streams.StreamState.{StreamState}
use Rattle.h2_streams.specs.declared.brief.runs.IdRun.{IdRun}
use Rattle.h2_streams.specs.Brief.{briefs_from, id_at}
use Rattle.h2_streams.proofs.BriefLaws.{briefs-length, briefs-same, briefs-take}
use Rattle.h2_streams.proofs.brief.records.BriefRecords.first.Goals as goal

pub first_runs-requires-clause-within : goal.first_runs-requires-clause-within
first_runs-requires-clause-within g c =
    let s = c.self.inside in
    let many = briefs-length 0 s.runs.items s.kinds.items in
    let same = ap length c.self.view_is in
    let ends = c.self.invariant.1 in
    rw c.as_slice-2.ensures.value (omega (arith, c.requires, many, same, ends))

pub invariant_of-result : goal.invariant_of-result
invariant_of-result g c =
    let s = c.self.inside in
    let many = briefs-length 0 s.runs.items s.kinds.items in
    let same = ap length c.self.view_is in
    let within : c.args.count ≤ length s.kinds.items = omega (arith, c.requires, many, same) in
    let kinds = c.truncate.ensures.items ∙ ap (take c.args.count) (c.in_ok-extend_from_slice.ensures.items ∙ ap (λ (ks : List StreamState). ks ++ c.as_slice.result.now) c.new-kinds.ensures.items ∙ c.as_slice.ensures.value) in
    (c.in_ok-runs.ensures.ends.0, c.in_ok-runs.ensures.ends.1 ∙ sym (ap length kinds ∙ length-take-le c.args.count s.kinds.items within))

pub returns : goal.returns
returns g c =
    let s = c.self.inside in
    let runs = c.in_ok-runs.runs.items in
    let many = briefs-length 0 s.runs.items s.kinds.items in
    let same = ap length c.self.view_is in
    let within : c.args.count ≤ length s.kinds.items = omega (arith, c.requires, many, same) in
    let few = length-take-le c.args.count s.kinds.items within in
    let kinds = c.truncate.ensures.items ∙ ap (take c.args.count) (c.in_ok-extend_from_slice.ensures.items ∙ ap (λ (ks : List StreamState). ks ++ c.as_slice.result.now) c.new-kinds.ensures.items ∙ c.as_slice.ensures.value) in
    ap (briefs_from 0 runs) kinds
    ∙ briefs-same 0 runs s.runs.items (take c.args.count s.kinds.items) (λ p a b. c.in_ok-runs.ensures.same p (omega (arith, b, few)) ∙ ap (λ (rs : List IdRun). id_at rs p) c.as_slice-2.ensures.value)
    ∙ briefs-take 0 c.args.count s.runs.items s.kinds.items ∙ ap (take c.args.count) c.self.view_is
