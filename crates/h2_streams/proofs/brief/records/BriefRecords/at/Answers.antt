use Rattle.std.proofs.Common.{◌∙◌, List, Option, ap}
use Rattle.std.specs.Prelude.{slice_get}
use Rattle.h2_spec.specs.declared.streams.Stream.{Stream}
use Rattle.h2_spec.specs.declared.streams.StreamState.{StreamState}
use Rattle.h2_streams.specs.declared.brief.runs.IdRun.{IdRun}
use Rattle.h2_streams.specs.Brief.{briefs_from}
use Rattle.h2_streams.proofs.brief.records.BriefRecords.at.Goals as goal

pub returns : goal.returns
returns g c =
    let s = c.self.inside in
    let at : List Stream → Option Stream = λ rs. slice_get rs c.args.place in
    c.record_at.ensures ∙ ap (λ (rs : List IdRun). at (briefs_from 0 rs c.as_slice-2.result.now)) c.as_slice.ensures.value
    ∙ ap (λ (ks : List StreamState). at (briefs_from 0 s.runs.items ks)) c.as_slice-2.ensures.value ∙ ap at c.self.view_is
