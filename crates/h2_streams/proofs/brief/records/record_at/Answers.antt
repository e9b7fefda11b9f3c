use Rattle.std.proofs.Common.{◌∙◌, Some, ap, sym}
use Rattle.h2_spec.specs.Stream.{not_live}
use Rattle.h2_streams.proofs.BriefLaws.{at-none, at-some}
use Rattle.h2_streams.proofs.brief.records.record_at.Goals as goal

pub returns-in_err-kind : goal.returns-in_err-kind
returns-in_err-kind c = rw c.from_residual.ensures (sym (at-none c.args.runs.now c.args.kinds.now c.args.place (sym c.in_err-kind.ensures)))

pub returns : goal.returns
returns c =
    let kind = c.in_ok-kind.kind in
    ap Some c.not_live.ensures ∙ ap (λ i. Some (not_live i kind)) c.id_at.ensures ∙ sym (at-some c.args.runs.now c.args.kinds.now c.args.place kind (sym c.in_ok-kind.ensures))
