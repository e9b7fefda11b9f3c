use Rattle.std.proofs.Common.{◌∙◌, ap, sym}
use Rattle.std.specs.Prelude.{slice_set}
use Rattle.h2_spec.specs.declared.streams.Stream.{Stream}
use Rattle.h2_streams.specs.Kept.{is_ready}
use Rattle.h2_streams.specs.Raised.{can_rise, raised}
use Rattle.h2_streams.proofs.PlaceLaws.{passes-is, passes-within}
use Rattle.h2_streams.proofs.ShiftLaws.{set-update}
use Rattle.h2_streams.proofs.lookup.places.raise_at.Goals as goal

pub returns-clause-items : goal.returns-clause-items
returns-clause-items g c =
    let rs = c.args.records.now.items in
    let n = c.args.increment in
    let within = passes-within (can_rise n) rs c.args.place c.requires in
    let stream = c.raise.ensures ∙ ap (raised n) c.index_mut-stream.ensures.value in
    ap (λ (st : Stream). slice_set rs c.args.place st) stream ∙ set-update (raised n) c.args.place rs _ within

pub returns-clause-ready : goal.returns-clause-ready
returns-clause-ready g c =
    let rs = c.args.records.now.items in
    let n = c.args.increment in
    let within = passes-within (can_rise n) rs c.args.place c.requires in
    let stream = c.raise.ensures ∙ ap (raised n) c.index_mut-stream.ensures.value in
    c.is_ready.ensures ∙ ap is_ready stream ∙ sym (passes-is (λ (st : Stream). is_ready (raised n st)) rs c.args.place _ within)
