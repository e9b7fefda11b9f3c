use Rattle.std.proofs.Common.{ap, ◌∙◌, sym}
use Rattle.h2_spec.specs.Change.{overflows}
use Rattle.h2_spec.specs.Stream.{Records}
use Rattle.h2_streams.proofs.ShiftLaws.{overflows-listed}
use Rattle.h2_streams.proofs.own.OwnRecords.greatest_send.Goals as goal

pub returns : goal.returns
returns g c = λ d.
    let s = c.self.inside in
    let asked = rw c.as_slice.ensures.value at c.greatest_of.ensures d in
    sym (asked ∙ overflows-listed d s.records.items s.live.entries s.ended s.ready.items s.last c.self.invariant.0 ∙ ap (λ (v : Records). overflows d v.streams) c.self.view_is)
