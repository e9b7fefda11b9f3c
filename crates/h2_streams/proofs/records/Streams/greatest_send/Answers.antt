use Rattle.std.proofs.Common.{ap, ◌∙◌, sym}
use Rattle.h2_spec.specs.Change.{overflows}
use Rattle.h2_spec.specs.Stream.{Records}
use Rattle.h2_streams.proofs.SharedLaws.{overflows-all}
use Rattle.h2_streams.proofs.records.Streams.greatest_send.Goals as goal

pub returns : goal.returns
returns g c = λ d.
    let s = c.self.inside in
    ap (λ (v : Records). overflows d v.streams) (sym c.self.view_is) ∙ overflows-all d s.base s.own c.self.invariant ∙ c.greatest_send.ensures d
