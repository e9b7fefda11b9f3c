use Rattle.std.proofs.Common.{ap, ◌∙◌, sym}
use Rattle.h2_spec.specs.Stream as spec
use Rattle.h2_spec.specs.Stream.{Records}
use Rattle.h2_streams.proofs.SharedLaws.{count-all}
use Rattle.h2_streams.proofs.records.Streams.live_count.Goals as goal

pub returns : goal.returns
returns g c =
    let s = c.self.inside in
    c.live_count.ensures ∙ sym (count-all s.base s.own c.self.invariant) ∙ ap (λ (v : Records). spec.live_count v.streams) c.self.view_is
