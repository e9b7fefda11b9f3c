use Rattle.std.proofs.Common.{ap, ◌∙◌, sym}
use Rattle.h2_spec.specs.Stream.{Records}
use Rattle.h2_streams.specs.Kept.{next_ready}
use Rattle.h2_streams.proofs.SharedLaws.{ready-all}
use Rattle.h2_streams.proofs.records.Streams.next_ready.Goals as goal

pub returns : goal.returns
returns g c =
    let s = c.self.inside in
    c.next_ready.ensures ∙ sym (ready-all c.args.after s.base s.own c.self.invariant) ∙ ap (λ (v : Records). next_ready c.args.after v.streams) c.self.view_is
