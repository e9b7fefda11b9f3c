use Rattle.std.proofs.Common.{ap, not, ◌∙◌, sym}
use Rattle.std.specs.List.{list_any}
use Rattle.h2_spec.specs.Stream.{Records}
use Rattle.h2_streams.specs.Kept.{is_ready}
use Rattle.h2_streams.proofs.SharedLaws.{none-all}
use Rattle.h2_streams.proofs.records.Streams.none_ready.Goals as goal

pub returns : goal.returns
returns g c =
    let s = c.self.inside in
    c.none_ready.ensures ∙ ap not (sym (none-all s.base s.own c.self.invariant)) ∙ ap (λ (v : Records). not (list_any is_ready v.streams)) c.self.view_is
