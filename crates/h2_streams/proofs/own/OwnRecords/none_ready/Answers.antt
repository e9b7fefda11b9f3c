use Rattle.std.proofs.Common.{◌∙◌, ap, not, length, eqb, List, ℕ}
use Rattle.std.specs.List.{list_any}
use Rattle.h2_spec.specs.Stream.{Records}
use Rattle.h2_streams.specs.Kept.{is_ready}
use Rattle.h2_streams.proofs.IdsLaws.{none-listed}
use Rattle.h2_streams.proofs.own.OwnRecords.none_ready.Goals as goal

pub returns : goal.returns
returns g c =
    c.is_empty.ensures ∙ ap (λ (ids : List ℕ). eqb (length ids) 0) (c.as_slice.ensures.value ∙ c.self.invariant.0.ready_listed)
    ∙ none-listed is_ready c.self.inside.records.items ∙ ap (λ (v : Records). not (list_any is_ready v.streams)) c.self.view_is
