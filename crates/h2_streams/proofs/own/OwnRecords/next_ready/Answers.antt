use Rattle.std.proofs.Common.{◌∙◌, ap, subst, sym}
use Rattle.std.specs.Prelude.{slice_get}
use Rattle.h2_spec.specs.Stream.{Records}
use Rattle.h2_streams.specs.Kept.{IdsRise, above, is_ready, next_ready}
use Rattle.h2_streams.proofs.IdsLaws.{rise-ids_of, first-above}
use Rattle.h2_streams.proofs.own.OwnRecords.next_ready.Goals as goal

pub ids_above-requires : goal.ids_above-requires
ids_above-requires g c =
    subst (IdsRise 0) (sym (c.as_slice.ensures.value ∙ c.self.invariant.0.ready_listed)) (rise-ids_of is_ready c.self.inside.last c.self.inside.records.items c.self.invariant.0.rising)

pub returns : goal.returns
returns g c =
    c.first.ensures ∙ ap (λ ids. slice_get ids 0) (c.ids_above.ensures ∙ ap (above c.args.after) (c.as_slice.ensures.value ∙ c.self.invariant.0.ready_listed))
    ∙ first-above is_ready c.args.after c.self.inside.records.items ∙ ap (λ (v : Records). next_ready c.args.after v.streams) c.self.view_is
