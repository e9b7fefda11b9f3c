use Rattle.std.proofs.Common.{◌∙◌, ap, subst, sym}
use Rattle.h2_spec.specs.Stream.{Records}
use Rattle.h2_streams.specs.Joined.{Base, GoWith, with_base}
use Rattle.h2_streams.proofs.records.Streams.try_clone.Goals as goal

pub invariant_of-result : goal.invariant_of-result
invariant_of-result g c =
    let s = c.self.inside in
    subst (λ (b : Base). GoWith b c.in_ok-own.own) (sym c.in_ok-base.ensures) (subst (λ (o : Records). GoWith s.base o) (sym c.in_ok-own.ensures) c.self.invariant)

pub returns : goal.returns
returns g c = ap (λ (b : Base). with_base b c.in_ok-own.own) c.in_ok-base.ensures ∙ ap (with_base c.self.inside.base) c.in_ok-own.ensures ∙ c.self.view_is
