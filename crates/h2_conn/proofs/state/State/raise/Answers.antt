use Rattle.std.proofs.Common.{◌≡◌, ℕ, subst, sym, true}
use Rattle.h2_spec.specs.State.{State}
use Rattle.h2_spec.specs.Stream.{stream_at}
use Rattle.h2_spec.proofs.Computed.{and-right}
use Rattle.h2_conn.specs.Blocks.{IsStopped}
use Rattle.h2_conn.proofs.ApplyChangeLaws.{stopped-open}
use Rattle.h2_conn.proofs.QuietLaws.{changed-view, raised-state, raises-live}
use Rattle.h2_conn_rules.specs.Plain.{only_raises}
use Rattle.h2_conn_rules.specs.Sound.{IsSoundState}
use Rattle.h2_streams.specs.Raised.{raised}
use Rattle.h2_conn.proofs.state.State.raise.Goals as goal

-- what is known of the state's record is known of the records inside
inside : (id n last : ℕ) (held now : State) → held ≡ now → last ≡ held.core.last → only_raises n (stream_at now.core.last now.streams id) ≡ true → only_raises n (stream_at last held.streams id) ≡ true
inside id n last held now same is h =
    subst (λ (l : ℕ). only_raises n (stream_at l held.streams id) ≡ true) (sym is) (subst (λ (s : State). only_raises n (stream_at s.core.last s.streams id) ≡ true) (sym same) h)

pub raise-requires-clause-live : goal.raise-requires-clause-live
raise-requires-clause-live g c = raises-live c.args.increment (stream_at c.self.inside.streams.last c.self.inside.streams.streams c.args.id) (inside c.args.id c.args.increment _ _ _ c.self.view_is c.self.invariant.0.last c.requires.raises)

pub raise-requires-clause-fits : goal.raise-requires-clause-fits
raise-requires-clause-fits g c = and-right _ _ (inside c.args.id c.args.increment _ _ _ c.self.view_is c.self.invariant.0.last c.requires.raises)

pub invariant_of-self : goal.invariant_of-self
invariant_of-self g c =
    let s = c.self.inside in
    let raises = inside c.args.id c.args.increment _ _ _ c.self.view_is c.self.invariant.0.last c.requires.raises in
    let sound = raised-state s.book.now s.core s.streams c.args.id c.self.invariant.0 c.args.increment raises in
    let stopped = subst (λ (x : State). IsStopped x.block) (sym c.self.view_is) c.requires.stopped in
    (subst (IsSoundState s.book.now s.core) (sym c.raise.ensures) sound, c.self.invariant.1, stopped-open c.raise.new.self s.block stopped, c.self.invariant.3)

pub returns : goal.returns
returns g c = changed-view _ _ c.raise.new.self c.self.inside.streams.last c.args.id (raised c.args.increment) c.raise.ensures c.self.invariant.0.last c.self.view_is
