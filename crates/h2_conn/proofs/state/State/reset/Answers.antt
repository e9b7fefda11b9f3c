use Rattle.std.proofs.Common.{◌≡◌, ℕ, subst, sym, true}
use Rattle.h2_spec.specs.State.{State}
use Rattle.h2_spec.specs.Stream.{is_live, kind_of, reset_as}
use Rattle.h2_conn.specs.Blocks.{IsStopped}
use Rattle.h2_conn.proofs.ApplyChangeLaws.{stopped-open}
use Rattle.h2_conn.proofs.QuietLaws.{changed-view, reset-state}
use Rattle.h2_conn_rules.specs.Sound.{IsSoundState}
use Rattle.h2_conn.proofs.state.State.reset.Goals as goal

-- what is known of the state's record is known of the records inside
inside : (id last : ℕ) (held now : State) → held ≡ now → last ≡ held.core.last → is_live (kind_of now.core.last now.streams id) ≡ true → is_live (kind_of last held.streams id) ≡ true
inside id last held now same is h =
    subst (λ (l : ℕ). is_live (kind_of l held.streams id) ≡ true) (sym is) (subst (λ (s : State). is_live (kind_of s.core.last s.streams id) ≡ true) (sym same) h)

pub reset-requires : goal.reset-requires
reset-requires g c = inside c.args.id _ _ _ c.self.view_is c.self.invariant.0.last c.requires.live

pub invariant_of-self : goal.invariant_of-self
invariant_of-self g c =
    let s = c.self.inside in
    let sound = reset-state s.book.now s.core s.streams c.args.id c.self.invariant.0 (inside c.args.id _ _ _ c.self.view_is c.self.invariant.0.last c.requires.live) in
    let stopped = subst (λ (x : State). IsStopped x.block) (sym c.self.view_is) c.requires.stopped in
    (subst (IsSoundState s.book.now s.core) (sym c.reset.ensures) sound, c.self.invariant.1, stopped-open c.reset.new.self s.block stopped, c.self.invariant.3)

pub returns : goal.returns
returns g c = changed-view _ _ c.reset.new.self c.self.inside.streams.last c.args.id (reset_as true) c.reset.ensures c.self.invariant.0.last c.self.view_is
