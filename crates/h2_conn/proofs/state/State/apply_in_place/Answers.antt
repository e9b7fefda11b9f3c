use Rattle.std.proofs.Common.{◌≡◌, refl, sym, subst, rules}
use Rattle.h2_spec.specs.State.{State}
use Rattle.h2_spec.specs.Change.{made, updated_streams}
use Rattle.h2_spec.specs.Trace.{then_sent}
use Rattle.h2_conn.specs.Blocks.{IsOpenFor}
use Rattle.h2_conn.specs.Counts.{with_counts}
use Rattle.h2_spec.specs.Does.{Does}
use Rattle.h2_conn.specs.Records.{records}
use Rattle.h2_conn_rules.specs.Sound.{IsSoundChange, in_force, updated_records}
use Rattle.h2_conn.proofs.ApplyChangeLaws.{counts-sent, did, inside-sound, keeps}
use Rattle.h2_conn_send.proofs.SendChangeLaws.{can-send}
use Rattle.h2_conn.proofs.state.State.apply_in_place.Goals as goal

pub send_and_update-requires : goal.send_and_update-requires
send_and_update-requires g c =
    let inside = c.self.inside in
    let state = c.self.invariant.0 in
    let change = c.args.change.now in
    let sound = inside-sound inside.book.now inside.core inside.streams change state (subst (λ (s : State). IsSoundChange s.book (records s) (in_force s.core) change) (sym c.self.view_is) c.requires.sound) in
    λ k. (
      search rules,
      (
        search rules,
        can-send inside.book.now inside.core inside.streams change state sound,
      ),
    )

pub invariant_of-self-2 : goal.invariant_of-self-2
invariant_of-self-2 g c =
    let inside = c.self.inside in
    let change = c.args.change.now in
    let sound = subst (λ (s : State). IsSoundChange s.book (records s) (in_force s.core) change) (sym c.self.view_is) c.requires.sound in
    let opened = subst (λ (s : State). IsOpenFor (updated_records change.record_update (records s)) s.block) (sym c.self.view_is) c.requires.kept in
    let kept = keeps inside.book.now inside.core c.set_counts.new.core inside.streams c.send_and_update.new.streams change inside.block inside.table.limit c.in_ok-count.count c.self.invariant.0 c.self.invariant.1 sound opened c.set_counts.ensures c.in_ok-count.ensures.sends.records in
    (kept.0, kept.1, kept.2, c.self.invariant.3)

pub returns : goal.returns
returns g c =
    let inside = c.self.inside in
    let change = c.args.change.now in
    let held : State = record { book = inside.book.now; config = inside.config; core = inside.core; block = inside.block; table = inside.table.table; streams = inside.streams.streams } in
    let counts = counts-sent change.core (updated_streams change.record_update inside.streams.streams) c.in_ok-count.count c.set_counts.new.core c.in_ok-count.ensures.sends.count.0 c.set_counts.ensures in
    record {
      ok = subst (λ (s : State). Does (then_sent change.core.phase (made s change)) (g.O.Outgoing.octets c.args.out.now)
          (record held { core = c.set_counts.new.core; streams = c.send_and_update.new.streams.streams }) (g.O.Outgoing.octets c.send_and_update.new.out)) c.self.view_is
          (did held change inside.streams c.send_and_update.new.streams c.set_counts.new.core (g.O.Outgoing.octets c.args.out.now) (g.O.Outgoing.octets c.send_and_update.new.out)
          refl counts c.in_ok-count.ensures.sends.records c.in_ok-count.ensures.sends.sent c.in_ok-count.ensures.sends.short);
      verdict = search rules;
      err = search rules;
    }

pub set_counts-requires-clause-same : goal.set_counts-requires-clause-same
set_counts-requires-clause-same g c = subst (λ (s : State). c.args.change.now.core ≡ with_counts s.core c.args.change.now.core) (sym c.self.view_is) c.requires.same
