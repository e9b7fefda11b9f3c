use Rattle.std.proofs.Common.{ℕ, ℤ, pos, ◌-ℤ◌, ap, ◌∙◌, ◌≡◌, refl, sym, subst, rules}
use Rattle.h2_spec.specs.declared.connection.ConnectionState.{ConnectionState}
use Rattle.h2_spec.specs.State.{State}
use Rattle.h2_spec.specs.Change.{made, updated_streams}
use Rattle.h2_spec.specs.Trace.{then_sent}
use Rattle.h2_conn.specs.Blocks.{IsOpenFor}
use Rattle.h2_spec.specs.Does.{Does}
use Rattle.h2_conn.specs.Records.{records}
use Rattle.h2_conn_rules.specs.Sound.{IsSoundChange, in_force, updated_records}
use Rattle.h2_conn.proofs.ApplyChangeLaws.{counts-sent, did, inside-sound, keeps}
use Rattle.h2_conn_send.proofs.SendChangeLaws.{can-send}
use Rattle.h2_conn.proofs.state.State.apply_leaving_counts.Goals as goal

pub send_and_update-requires : goal.send_and_update-requires
send_and_update-requires g c =
    let inside = c.self.inside in
    let state = c.self.invariant.0 in
    let change = c.args.change.now in
    let sound = inside-sound inside.book.now inside.core inside.streams change state (subst (λ (s : State). IsSoundChange s.book (records s) (in_force s.core) change) (sym c.self.view_is) c.requires.sound) in
    λ k. (
      search rules,
      (
        search rules,
        can-send inside.book.now inside.core inside.streams change state sound,
      ),
    )

-- the counts of a change that leaves them, with what was sent paid for
paid-from : (core held : ConnectionState) (sent : ℕ) (send : ℤ) → core ≡ held → send ≡ held.send -ℤ pos sent → (let k : ConnectionState = record held { send = send } in k) ≡ record core { send = core.send -ℤ pos sent }
paid-from core held sent send same is =
    ap (λ (z : ℤ). let k : ConnectionState = record held { send = z } in k) is
    ∙ ap (λ (k : ConnectionState). let paid : ConnectionState = record k { send = k.send -ℤ pos sent } in paid) (sym same)

pub invariant_of-self-2 : goal.invariant_of-self-2
invariant_of-self-2 g c =
    let inside = c.self.inside in
    let change = c.args.change.now in
    let same = subst (λ (s : State). change.core ≡ s.core) (sym c.self.view_is) c.requires.same in
    let now : ConnectionState = record inside.core { send = c.without-self-inside.result } in
    let paid = paid-from change.core inside.core c.in_ok-count.count c.without-self-inside.result same c.without-self-inside.ensures in
    let sound = subst (λ (s : State). IsSoundChange s.book (records s) (in_force s.core) change) (sym c.self.view_is) c.requires.sound in
    let opened = subst (λ (s : State). IsOpenFor (updated_records change.record_update (records s)) s.block) (sym c.self.view_is) c.requires.kept in
    let kept = keeps inside.book.now inside.core now inside.streams c.send_and_update.new.streams change inside.block inside.table.limit c.in_ok-count.count c.self.invariant.0 c.self.invariant.1 sound opened paid c.in_ok-count.ensures.sends.records in
    (kept.0, kept.1, kept.2, c.self.invariant.3)

pub returns : goal.returns
returns g c =
    let inside = c.self.inside in
    let change = c.args.change.now in
    let same = subst (λ (s : State). change.core ≡ s.core) (sym c.self.view_is) c.requires.same in
    let now : ConnectionState = record inside.core { send = c.without-self-inside.result } in
    let paid = paid-from change.core inside.core c.in_ok-count.count c.without-self-inside.result same c.without-self-inside.ensures in
    let held : State = record { book = inside.book.now; config = inside.config; core = inside.core; block = inside.block; table = inside.table.table; streams = inside.streams.streams } in
    let counts = counts-sent change.core (updated_streams change.record_update inside.streams.streams) c.in_ok-count.count now c.in_ok-count.ensures.sends.count.0 paid in
    record {
      ok = subst (λ (s : State). Does (then_sent change.core.phase (made s change)) (g.O.Outgoing.octets c.args.out.now)
          (record held { core = now; streams = c.send_and_update.new.streams.streams }) (g.O.Outgoing.octets c.send_and_update.new.out)) c.self.view_is
          (did held change inside.streams c.send_and_update.new.streams now (g.O.Outgoing.octets c.args.out.now) (g.O.Outgoing.octets c.send_and_update.new.out)
          refl counts c.in_ok-count.ensures.sends.records c.in_ok-count.ensures.sends.sent c.in_ok-count.ensures.sends.short);
      verdict = search rules;
      err = search rules;
    }
