use Rattle.std.proofs.Common.{◌≡◌, refl, sym, ap, subst, ◌∙◌, rules}
use Rattle.h2_spec.specs.declared.connection.ConnectionState.{ConnectionState}
use Rattle.h2_spec.specs.declared.reactions.Change.{Change}
use Rattle.h2_spec.specs.Change.{made, updated_streams}
use Rattle.h2_spec.specs.Hpack.DynamicTable.{LimitedTable, Table}
use Rattle.h2_spec.specs.SettingsFrame.{comes_into_force}
use Rattle.h2_spec.specs.State.{State, configured}
use Rattle.h2_spec.specs.Stream.{Records}
use Rattle.h2_spec.specs.Trace.{then_sent}
use Rattle.h2_conn.specs.Blocks.{IsOpenFor, IsStopped}
use Rattle.h2_spec.specs.Does.{Does}
use Rattle.h2_conn_send.specs.Sending.{open_window, records_after, CanSend}
use Rattle.h2_conn_rules.specs.Sound.{AreInRange, IsSoundState, updated_records}
use Rattle.h2_conn.proofs.ApplyChangeLaws.{counts-sent, did, stopped-open}
use Rattle.h2_conn.proofs.Runs.{if_err}
use Rattle.h2_conn_send.proofs.SendChangeLaws.{can-come}
use Rattle.h2_conn_send.proofs.SentLaws.{sent-sound}
use Rattle.h2_conn_rules.proofs.SoundLaws.{in-force-sound}
use Rattle.h2_conn.proofs.state.State.come_into_force.Goals as goal

pub send_and_update-requires : goal.send_and_update-requires
send_and_update-requires g c =
    let inside = c.self.inside in
    let own = c.configured-own.result in
    let range = subst AreInRange (sym c.configured-own.ensures) c.self.invariant.3 in
    λ k. (
      search rules,
      (
        search rules,
        subst (λ (x : Change). CanSend inside.book.now inside.streams x.record_update) (sym c.comes_into_force-change.ensures) (can-come inside.book.now inside.core own inside.streams range c.self.invariant.0),
      ),
    )

pub invariant_of-self-in-Ok : goal.invariant_of-self-in-Ok
invariant_of-self-in-Ok g c =
    let inside = c.self.inside in
    let book = inside.book.now in
    let own = c.configured-own.result in
    let change = c.comes_into_force-change.result in
    let range = subst AreInRange (sym c.configured-own.ensures) c.self.invariant.3 in
    let r = updated_records change.record_update inside.streams in
    let came = in-force-sound book inside.core own inside.streams range c.self.invariant.0 in
    let changed = subst (λ (x : Change). IsSoundState book x.core (updated_records x.record_update inside.streams)) (sym c.comes_into_force-change.ensures) came in
    let sent = sent-sound book change.core r (open_window change.core) c.in-Ok.count changed in
    let paid = subst (λ (k : ConnectionState). IsSoundState book k (records_after change.core r)) (sym c.with_sent-self-inside.ensures) sent in
    let after = subst (λ (x : Records). IsSoundState book c.with_sent-self-inside.result x) (sym c.in-Ok.ensures.sends.records) paid in
    let same = ap (λ (k : ConnectionState). k.own.table) c.with_sent-self-inside.ensures ∙ ap (λ (x : Change). x.core.own.table) c.comes_into_force-change.ensures in
    let limit = ap (λ (t : LimitedTable). t.limit) c.lower_limit.ensures ∙ sym same in
    let opened = stopped-open c.send_and_update.new.streams inside.block (subst (λ (s : State). IsStopped s.block) (sym c.self.view_is) c.requires.stopped) in
    (after, limit, opened, c.self.invariant.3)

pub returns-in-Ok : goal.returns-in-Ok
returns-in-Ok g c =
    let inside = c.self.inside in
    let own = c.configured-own.result in
    let change = c.comes_into_force-change.result in
    let out = (g.O.Outgoing.octets c.args.out.now) in
    let now = c.send_and_update.new in
    let held : State = record { book = inside.book.now; config = inside.config; core = inside.core; block = inside.block; table = inside.table.table; streams = inside.streams.streams } in
    let sent : State = record held { core = c.with_sent-self-inside.result; streams = now.streams.streams } in
    let counts = counts-sent change.core (updated_streams change.record_update inside.streams.streams) c.in-Ok.count c.with_sent-self-inside.result c.in-Ok.ensures.sends.count.0 c.with_sent-self-inside.ensures in
    let does = did held change inside.streams now.streams c.with_sent-self-inside.result out (g.O.Outgoing.octets now.out) refl counts c.in-Ok.ensures.sends.records c.in-Ok.ensures.sends.sent c.in-Ok.ensures.sends.short in
    let is : change ≡ comes_into_force inside.core (configured inside.config) = c.comes_into_force-change.ensures ∙ ap (comes_into_force inside.core) c.configured-own.ensures in
    let came = subst (λ (x : Change). Does (then_sent x.core.phase (made held x)) out sent (g.O.Outgoing.octets now.out)) is does in
    let kept : c.lower_limit.new.self.table ≡ inside.table.table = ap (λ (t : LimitedTable). t.table) c.lower_limit.ensures ∙ ap (λ (t : LimitedTable). t.table) c.in_ok-set_limit.ensures.limited in
    let whole = subst (λ (t : Table). Does (then_sent inside.core.phase (made held (comes_into_force inside.core (configured inside.config)))) out (record sent { table = t }) (g.O.Outgoing.octets now.out)) (sym kept) came in
    record {
      ok = subst (λ (s : State). Does (then_sent s.core.phase (made s (comes_into_force s.core (configured s.config)))) out (record sent { table = c.lower_limit.new.self.table }) (g.O.Outgoing.octets now.out)) c.self.view_is whole;
      verdict = search rules;
      err = search rules;
    }

pub invariant_of-self : goal.invariant_of-self
invariant_of-self g c =
    let before = c.self.invariant in
    (before.0, ap (λ (t : LimitedTable). t.limit) c.in_err-set_limit.ensures.unchanged ∙ before.1, before.2, before.3)

pub returns-in_err-set_limit : goal.returns-in_err-set_limit
returns-in_err-set_limit g c =
    let inside = c.self.inside in
    let held : Table → State = λ t. record { book = inside.book.now; config = inside.config; core = inside.core; block = inside.block; table = t; streams = inside.streams.streams } in
    record { ok = search rules; verdict = search rules; err = if_err c.from_residual.result (ap (λ (t : LimitedTable). held t.table) c.in_err-set_limit.ensures.unchanged ∙ c.self.view_is, refl) }

pub invariant_of-self-in-Err : goal.invariant_of-self-in-Err
invariant_of-self-in-Err g c =
    let before = c.self.invariant in
    let same = sym c.in-Err.ensures.err.0 in (
      subst (IsSoundState c.self.inside.book.now c.self.inside.core) same before.0,
      ap (λ (t : LimitedTable). t.limit) c.lower_limit-in-Err.ensures ∙ c.limit-before.ensures ∙ before.1,
      subst (λ (r : Records). IsOpenFor r c.self.inside.block) same before.2,
      before.3,
    )

pub returns-in-Err : goal.returns-in-Err
returns-in-Err g c =
    let inside = c.self.inside in
    let same = c.in-Err.ensures.err in
    let held : Table → Records → State = λ t r. record { book = inside.book.now; config = inside.config; core = inside.core; block = inside.block; table = t; streams = r.streams } in
    let kept : c.lower_limit-in-Err.new.self.table ≡ inside.table.table = ap (λ (t : LimitedTable). t.table) c.lower_limit-in-Err.ensures ∙ ap (λ (t : LimitedTable). t.table) c.in_ok-set_limit.ensures.limited in
    record { ok = search rules; verdict = search rules; err = (ap (λ (t : Table). held t c.send_and_update.new.streams) kept ∙ ap (held inside.table.table) same.0 ∙ c.self.view_is, same.1) }
