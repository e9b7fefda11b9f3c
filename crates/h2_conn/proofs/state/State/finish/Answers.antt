use Rattle.std.proofs.Common.{◌≡◌, ℕ, Option, refl, sym, ap, subst, ◌∙◌, rules}
use Rattle.h2_spec.specs.declared.flow.LocalSettings.{LocalSettings}
use Rattle.h2_spec.specs.Change.{made}
use Rattle.h2_spec.specs.Hpack.DynamicTable.{LimitedTable, Table}
use Rattle.h2_spec.specs.State.{Decoding, OpenBlock, State}
use Rattle.h2_spec.specs.Trace.{then_sent}
use Rattle.h2_table.specs.Edits.{IsEdit, edited}
use Rattle.h2_conn.specs.Blocks.{IsOpenFor, limited}
use Rattle.h2_conn.specs.OpenBlocks.{block_after}
use Rattle.h2_spec.specs.Does.{Does}
use Rattle.h2_conn.specs.Fragments.{after_of}
use Rattle.h2_conn.proofs.ApplyChangeLaws.{stopped-open}
use Rattle.h2_conn.proofs.FinishLaws.{open-then, rebound, same-settings, same-table}
use Rattle.h2_conn.proofs.state.State.finish.Goals as goal

pub apply_in_place-requires : goal.apply_in_place-requires
apply_in_place-requires g c = λ k. ((refl, tt), (stopped-open _ _ c.requires.stopped, (c.requires.sound, c.requires.same)))

pub commit-requires : goal.commit-requires
commit-requires g c =
    let s = c.args.self.now in
    let edit = c.args.edit.now in
    let table = c.self.inside.table in
    let change = c.args.change.now in
    let same : table.table ≡ s.table = ap (λ (x : State). x.table) c.self.view_is ∙ same-table s c.apply_in_place.new.self change (g.O.Outgoing.octets c.args.out.now) (g.O.Outgoing.octets c.apply_in_place.new.out) c.in-Ok.ensures.ok in
    let own = same-settings s c.apply_in_place.new.self change (g.O.Outgoing.octets c.args.out.now) (g.O.Outgoing.octets c.apply_in_place.new.out) c.requires.sound c.in-Ok.ensures.ok in
    let limit : table.limit ≡ s.core.own.table = c.self.invariant.1 ∙ ap (λ (x : State). x.core.own.table) c.self.view_is ∙ ap (λ (o : LocalSettings). o.table) own in
    record { belongs = subst (λ (l : ℕ). IsEdit (limited l table.table) edit) (sym limit) (subst (λ (t : Table). IsEdit (limited s.core.own.table t) edit) (sym same) c.requires.belongs) }

pub invariant_of-self : goal.invariant_of-self
invariant_of-self g c =
    let s = c.args.self.now in
    let shown = c.args.shown in
    let change = c.args.change.now in
    let inside = c.self.inside in
    let after = after_of c.args.decoding.now c.args.tentative in
    let held = ap (λ (x : State). x.streams) (sym c.self.view_is) in
    let is = c.leave_open.ensures.open ∙ ap (block_after shown) c.take_over.ensures in
    let opened = open-then s c.apply_in_place.new.self inside.streams change (block_after shown after) (g.O.Outgoing.octets c.args.out.now) (g.O.Outgoing.octets c.apply_in_place.new.out) c.requires.sound c.requires.known c.in-Ok.ensures.ok
    held (c.self.invariant.0.last ∙ ap (λ (x : State). x.core.last) c.self.view_is) in
    (c.self.invariant.0, ap (λ (t : LimitedTable). t.limit) c.commit.ensures ∙ c.self.invariant.1, subst (λ (b : Option OpenBlock). IsOpenFor inside.streams b) (sym is) opened, c.self.invariant.3)

pub returns-in-Ok-clause-settles : goal.returns-in-Ok-clause-settles
returns-in-Ok-clause-settles g c =
    let s = c.args.self.now in
    let edit = c.args.edit.now in
    let shown = c.args.shown in
    let now = after_of c.args.decoding.now c.args.tentative in
    let change = c.args.change.now in
    let out = (g.O.Outgoing.octets c.args.out.now) in
    let inside = c.self.inside in
    let held : State = record { book = inside.book.now; config = inside.config; core = inside.core; block = inside.block; table = inside.table.table; streams = inside.streams.streams } in
    let did = subst (λ (x : State). Does (then_sent change.core.phase (made s change)) out x (g.O.Outgoing.octets c.apply_in_place.new.out)) (sym c.self.view_is) c.in-Ok.ensures.ok in
    let after = edited s.table.entries edit in
    let block = block_after shown now in
    let is = c.leave_open.ensures.open ∙ ap (block_after shown) c.take_over.ensures in
    let kept : c.commit.new.self.table ≡ after = ap (λ (t : LimitedTable). t.table) c.commit.ensures ∙ ap (λ (t : Table). edited t.entries edit) (same-table s held change out (g.O.Outgoing.octets c.apply_in_place.new.out) did) in
    let changed : State = record s { block = block; table = after } in
    record {
      ok = subst (λ (b : Option OpenBlock). Does (then_sent change.core.phase (made changed change)) out (record held { block = b; table = c.commit.new.self.table }) (g.O.Outgoing.octets c.apply_in_place.new.out)) (sym is)
          (subst (λ (t : Table). Does (then_sent change.core.phase (made changed change)) out (record held { block = block; table = t }) (g.O.Outgoing.octets c.apply_in_place.new.out)) (sym kept)
          (rebound s held change block after out (g.O.Outgoing.octets c.apply_in_place.new.out) did));
      verdict = search rules;
      err = search rules;
    }

pub returns-in-Ok-clause-fields : goal.returns-in-Ok-clause-fields
returns-in-Ok-clause-fields g c = c.leave_open.ensures.fields ∙ ap (λ (d : Decoding). d.fields) c.take_over.ensures
