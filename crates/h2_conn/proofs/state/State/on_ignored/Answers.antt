use Rattle.std.proofs.Common.{◌≡◌, ◌∙◌, false, refl, subst, sym}
use Rattle.std.proofs.lemmas.Bool.{not-true}
use Rattle.std.specs.List.{list_any}
use Rattle.h2_spec.specs.Change.{frames_of, ignoring, only_counts}
use Rattle.h2_spec.specs.Effect.{ignore}
use Rattle.h2_spec.specs.State.{State}
use Rattle.h2_streams.specs.Kept.{is_ready}
use Rattle.h2_conn.specs.Records.{records}
use Rattle.h2_conn_send.proofs.AloneLaws.{none-ready}
use Rattle.h2_conn_send.specs.Sending.{open_window}
use Rattle.h2_conn.proofs.ApplyChangeLaws.{settles-quietly}
use Rattle.h2_conn.proofs.CountsLaws.{ignore-leaves, leaves-by, sound-by}
use Rattle.h2_conn.proofs.state.State.on_ignored.Goals as goal

pub returns-then-none_ready : goal.returns-then-none_ready
unfolding frames_of
returns-then-none_ready g c =
    let s = c.args.self.now in
    let idle = subst (λ (x : State). list_any is_ready x.streams ≡ false) c.self.view_is (not-true _ (sym c.none_ready.ensures ∙ c.if-none_ready.true)) in
    settles-quietly s s (ignoring c.args.reason (only_counts s.core)) (ignore s.core c.args.reason) _ (g.O.Outgoing.octets c.args.out.now) refl refl refl (none-ready (open_window s.core) s.streams idle) refl

pub conclude_leaving_counts-requires : goal.conclude_leaving_counts-requires
conclude_leaving_counts-requires g c = let s = c.args.self.now in λ k. ((refl, tt), (c.requires.stopped, (sound-by s _ _ c.core.ensures.counts (c.ignore-reaction.ensures.sound s.book (records s)), leaves-by _ _ _ _ c.ignore-reaction.ensures.rule c.core.ensures.counts (ignore-leaves _ c.args.reason))))

pub returns : goal.returns
returns g c = rw (c.ignore-reaction.ensures.rule, c.core.ensures.counts) at c.conclude_leaving_counts.ensures
