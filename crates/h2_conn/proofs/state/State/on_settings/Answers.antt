use Rattle.std.proofs.Common.{refl, subst}
use Rattle.h2_spec.specs.State.{State}
use Rattle.h2_streams.specs.Greatest.{IsGreatest}
use Rattle.h2_conn.specs.Records.{records}
use Rattle.h2_conn.proofs.CountsLaws.{sound-by}
use Rattle.h2_conn.proofs.state.State.on_settings.Goals as goal

pub conclude-requires : goal.conclude-requires
conclude-requires g c =
    let s = c.args.self.now in
    let greatest = subst (λ (t : State). IsGreatest c.greatest_send-greatest.result t.streams) c.self.view_is c.greatest_send-greatest.ensures in
    λ k. ((refl, tt), (c.requires.stopped, sound-by s _ _ c.core.ensures.counts (λ last. c.settings_rule-reaction.ensures.sound s.book (records s) greatest c.core.ensures.sound)))

pub returns : goal.returns
returns g c =
    let s = c.args.self.now in
    let greatest = subst (λ (t : State). IsGreatest c.greatest_send-greatest.result t.streams) c.self.view_is c.greatest_send-greatest.ensures in
    rw (c.settings_rule-reaction.ensures.rule s.streams greatest, c.core.ensures.counts) at c.conclude.ensures
