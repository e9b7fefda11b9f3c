use Rattle.std.proofs.Common.{refl, sym, ◌∙◌, subst, rules}
use Rattle.h2_conn_rules.specs.Sound.{IsCalm, in_force}
use Rattle.h2_conn_rules.proofs.SoundLaws.{is-live, live-put, live-recorded}
use Rattle.h2_spec.specs.Effect.{on_window}
use Rattle.h2_conn_rules.proofs.window_update.on_window.Goals as goal

pub returns-in-BothOpen-clause-sound : goal.returns-in-BothOpen-clause-sound
returns-in-BothOpen-clause-sound c = λ book r has found last.
    let st = c.args.stream in
    let f = in_force c.args.core in
    let outcome = c.window_outcome-outcome in
    let live = is-live st.kind c.in-BothOpen.is in
    let put = live-put r st outcome.result.stream found live outcome.ensures.id in
    let calm = subst (IsCalm c.args.core) (sym c.only_counts.ensures) (c.requires.core, refl, refl) in
    c.with_outcome.ensures.sound book r c.args.core calm
    (sym last ∙ put.1) (outcome.ensures.sound f c.requires.core.1 c.requires.stream) (outcome.ensures.waits book has) put.0 (outcome.ensures.recorded (live-recorded st.kind live))

pub returns-in-Idle-clause-rule : goal.returns-in-Idle-clause-rule
unfolding on_window
returns-in-Idle-clause-rule c = search rules
