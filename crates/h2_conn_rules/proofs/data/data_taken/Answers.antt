use Rattle.std.proofs.Common.{refl, sym, ◌∙◌}
use Rattle.h2_spec.specs.Data.{data_taken}
use Rattle.h2_conn_rules.specs.Sound.{in_force}
use Rattle.h2_conn_rules.proofs.SoundLaws.{live-credit, live-put, live-recorded}
use Rattle.h2_conn_rules.proofs.data.data_taken.Goals as goal

pub data_outcome-outcome-requires-clause-credit : goal.data_outcome-outcome-requires-clause-credit
data_outcome-outcome-requires-clause-credit c = (live-credit (in_force c.args.core) c.args.stream c.requires.core.4.0 c.requires.stream c.requires.live).0

pub data_outcome-outcome-requires-clause-least : goal.data_outcome-outcome-requires-clause-least
data_outcome-outcome-requires-clause-least c = (live-credit (in_force c.args.core) c.args.stream c.requires.core.4.0 c.requires.stream c.requires.live).1

pub returns-clause-sound : goal.returns-clause-sound
returns-clause-sound c = λ book r same has found last.
    let live = c.requires.live in
    let put = live-put r c.args.stream c.data_outcome-outcome.result.stream found live c.data_outcome-outcome.ensures.id in
    let sound = c.data_outcome-outcome.ensures.sound (in_force c.args.core) c.requires.core.1 c.requires.stream in
    c.with_outcome.ensures.sound book r c.args.core c.counted-change.ensures.calm (sym last ∙ put.1) sound (c.data_outcome-outcome.ensures.waits book same has) put.0 (c.data_outcome-outcome.ensures.recorded (live-recorded c.args.stream.kind live))

pub returns-then-is_below-clause-rule : goal.returns-then-is_below-clause-rule
unfolding data_taken
returns-then-is_below-clause-rule c = rw (← c.is_below.ensures, c.if-is_below.true) refl

pub returns-then-is_below-clause-sound : goal.returns-then-is_below-clause-sound
returns-then-is_below-clause-sound c = λ book r same has found last. tt
