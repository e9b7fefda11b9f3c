use Rattle.std.proofs.Common.{sym, ◌∙◌}
use Rattle.h2_conn_rules.specs.Sound.{in_force}
use Rattle.h2_conn_rules.proofs.SoundLaws.{live-put}
use Rattle.h2_conn_rules.proofs.data.data_refused.Goals as goal

pub returns-clause-sound : goal.returns-clause-sound
returns-clause-sound c = λ book r found live last.
    let put = live-put r c.args.stream c.stream_error-outcome.result.stream found live c.stream_error-outcome.ensures.id in
    c.with_outcome.ensures.sound book r c.args.core c.counted-change.ensures.calm (sym last ∙ put.1) (c.stream_error-outcome.ensures.sound (in_force c.args.core)) (c.stream_error-outcome.ensures.waits book) put.0 c.stream_error-outcome.ensures.recorded
