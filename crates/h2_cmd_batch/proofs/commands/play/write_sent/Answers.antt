use Rattle.std.proofs.Common.{refl}
use Rattle.h2_spec.specs.Texts.View.{view}
use Rattle.h2_cmd_batch.specs.Printed.{sent_and_state}
use Rattle.h2_cmd_batch.proofs.Written.{appended}
use Rattle.h2_cmd_batch.proofs.commands.play.write_sent.Goals as goal

pub returns-in-Ok-clause-printed : goal.returns-in-Ok-clause-printed
returns-in-Ok-clause-printed g c = λ well held is. (
  sent_and_state c.args.sent.now (view c.args.conn.now.state),
  appended held _ _ _ is c.in-Ok.ensures.octets,
  refl,
)
