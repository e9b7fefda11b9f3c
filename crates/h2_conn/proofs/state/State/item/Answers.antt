use Rattle.std.proofs.Common.{rules}
use Rattle.h2_spec.specs.Effect.{effect}
use Rattle.h2_spec.specs.Trace.{step}
use Rattle.h2_conn.proofs.state.State.item.Goals as goal

pub returns-in-Oversize-clause-ok : goal.returns-in-Oversize-clause-ok
unfolding effect step
returns-in-Oversize-clause-ok g c = search rules
