use Rattle.std.proofs.Common.{rules}
use Rattle.h2_conn.proofs.state.State.on_preface.Goals as goal

pub returns : goal.returns
returns g c = search rules
