use Rattle.std.proofs.Common.{rules}
use Rattle.h2_spec.proofs.flow.Window.plus.Goals as goal

pub returns : goal.returns
returns c = search rules
