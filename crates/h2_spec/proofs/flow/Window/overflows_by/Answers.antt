use Rattle.std.proofs.Common.{rules}
use Rattle.h2_spec.proofs.flow.Window.overflows_by.Goals as goal

pub returns-then-from-to : goal.returns-then-from-to
returns-then-from-to c = search rules
