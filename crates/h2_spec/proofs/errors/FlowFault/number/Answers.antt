use Rattle.std.proofs.Common.{rules}
use Rattle.h2_spec.proofs.errors.FlowFault.number.Goals as goal

pub returns-in-Exceeded : goal.returns-in-Exceeded
returns-in-Exceeded c = search rules
