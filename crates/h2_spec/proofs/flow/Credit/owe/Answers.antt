use Rattle.std.proofs.Common.{rules}
use Rattle.h2_spec.proofs.flow.Credit.owe.Goals as goal

pub returns-clause-answer : goal.returns-clause-answer
returns-clause-answer c = search rules

pub returns-then-keeps-clause-answer : goal.returns-then-keeps-clause-answer
returns-then-keeps-clause-answer c = search rules
