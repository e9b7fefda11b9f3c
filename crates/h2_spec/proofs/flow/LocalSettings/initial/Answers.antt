use Rattle.std.proofs.Common.{rules}
use Rattle.h2_spec.proofs.flow.LocalSettings.initial.Goals as goal

pub returns : goal.returns
returns c = search rules
