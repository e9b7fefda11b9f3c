use Rattle.std.proofs.Common.{rules}
use Rattle.h2_spec.proofs.streams.is_live.Goals as goal

pub returns-in-Idle : goal.returns-in-Idle
returns-in-Idle c = search rules
