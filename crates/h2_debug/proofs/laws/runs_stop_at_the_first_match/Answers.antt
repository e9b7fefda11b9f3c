use Rattle.h2_debug.proofs.BreakLaws.{stop-is, stop-only}
use Rattle.h2_debug.proofs.laws.runs_stop_at_the_first_match.Goals as goal

pub returns : goal.returns
returns c = record { is = stop-is; only = stop-only }
