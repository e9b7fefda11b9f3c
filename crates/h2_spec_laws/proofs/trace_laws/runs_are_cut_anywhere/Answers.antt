use Rattle.h2_spec_laws.proofs.trace_laws.runs_are_cut_anywhere.Goals as goal
use Rattle.h2_spec.proofs.TraceLaws.{trace-append}

pub returns : goal.returns
returns c = trace-append
