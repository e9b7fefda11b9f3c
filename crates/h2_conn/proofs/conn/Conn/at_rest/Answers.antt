use Rattle.std.proofs.Common.{ap, ◌∙◌}
use Rattle.h2_spec.specs.Trace.{left_by}
use Rattle.h2_conn.specs.Connection.{going}
use Rattle.h2_conn.proofs.FeedingLaws.{rests-empty}
use Rattle.h2_conn.proofs.Plays.{left-none}
use Rattle.h2_conn.proofs.conn.Conn.at_rest.Goals as goal

pub invariant_of-result : goal.invariant_of-result
invariant_of-result g c = (rw c.phase.ensures at c.empty_splitter-splitter.ensures.fits, rests-empty _ _ c.empty_splitter-splitter.ensures.empty)

-- no octets are held
pub returns : goal.returns
returns g c = ap (going c.args.state) (ap (left_by c.args.state.core.phase) c.empty_splitter-splitter.ensures.empty ∙ left-none c.args.state.core.phase)
