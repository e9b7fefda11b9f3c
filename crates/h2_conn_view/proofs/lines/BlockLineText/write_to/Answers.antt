use Rattle.h2_spec.specs.Texts.Show.{block_line}
use Rattle.h2_conn_view.proofs.lines.BlockLineText.write_to.Goals as goal

pub returns-clause-octets : goal.returns-clause-octets
unfolding block_line
returns-clause-octets g c = rw c.in-Some.is (rw c.from.ensures at c.write_to-2.ensures.octets)
