use Rattle.std.proofs.Common.{nat_eq, arith}
use Rattle.std.proofs.lemmas.Grind.{common_steps}
use Rattle.h2_frame.proofs.Agreeing.{common_prefix_len-drop_min}
use Rattle.h2_frame.proofs.splitter.agreeing.Goals as goal

pub returns-clause-common : goal.returns-clause-common
returns-clause-common c =
    let none = common_prefix_len-drop_min nat_eq c.loop-count.count c.args.octets.now c.args.expected.now (omega arith) in
    omega arith

pub returns-then-octets-count-clause-common : goal.returns-then-octets-count-clause-common
returns-then-octets-count-clause-common c = grind (arith, common_steps)

pub loop-count-preserved : goal.loop-count-preserved
loop-count-preserved c = grind (arith, common_steps)
