use Rattle.std.proofs.Common.{rules, ◌≡◌}
use Rattle.h2_frame.specs.Items.{missing_in}
use Rattle.h2_frame.proofs.MissingLaws.{missing-fewer}
use Rattle.h2_frame.proofs.splitter.Splitter.missing.Goals as goal

pub returns-else-self-2-clause-fewer : goal.returns-else-self-2-clause-fewer
returns-else-self-2-clause-fewer g c more few =
    let value : c.missing_of_frame.result ≡ missing_in c.args.limit c.args.self.now = search rules in
    missing-fewer c.args.limit c.args.self.now more (rw value at few)
