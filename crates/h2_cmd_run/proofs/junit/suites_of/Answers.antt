use Rattle.std.proofs.Common.{map}
use Rattle.h2_cmd_run.specs.CheckProgram.{common_of}
use Rattle.h2_cmd_run.proofs.Suites.{suites-ended}
use Rattle.h2_cmd_run.proofs.junit.suites_of.Goals as goal

pub returns-clause-reports : goal.returns-clause-reports
returns-clause-reports g c = λ printed.
    suites-ended (g.F.Files.file c.args.files.now) (common_of c.args.common) c.args.names.now c.loop-file.file-index c.args.tally.now c.loop-file.tally (map (λ n. n.now) c.args.names.now) c.loop-file.suites.items
    c.loop-file-test.false (c.loop-file.invariant.reports printed)
