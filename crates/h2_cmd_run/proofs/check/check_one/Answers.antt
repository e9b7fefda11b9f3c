use Rattle.std.proofs.Common.{ℕ, List, Option, Some, is_err, map, option_map, subst}
use Rattle.h2_cmd_check.specs.Walks.{outcome_by}
use Rattle.h2_cmd_run.specs.CheckProgram.{ReportsOne, common_of, subject}
use Rattle.h2_cmd_run.proofs.Checked.{report_alone}
use Rattle.h2_cmd_run.proofs.check.check_one.Goals as goal

pub returns-in-Ok-clause-reports : goal.returns-in-Ok-clause-reports
returns-in-Ok-clause-reports g c = λ printed well.
    let x = subject c.args.case.file.now (Some (map (λ l. l.now) c.args.case.lines.now)) in
    let o = outcome_by c.in-Ok.verdict in
    let before = g.O.Output.written c.args.output.now in
    let after = g.O.Output.written c.report.new.output in
    let filed = subst (λ (f : List ℕ). ReportsOne (is_err c.report.result) c.args.tally.now f (option_map (λ t. t.now) c.title.result.title) o c.report.new.tally before after) c.title.ensures.file (c.report.ensures.reports well) in
    let titled = subst (λ (t : Option (List ℕ)). ReportsOne (is_err c.report.result) c.args.tally.now c.args.case.file.now t o c.report.new.tally before after) c.title.ensures.title filed in
    report_alone (is_err c.report.result) (g.F.Files.file c.args.files.now) (common_of c.args.common) c.args.tally.now c.report.new.tally x o before after (c.in-Ok.ensures.verdict printed) titled
