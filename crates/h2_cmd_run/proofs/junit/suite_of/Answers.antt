use Rattle.std.proofs.Common.{◌≡◌, ◌∙◌, false, Result, Some, ap, is_err, refl, subst}
use Rattle.h2_cmd_batch.specs.Each.{not_written}
use Rattle.h2_cmd_batch.specs.declared.commands.each.PrintFault.{PrintFault}
use Rattle.h2_cmd_run.specs.CheckProgram.{Reports, common_of, subjects_of}
use Rattle.h2_cmd_run.proofs.Suites.{gathered}
use Rattle.h2_cmd_run.proofs.junit.suite_of.Goals as goal

pub returns-in-Ok-clause-reports : goal.returns-in-Ok-clause-reports
returns-in-Ok-clause-reports g c = λ printed.
    let d = g.F.Files.file c.args.files.now in
    let s = common_of c.args.common in
    let t = c.args.tally.now in
    let u = c.check_file.new.tally in
    let xs = subjects_of d c.args.file.now in
    let a = c.new-results.result.octets.items in
    let b = c.check_file.new.output.octets.items in
    let well : c.check_file.new.output.failed ≡ false = c.check_file.ensures.flag ∙ ap (λ (r : Result (Unit {0}) PrintFault). not_written r) c.in-Ok.is in
    let said = subst (λ (r : Result (Unit {0}) PrintFault). Reports (is_err r) d s t xs u (Some a) (Some b)) c.in-Ok.is (c.check_file.ensures.reports printed well) in
    (refl, gathered d s t u xs a b c.new-results.ensures.0 said)
