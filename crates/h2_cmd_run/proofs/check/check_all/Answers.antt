use Rattle.std.proofs.Common.{◌∙◌, Result, ap, is_err, map}
use Rattle.std.proofs.lemmas.Result.{err_from_is_err_and}
use Rattle.h2_cmd_run.specs.CheckProgram.{all_subjects, common_of}
use Rattle.h2_cmd_batch.specs.Each.{not_written}
use Rattle.h2_cmd_batch.specs.declared.commands.each.PrintFault.{PrintFault}
use Rattle.h2_cmd_run.proofs.Checked.{files_ended, files_stopped, files_went}
use Rattle.h2_cmd_run.proofs.check.check_all.Goals as goal

pub loop-file-preserved : goal.loop-file-preserved
loop-file-preserved g c =
    let d = g.F.Files.file c.args.files.now in
    let s = common_of c.args.common in
    let names = c.args.names.now in
    let inv = c.loop-file.invariant in
    let all = all_subjects d (map (λ n. n.now) names) in
    let a₀ = g.O.Output.written c.args.output.now in
    let a = g.O.Output.written c.loop-file.output in
    let b = g.O.Output.written c.check_file.new.output in
    let flag = c.check_file.ensures.flag ∙ ap (λ (r : Result (Unit {0}) PrintFault). not_written r) c.in_ok-check_file.was in
    record {
      writer = flag;
      name = c.check_file.ensures.name ∙ inv.name;
      same_printed = c.check_file.ensures.same_printed ∙ inv.same_printed;
      same_files = c.check_file.ensures.same_files ∙ inv.same_files;
      reports = λ printed.
          files_went d (g.F.Files.file c.loop-file.files) s names c.loop-file.file-index _ c.args.tally.now c.loop-file.tally c.check_file.new.tally all a₀ a b (is_err c.check_file.result) c.loop-file-test.true inv.same_files
          (ap (λ (r : Result (Unit {0}) PrintFault). is_err r) c.in_ok-check_file.was) (inv.reports printed) (c.check_file.ensures.reports (inv.same_printed ∙ printed) flag);
    }

pub returns-in_err-check_file-clause-reports : goal.returns-in_err-check_file-clause-reports
returns-in_err-check_file-clause-reports g c = λ printed well.
    let d = g.F.Files.file c.args.files.now in
    let s = common_of c.args.common in
    let names = c.args.names.now in
    let inv = c.loop-file.invariant in
    let all = all_subjects d (map (λ n. n.now) names) in
    let a₀ = g.O.Output.written c.args.output.now in
    let a = g.O.Output.written c.loop-file.output in
    let b = g.O.Output.written c.check_file.new.output in
    let p = err_from_is_err_and c.from_residual.result c.from_residual.ensures.1 in
    rw p.1 (files_stopped d (g.F.Files.file c.loop-file.files) s names c.loop-file.file-index _ c.args.tally.now c.loop-file.tally c.check_file.new.tally all a₀ a b (is_err c.check_file.result) c.loop-file-test.true inv.same_files
    (ap (λ (r : Result (Unit {0}) PrintFault). is_err r) c.in_err-check_file.was) (inv.reports printed) (c.check_file.ensures.reports (inv.same_printed ∙ printed) well))

pub returns-clause-reports : goal.returns-clause-reports
returns-clause-reports g c = λ printed well.
    let d = g.F.Files.file c.args.files.now in
    let s = common_of c.args.common in
    let names = c.args.names.now in
    let inv = c.loop-file.invariant in
    let all = all_subjects d (map (λ n. n.now) names) in
    let a₀ = g.O.Output.written c.args.output.now in
    let a = g.O.Output.written c.loop-file.output in
    files_ended d s names c.loop-file.file-index c.args.tally.now c.loop-file.tally all a₀ a c.loop-file-test.false (inv.reports printed)
