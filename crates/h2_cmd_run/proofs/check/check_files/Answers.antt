use Rattle.std.proofs.Common.{◌∙◌, Err, true, false, Result, ap, is_err, map, subst, sym, List, ℕ}
use Rattle.std.proofs.lemmas.Result.{err_from_is_err_and}
use Rattle.h2_cmd_run.specs.CheckProgram.{ChecksFiles, Reports, all_subjects, common_of}
use Rattle.h2_cmd_batch.specs.Each.{not_written}
use Rattle.h2_cmd_run.specs.declared.check.CaseTally.{CaseTally}
use Rattle.h2_cmd_batch.specs.declared.commands.each.PrintFault.{PrintFault}
use Rattle.h2_cmd_run.proofs.Checked.{checks_cut, checks_whole}
use Rattle.h2_cmd_run.proofs.check.check_files.Goals as goal

pub returns-clause-checks : goal.returns-clause-checks
returns-clause-checks g c = λ printed well.
    let d = g.F.Files.file c.args.files.now in
    let s = common_of c.args.common in
    let names : List (List ℕ) = map (λ n. n.now) c.args.names.now in
    let begun = c.write.ensures.flag ∙ ap (λ (r : Result (Unit {0}) PrintFault). is_err r) c.in_ok-write.was in
    let gone = c.check_all.ensures.flag ∙ ap (λ (r : Result (Unit {0}) PrintFault). not_written r) c.in_ok-check_all.was in
    let a = g.O.Output.written c.write.new.output in
    let b = g.O.Output.written c.check_all.new.output in
    let whole = subst (λ (r : Result (Unit {0}) PrintFault). Reports (is_err r) d s c.new-tally.result (all_subjects d names) c.check_all.new.tally a b) c.in_ok-check_all.was (c.check_all.ensures.reports printed gone) in
    let reports = subst (λ (t : CaseTally). Reports false d s t (all_subjects d names) c.check_all.new.tally a b) c.new-tally.ensures whole in
    checks_whole d s names c.check_all.new.tally c.write_plan.result (g.O.Output.written c.args.output.now) a b (g.O.Output.written c.write_plan.new.output) (c.write.ensures.octets begun) reports (c.write_plan.ensures.plan well)

pub returns-in_err-check_all-clause-checks : goal.returns-in_err-check_all-clause-checks
returns-in_err-check_all-clause-checks g c = λ printed well.
    let d = g.F.Files.file c.args.files.now in
    let s = common_of c.args.common in
    let names : List (List ℕ) = map (λ n. n.now) c.args.names.now in
    let begun = c.write.ensures.flag ∙ ap (λ (r : Result (Unit {0}) PrintFault). is_err r) c.in_ok-write.was in
    let a = g.O.Output.written c.write.new.output in
    let b = g.O.Output.written c.check_all.new.output in
    let some = subst (λ (r : Result (Unit {0}) PrintFault). Reports (is_err r) d s c.new-tally.result (all_subjects d names) c.check_all.new.tally a b) c.in_err-check_all.was (c.check_all.ensures.reports printed well) in
    let reports = subst (λ (t : CaseTally). Reports true d s t (all_subjects d names) c.check_all.new.tally a b) c.new-tally.ensures some in
    let p = err_from_is_err_and c.from_residual-in_err-check_all.result c.from_residual-in_err-check_all.ensures.1 in
    rw (p.1, p.2) (subst (λ (f : PrintFault). ChecksFiles d s names (Err f) (g.O.Output.written c.args.output.now) b) (sym (c.in_err-check_all.ensures.memory well))
    (checks_cut d s names c.check_all.new.tally (g.O.Output.written c.args.output.now) a b (c.write.ensures.octets begun) reports))
