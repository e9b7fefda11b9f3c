use Rattle.std.proofs.Common.{◌≡◌, ◌∙◌, ◌∷◌, [], Bor, true, false, length, List, Result, Some, ℕ, ap, arith, is_err, length-drop, map, subst, take, drop}
use Rattle.std.proofs.lemmas.Result.{err_from_is_err_and}
use Rattle.h2_cmd_book_file.specs.Entries.{Directory}
use Rattle.h2_cmd_cases.specs.Files.{case_length, cases_in}
use Rattle.h2_cmd_run.specs.CheckProgram.{Reports, Subject, common_of, subject}
use Rattle.h2_cmd_batch.specs.Each.{not_written}
use Rattle.h2_cmd_batch.specs.declared.commands.each.PrintFault.{PrintFault}
use Rattle.h2_cmd_run.proofs.Checked.{cases_cut, cases_ended, cases_next}
use Rattle.h2_cmd_run.proofs.check.check_cases.Goals as goal

pub loop-first-preserved : goal.loop-first-preserved
loop-first-preserved g c =
    let d = g.F.Files.file c.args.files.now in
    let s = common_of c.args.common in
    let file = c.args.file.now in
    let lines = c.args.lines.now in
    let inv = c.loop-first.invariant in
    let all = map (λ l. subject file (Some l)) (cases_in (map (λ l. l.now) lines)) in
    let a₀ = g.O.Output.written c.args.output.now in
    let a = g.O.Output.written c.loop-first.output in
    let b = g.O.Output.written c.check_one.new.output in
    let n = c.case_length-length.result in
    let xs : List (Bor (List ℕ)) → List Subject = λ ls. subject file (Some (map (λ l. l.now) ls)) ∷ [] in
    let rest : c.lines_from-rest.result.now ≡ drop c.loop-first.first lines = c.lines_from-rest.ensures in
    let taken : c.first_lines.result.now ≡ take n (drop c.loop-first.first lines) = c.first_lines.ensures ∙ ap (λ (ls : List (Bor (List ℕ))). take n ls) rest in
    let value : n ≡ case_length (map (λ l. l.now) (drop c.loop-first.first lines)) = c.case_length-length.ensures.value ∙ ap (λ (ls : List (Bor (List ℕ))). case_length (map (λ l. l.now) ls)) rest in
    let flag = c.check_one.ensures.flag ∙ ap (λ (r : Result (Unit {0}) PrintFault). not_written r) c.in_ok-check_one.was in
    record {
      within = omega (arith, c.loop-first-test.true, c.case_length-length.ensures.within, ap (λ (ls : List (Bor (List ℕ))). length ls) rest, length-drop c.loop-first.first lines);
      writer = flag;
      name = c.check_one.ensures.name ∙ inv.name;
      same_printed = c.check_one.ensures.same_printed ∙ inv.same_printed;
      same_files = c.check_one.ensures.same_files ∙ inv.same_files;
      reports = λ printed.
          let here = subst (λ (e : Directory). Reports (is_err c.check_one.result) e s c.loop-first.tally (xs c.first_lines.result.now) c.check_one.new.tally a b) inv.same_files (c.check_one.ensures.reports (inv.same_printed ∙ printed) flag) in
          let went = subst (λ (r : Result (Unit {0}) PrintFault). Reports (is_err r) d s c.loop-first.tally (xs c.first_lines.result.now) c.check_one.new.tally a b) c.in_ok-check_one.was here in
          let one = subst (λ (ls : List (Bor (List ℕ))). Reports false d s c.loop-first.tally (xs ls) c.check_one.new.tally a b) taken went in
          cases_next d s file lines c.loop-first.first n c.args.tally.now c.loop-first.tally c.check_one.new.tally all a₀ a b c.loop-first-test.true value (inv.reports printed) one;
    }

pub returns-in_err-check_one-clause-reports : goal.returns-in_err-check_one-clause-reports
returns-in_err-check_one-clause-reports g c = λ printed well.
    let d = g.F.Files.file c.args.files.now in
    let s = common_of c.args.common in
    let file = c.args.file.now in
    let lines = c.args.lines.now in
    let inv = c.loop-first.invariant in
    let all = map (λ l. subject file (Some l)) (cases_in (map (λ l. l.now) lines)) in
    let a₀ = g.O.Output.written c.args.output.now in
    let a = g.O.Output.written c.loop-first.output in
    let b = g.O.Output.written c.check_one.new.output in
    let n = c.case_length-length.result in
    let xs : List (Bor (List ℕ)) → List Subject = λ ls. subject file (Some (map (λ l. l.now) ls)) ∷ [] in
    let rest : c.lines_from-rest.result.now ≡ drop c.loop-first.first lines = c.lines_from-rest.ensures in
    let taken : c.first_lines.result.now ≡ take n (drop c.loop-first.first lines) = c.first_lines.ensures ∙ ap (λ (ls : List (Bor (List ℕ))). take n ls) rest in
    let value : n ≡ case_length (map (λ l. l.now) (drop c.loop-first.first lines)) = c.case_length-length.ensures.value ∙ ap (λ (ls : List (Bor (List ℕ))). case_length (map (λ l. l.now) ls)) rest in
    let here = subst (λ (e : Directory). Reports (is_err c.check_one.result) e s c.loop-first.tally (xs c.first_lines.result.now) c.check_one.new.tally a b) inv.same_files (c.check_one.ensures.reports (inv.same_printed ∙ printed) well) in
    let went = subst (λ (r : Result (Unit {0}) PrintFault). Reports (is_err r) d s c.loop-first.tally (xs c.first_lines.result.now) c.check_one.new.tally a b) c.in_err-check_one.was here in
    let one = subst (λ (ls : List (Bor (List ℕ))). Reports true d s c.loop-first.tally (xs ls) c.check_one.new.tally a b) taken went in
    let p = err_from_is_err_and c.from_residual.result c.from_residual.ensures.1 in
    rw p.1 (cases_cut d s file lines c.loop-first.first n c.args.tally.now c.loop-first.tally c.check_one.new.tally all a₀ a b c.loop-first-test.true value (inv.reports printed) one)

pub returns-clause-reports : goal.returns-clause-reports
returns-clause-reports g c = λ printed well.
    let d = g.F.Files.file c.args.files.now in
    let s = common_of c.args.common in
    let file = c.args.file.now in
    let lines = c.args.lines.now in
    let inv = c.loop-first.invariant in
    let all = map (λ l. subject file (Some l)) (cases_in (map (λ l. l.now) lines)) in
    let a₀ = g.O.Output.written c.args.output.now in
    let a = g.O.Output.written c.loop-first.output in
    cases_ended d s file lines c.loop-first.first c.args.tally.now c.loop-first.tally all a₀ a c.loop-first-test.false (inv.reports printed)
