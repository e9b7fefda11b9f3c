use Rattle.std.proofs.Common.{◌≡◌, ◌∙◌, ℕ, List, Ok, Err, inl, inr, map, refl, subst}
use Rattle.h2_cmd_book_file.specs.Files.{Replaces}
use Rattle.h2_cmd_check.specs.JUnit.{junit_file, results_in, tap_file}
use Rattle.h2_cmd_batch.specs.CommandEnd.{Prints}
use Rattle.h2_cmd_batch.specs.Printing.{failed}
use Rattle.h2_cmd_batch.specs.declared.commands.each.PrintFault.TheVariants.{Fault}
use Rattle.h2_cmd_batch.specs.declared.fault.BenchFault.TheVariants.{NoMemory}
use Rattle.h2_cmd_run.specs.CheckProgram.{checked_after}
use Rattle.h2_cmd_run.proofs.junit.print_suites.Goals as goal

pub returns-in-Err-clause-printed : goal.returns-in-Err-clause-printed
returns-in-Err-clause-printed g c = λ printed well held is. (failed NoMemory, inl (refl, refl), c.print_fault.ensures.printed well held is)

pub returns-in-Err-junit_text-clause-printed : goal.returns-in-Err-junit_text-clause-printed
returns-in-Err-junit_text-clause-printed g c = λ printed well held is. (failed NoMemory, inl (refl, refl), c.print_fault-in-Err-junit_text.ensures.printed well held is)

pub returns-in-Ok-write_results-clause-printed : goal.returns-in-Ok-write_results-clause-printed
returns-in-Ok-write_results-clause-printed g c = λ printed well held is.
    let suites = map results_in c.args.suites.now in
    let hold = c.args.tally.all_hold in
    let tap : c.as_slice-in-Ok-write_results.result.now ≡ tap_file suites c.args.tally.count = c.as_slice-in-Ok-write_results.ensures.value ∙ c.in-Ok.ensures in
    let xml : c.as_slice.result.now ≡ junit_file suites = c.as_slice.ensures.value ∙ c.in-Ok-junit_text.ensures in
    let replaced = subst (λ (w : List ℕ). Replaces (g.F.Files.file c.args.files.now) c.args.plan.now.junit.now w (g.F.Files.file c.write_results.new.files)) xml (c.in-Ok-write_results.ensures.replaces printed) in
    let prints = subst (λ (w : List ℕ). Prints (checked_after w (Ok hold)) held (g.O.Output.written c.print_results.new.output) c.print_results.result) tap (c.print_results.ensures.printed well held is) in
    (checked_after (tap_file suites c.args.tally.count) (Ok hold), inr (inl (replaced, refl)), prints)

pub returns-clause-printed : goal.returns-clause-printed
returns-clause-printed g c = λ printed well held is.
    let suites = map results_in c.args.suites.now in
    let fault = c.in-Err-write_results.fault in
    let tap : c.as_slice-in-Err-write_results.result.now ≡ tap_file suites c.args.tally.count = c.as_slice-in-Err-write_results.ensures.value ∙ c.in-Ok.ensures in
    let prints = subst (λ (w : List ℕ). Prints (checked_after w (Err (Fault fault))) held (g.O.Output.written c.print_results-in-Err-write_results.new.output) c.print_results-in-Err-write_results.result) tap
    (c.print_results-in-Err-write_results.ensures.printed well held is) in
    (checked_after (tap_file suites c.args.tally.count) (Err (Fault fault)), inr (inr (c.in-Err-write_results.ensures.kept, (fault, refl))), prints)
