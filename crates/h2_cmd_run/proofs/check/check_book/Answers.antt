use Rattle.std.proofs.Common.{Bor, List, ℕ, map, subst}
use Rattle.h2_cmd_run.specs.CheckProgram.{IsChecked, checked_after}
use Rattle.h2_cmd_batch.specs.declared.case_setup.CaseSetup.{CaseSetup}
use Rattle.h2_cmd_run.proofs.check.check_book.Goals as goal

pub returns-clause-printed : goal.returns-clause-printed
returns-clause-printed g c = λ printed well held is.
    let common : CaseSetup = record { config = c.args.plan.now.config; book = c.args.book.now } in
    let one = c.check_files-ended.ensures.checks printed (c.print_checked.ensures.kept well) held is in
    let t = checked_after one.0 c.check_files-ended.result in
    (t, subst (λ (ns : List (Bor (List ℕ))). IsChecked (g.F.Files.file c.args.files.now) common (map (λ n. n.now) ns) t) c.as_slice.ensures.value one.2, c.print_checked.ensures.printed well held one.0 one.1)
