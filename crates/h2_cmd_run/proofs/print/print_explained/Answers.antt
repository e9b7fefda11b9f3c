use Rattle.std.proofs.Common.{◌≡◌, ◌∙◌, ◌++◌, ℕ, List, Some, Result, Err, ap, subst, sym, append_assoc}
use Rattle.h2_cmd_run.specs.ExplainProgram.{explained_after}
use Rattle.h2_cmd_batch.specs.CommandEnd.{Prints}
use Rattle.h2_cmd_batch.specs.declared.commands.each.PrintFault.{PrintFault}
use Rattle.h2_cmd_run.specs.declared.explain.ExplainOutcome.{ExplainOutcome}
use Rattle.h2_cmd_batch.specs.declared.commands.each.PrintFault.TheVariants.{Fault}
use Rattle.h2_cmd_run.proofs.print.print_explained.Goals as goal

pub returns-in-Fault-clause-printed : goal.returns-in-Fault-clause-printed
returns-in-Fault-clause-printed g c = λ well held text known.
    let is : c.args.ended ≡ Err (Fault c.in-Fault.fault) = c.in-Err.is ∙ ap (λ (w : PrintFault). Err w) c.in-Fault.is in
    let line = c.print_fault_as.ensures.printed well (held ++ text) known in
    subst (λ (r : Result ExplainOutcome PrintFault). Prints (explained_after c.args.json text r) held (g.O.Output.written c.print_fault_as.new.output) c.print_fault_as.result) (sym is)
    (line.0 ∙ ap (λ (t : List ℕ). Some t) (append_assoc held text _), line.1)
