use Rattle.std.proofs.Common.{◌≡◌, ◌∙◌, ◌++◌, Bool, ℕ, List, Some, Result, Err, ap, rules, subst, sym, append_assoc}
use Rattle.h2_cmd_run.specs.CheckProgram.{checked_after}
use Rattle.h2_cmd_batch.specs.CommandEnd.{Prints}
use Rattle.h2_cmd_batch.specs.declared.commands.each.PrintFault.{PrintFault}
use Rattle.h2_cmd_batch.specs.declared.commands.each.PrintFault.TheVariants.{Fault}
use Rattle.h2_cmd_run.proofs.check.print_checked.Goals as goal

pub returns-in-Err-Fault-clause-printed : goal.returns-in-Err-Fault-clause-printed
returns-in-Err-Fault-clause-printed g c = λ well held text known.
    let inner : c.in-Err-Fault.field-0 ≡ Fault c.in-Err-Fault.fault = search rules in
    let is : c.args.ended ≡ Err (Fault c.in-Err-Fault.fault) = c.in-Err-Fault.is ∙ ap (λ (w : PrintFault). Err w) inner in
    let line = c.print_fault.ensures.printed well (held ++ text) known in
    subst (λ (r : Result Bool PrintFault). Prints (checked_after text r) held (g.O.Output.written c.print_fault.new.output) c.print_fault.result) (sym is)
    (line.0 ∙ ap (λ (t : List ℕ). Some t) (append_assoc held text _), line.1)
