use Rattle.std.proofs.Common.{◌≡◌, ◌∙◌, ◌++◌, ℕ, List, Some, Result, Err, ap, subst, sym, append_assoc}
use Rattle.h2_cmd_batch.specs.Each.{not_written, printed_after}
use Rattle.h2_cmd_batch.specs.CommandEnd.{Prints}
use Rattle.h2_cmd_batch.specs.declared.commands.each.PrintFault.{PrintFault}
use Rattle.h2_cmd_batch.specs.declared.commands.each.PrintFault.TheVariants.{Fault}
use Rattle.h2_cmd_batch.proofs.batch.print_end.Goals as goal

pub returns-in-Fault-clause-printed : goal.returns-in-Fault-clause-printed
returns-in-Fault-clause-printed g c = λ well held text known.
    let is : c.args.ended ≡ Err (Fault c.in-Fault.fault) = c.in-Err.is ∙ ap (λ (w : PrintFault). Err w) c.in-Fault.is in
    let line = c.print_fault.ensures.printed well (held ++ text) known in
    subst (λ (r : Result (Unit {0}) PrintFault). Prints (printed_after text r) held (g.O.Output.written c.print_fault.new.output) c.print_fault.result) (sym is)
    (line.0 ∙ ap (λ (t : List ℕ). Some t) (append_assoc held text _), line.1)

pub returns-in-Fault-clause-kept : goal.returns-in-Fault-clause-kept
returns-in-Fault-clause-kept g c = λ well.
    let is : c.args.ended ≡ Err (Fault c.in-Fault.fault) = c.in-Err.is ∙ ap (λ (w : PrintFault). Err w) c.in-Fault.is in
    c.requires ∙ ap (λ (r : Result (Unit {0}) PrintFault). not_written r) is
