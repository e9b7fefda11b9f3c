use Rattle.std.proofs.Common.{rules, ◌≡◌, refl}
use Rattle.h2_cmd_args.specs.declared.command.Refusal.TheVariants as words
use Rattle.h2_cmd_batch.specs.Printed.{Printed, failed}
use Rattle.h2_cmd_batch.specs.declared.fault.BenchFault.TheVariants.{NoMemory}
use Rattle.h2_cmd_run.proofs.execute.carry_out.Goals as goal

pub returns-in-Err-Words-clause-refused : goal.returns-in-Err-Words-clause-refused
returns-in-Err-Words-clause-refused g c =
    let is : c.in-Err-Words.field-0 ≡ words.Words c.in-Err-Words.text = search rules in
    rw c.in-Err-Words.is (λ well held known.
    let said : Printed = record { text = c.as_str.result.now; status = 2 } in
    (said, rw (is, c.as_str.ensures.value) refl, c.print.ensures.printed well held known))

pub returns-in-Err-NoMemory-clause-refused : goal.returns-in-Err-NoMemory-clause-refused
returns-in-Err-NoMemory-clause-refused g c =
    let is : c.in-Err-NoMemory.field-0 ≡ words.NoMemory = search rules in
    rw c.in-Err-NoMemory.is (λ well held known. (failed NoMemory, rw is refl, c.print_fault.ensures.printed well held known))
