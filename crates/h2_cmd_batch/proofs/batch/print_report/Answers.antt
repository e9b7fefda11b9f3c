use Rattle.h2_cmd_batch.proofs.batch.print_report.Goals as goal

pub returns-in-Ok-clause-printed : goal.returns-in-Ok-clause-printed
returns-in-Ok-clause-printed g c = λ well held known.
    rw (c.in-Ok.is, ← c.status.ensures.value) (c.print.ensures.printed well held known)

pub returns-in-Err-clause-printed : goal.returns-in-Err-clause-printed
returns-in-Err-clause-printed g c = λ well held known. rw c.in-Err.is (c.print_fault.ensures.printed well held known)
