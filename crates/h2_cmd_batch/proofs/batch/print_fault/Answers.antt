use Rattle.h2_cmd_batch.proofs.batch.print_fault.Goals as goal

pub returns-clause-printed : goal.returns-clause-printed
returns-clause-printed g c = λ well held known. rw (← c.line.ensures) (c.print.ensures.printed well held known)
