use Rattle.std.proofs.Common.{inl, refl}
use Rattle.h2_cmd_batch.specs.Printing.{failed}
use Rattle.h2_cmd_batch.specs.declared.fault.BenchFault.TheVariants.{NoMemory}
use Rattle.h2_cmd_run.proofs.junit.check_junit.Goals as goal

pub returns-in-Err-clause-printed : goal.returns-in-Err-clause-printed
returns-in-Err-clause-printed g c = λ printed well held is. (failed NoMemory, inl (c.suites_of.ensures.same_files, refl), c.print_fault.ensures.printed well held is)
