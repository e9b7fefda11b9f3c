use Rattle.std.proofs.Common.{ap, inl, inr}
use Rattle.h2_cmd_args.specs.Plans.{form_asked}
use Rattle.h2_cmd_run.specs.ExplainProgram.{form_of}
use Rattle.h2_cmd_batch.specs.Printing.{failed_as}
use Rattle.h2_cmd_batch.specs.declared.fault.BenchFault.{BenchFault}
use Rattle.h2_cmd_run.proofs.print.explain_read.Goals as goal

pub returns-in-Ok-clause-printed : goal.returns-in-Ok-clause-printed
returns-in-Ok-clause-printed g c = λ file well held is.
    let x = c.print_text.ensures.printed well held is in (
      x.0,
      inr (c.in-Ok.ensures.ok file (form_of (form_asked c.args.plan.now)) c.args.plan.now.raw c.args.book.now c.args.plan.now.config x.0 x.1),
      x.2,
    )

pub returns-in-Err-clause-printed : goal.returns-in-Err-clause-printed
returns-in-Err-clause-printed g c = λ file well held is. (
  failed_as c.args.plan.now.json c.in-Err.fault,
  elim (c.in-Err.ensures.err file) [
    | inl memory ↦ inl (inr (ap (λ (f : BenchFault). failed_as c.args.plan.now.json f) memory.0), memory.1)
    | inr summary ↦ inr (summary (form_of (form_asked c.args.plan.now)) c.args.plan.now.raw c.args.book.now c.args.plan.now.config)
  ],
  c.print_fault_as.ensures.printed well held is,
)
