use Rattle.std.proofs.Common.{ℕ, List, Result, ap, inl, inr, refl, subst, sym}
use Rattle.h2_spec.specs.Requests.Answer.{Entry}
use Rattle.h2_cmd_args.specs.Plans.{batch_asked}
use Rattle.h2_cmd_batch.specs.CommandEnd.{AnswersAs}
use Rattle.h2_cmd_batch.specs.Printing.{failed}
use Rattle.h2_cmd_batch.specs.declared.fault.BenchFault.{BenchFault}
use Rattle.h2_cmd_batch.proofs.batch.respond.Goals as goal

pub returns-in-Err-clause-printed : goal.returns-in-Err-clause-printed
returns-in-Err-clause-printed g c = λ files well held is. (
  failed c.in-Err.fault,
  elim (c.in-Err.ensures.err files) [
    | inl memory ↦ inl (ap (λ (f : BenchFault). failed f) memory, c.requires.reader)
    | inr found ↦ inr (subst (λ (r : Result (List Entry) ℕ). AnswersAs r (batch_asked c.args.batch.now) (g.I.Input.remaining c.args.input.now) (g.I.Input.has_failed c.args.input.now) (failed c.in-Err.fault)) (sym found) refl)
  ],
  c.print_fault.ensures.printed well held is,
)

pub returns-clause-printed : goal.returns-clause-printed
returns-clause-printed g c = λ files well held is.
    let x = c.answer-status.ensures.printed well held is in (
      x.0,
      elim x.1 [
        | inl memory ↦ inl memory
        | inr found ↦ inr (subst (λ (r : Result (List Entry) ℕ). AnswersAs r (batch_asked c.args.batch.now) (g.I.Input.remaining c.args.input.now) (g.I.Input.has_failed c.answer-status.new.input) x.0) (sym (c.in-Ok.ensures.ok files)) found)
      ],
      x.2,
    )
