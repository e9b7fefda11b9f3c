use Rattle.std.proofs.Common.{ℕ, List, Result, ap, inl, inr, refl, subst, sym}
use Rattle.h2_spec.specs.Requests.Answer.{Entry}
use Rattle.h2_spec.specs.State.{is_allowed}
use Rattle.h2_cmd_run.specs.ProgramEnd.{IsSessionGiven, SessionAs}
use Rattle.h2_cmd_batch.specs.Input.{octets_of}
use Rattle.h2_cmd_batch.specs.Printed.{failed}
use Rattle.h2_cmd_batch.specs.declared.fault.BenchFault.{BenchFault}
use Rattle.h2_cmd_run.proofs.execute.debug_over.Goals as goal

pub returns-in-Err-clause-printed : goal.returns-in-Err-clause-printed
returns-in-Err-clause-printed g c = λ known well.
    let refusal = c.in-Err.ensures.err known in
    elim refusal [
      | inl memory ↦ inl (λ held is. (failed c.in-Err.fault, ap (λ (f : BenchFault). failed f) memory, c.print_fault.ensures.printed well held is), c.requires.reader)
      | inr found ↦ inr (subst (λ (r : Result (List Entry) ℕ). SessionAs (IsSessionGiven (is_allowed c.args.debug.now.config) (octets_of c.args.raw c.args.text.items)) r c.args.debug.now.config (g.I.Input.remaining c.args.input.now) (g.I.Input.remaining c.args.input.now) (g.I.Input.has_failed c.args.input.now) (g.O.Output.written c.args.output.now) (g.O.Output.written c.print_fault.new.output) c.print_fault.result)
          (sym found) (λ held is. (failed c.in-Err.fault, refl, c.print_fault.ensures.printed well held is)))
    ]

pub returns-clause-printed : goal.returns-clause-printed
returns-clause-printed g c = λ known well. elim (c.session_over-status.ensures.printed well) [
  | inl memory ↦ inl memory
  | inr such ↦ inr (subst (λ (r : Result (List Entry) ℕ). SessionAs (IsSessionGiven (is_allowed c.args.debug.now.config) (octets_of c.args.raw c.args.text.items)) r c.args.debug.now.config (g.I.Input.remaining c.args.input.now) (g.I.Input.remaining c.session_over-status.new.input) (g.I.Input.has_failed c.session_over-status.new.input) (g.O.Output.written c.args.output.now) (g.O.Output.written c.session_over-status.new.output) c.session_over-status.result)
      (sym (c.in-Ok.ensures.ok known)) such)
]
