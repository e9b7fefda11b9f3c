use Rattle.std.proofs.Common.{ℕ, List, Result, ap, arith, inl, inr, map, refl, subst, sym}
use Rattle.h2_spec.specs.Requests.Answer.{Entry}
use Rattle.h2_cmd_run.specs.CheckProgram.{ChecksWith}
use Rattle.h2_cmd_run.specs.JUnitProgram.{IsJUnitWith}
use Rattle.h2_cmd_batch.specs.Printing.{failed}
use Rattle.h2_cmd_batch.specs.declared.fault.BenchFault.{BenchFault}
use Rattle.h2_cmd_run.proofs.check.check_plan.Goals as goal

pub returns-in-Err-clause-printed : goal.returns-in-Err-clause-printed
returns-in-Err-clause-printed g c = λ checks none printed well held is. (
  failed c.in-Err.fault,
  elim (c.in-Err.ensures.err (inr printed)) [
    | inl memory ↦ inl (ap (λ (f : BenchFault). failed f) memory)
    | inr found ↦ inr (subst (λ (r : Result (List Entry) ℕ). ChecksWith (g.F.Files.file c.args.files.now) c.args.plan.now.config r (map (λ n. n.now) c.args.plan.now.files.items) (failed c.in-Err.fault)) (sym found) refl)
  ],
  c.print_fault.ensures.printed well held is,
)

pub returns-in-Err-clause-junit : goal.returns-in-Err-clause-junit
returns-in-Err-clause-junit g c = λ checks some printed well held is. (
  failed c.in-Err.fault,
  elim (c.in-Err.ensures.err (inr printed)) [
    | inl memory ↦ inl (c.book_for_words.ensures.same_files, ap (λ (f : BenchFault). failed f) memory)
    | inr found ↦ inr (subst (λ (r : Result (List Entry) ℕ). IsJUnitWith (g.F.Files.file c.args.files.now) c.args.plan.now.config r (map (λ n. n.now) c.args.plan.now.files.items) c.args.plan.now.junit.now
        (g.F.Files.file c.book_for_words.new.files) (failed c.in-Err.fault)) (sym found) (c.book_for_words.ensures.same_files, refl))
  ],
  c.print_fault.ensures.printed well held is,
)

pub returns-in-Err-clause-blesses : goal.returns-in-Err-clause-blesses
returns-in-Err-clause-blesses g c = λ bless printed. inl (c.book_for_words.ensures.same_files, λ zero. absurd (omega (arith, c.print_fault.ensures.status, zero)))
