use Rattle.std.proofs.Common.{◌≡◌, ◌∙◌, ◌++◌, ℕ, List, Some, ap, inl, inr, refl}
use Rattle.h2_cmd_batch.specs.Printing.{failed}
use Rattle.h2_cmd_batch.specs.declared.fault.BenchFault.TheVariants.{NoMemory}
use Rattle.h2_cmd_against.specs.Program.{status_of}
use Rattle.h2_cmd_against.specs.Results.{end_text, is_passed}
use Rattle.h2_cmd_against.proofs.program.print_end.Goals as goal

pub returns-in-Err-clause-printed : goal.returns-in-Err-clause-printed
returns-in-Err-clause-printed g c = λ printed well held is. (failed NoMemory, inr (refl, (NoMemory, refl)), c.print_fault.ensures.printed well held is)

pub returns-in-Ok-write_junit-clause-printed : goal.returns-in-Ok-write_junit-clause-printed
returns-in-Ok-write_junit-clause-printed g c = λ printed well held is.
    let s = c.args.so_far.now in
    let text : c.as_slice.result.now ≡ end_text s.counts s.rules = c.as_slice.ensures.value ∙ c.in-Ok.ensures in
    let p = c.print_octets.ensures.printed well held is in (
      record { text = end_text s.counts s.rules; status = status_of (is_passed s.counts) },
      inl (c.in-Ok-write_junit.ensures.filed printed, refl),
      (p.0 ∙ ap (λ (t : List ℕ). Some (held ++ t)) text, p.1 ∙ c.status_of.ensures.value),
    )

pub returns-clause-printed : goal.returns-clause-printed
returns-clause-printed g c = λ printed well held is.
    (failed c.in-Err-write_junit.fault, inr (c.in-Err-write_junit.ensures.kept, (c.in-Err-write_junit.fault, refl)), c.print_fault-in-Err-write_junit.ensures.printed well held is)
