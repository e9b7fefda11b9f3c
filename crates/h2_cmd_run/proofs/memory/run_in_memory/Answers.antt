use Rattle.std.proofs.Common.{Some, false, inr, refl}
use Rattle.h2_cmd_book_file.specs.Files.{file_in}
use Rattle.h2_cmd_run.specs.CheckProgram.{IsCheck}
use Rattle.h2_cmd_run.specs.ExplainProgram.{IsExplained, form_of}
use Rattle.h2_cmd_batch.specs.Printed.{Printed}
use Rattle.h2_cmd_run.proofs.InMemory.{batch-whole, printed-such, session-whole}
use Rattle.h2_cmd_run.proofs.memory.run_in_memory.Goals as goal

pub returns-clause-printed : goal.returns-clause-printed
returns-clause-printed c = λ asked words. batch-whole _ asked _ _ _ (rw c.new-output.ensures.0 at (c.run_on-status.ensures.printed asked words (inr refl) c.if-output.false))

pub returns-clause-debugs : goal.returns-clause-debugs
returns-clause-debugs c = λ config book words. session-whole _ config book _ _ _ _ (rw c.new-output.ensures.0 at (c.run_on-status.ensures.debugs config book words (inr refl) c.if-output.false))

pub returns-clause-explains : goal.returns-clause-explains
returns-clause-explains c = λ config view raw file book words.
    printed-such (λ (t : Printed). IsExplained (form_of view) raw (file_in c.args.files.now) config file book (Some c.args.input.now) false t) _ _
    (rw c.new-output.ensures.0 at (c.run_on-status.ensures.explains config view raw file book words (inr refl) (inr refl) c.if-output.false))

pub returns-clause-checks : goal.returns-clause-checks
returns-clause-checks c = λ config book in_place names words.
    printed-such (λ (t : Printed). IsCheck (file_in c.args.files.now) config book names t) _ _
    (rw c.new-output.ensures.0 at (c.run_on-status.ensures.checks config book in_place names words refl c.if-output.false))
