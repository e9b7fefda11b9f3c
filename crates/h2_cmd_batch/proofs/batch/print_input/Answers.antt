use Rattle.std.proofs.Common.{subst, sym}
use Rattle.h2_cmd_batch.specs.Reports.{seen}
use Rattle.h2_cmd_args.specs.Plans.{batch_asked}
use Rattle.h2_cmd_batch.specs.Printing.{OrCutShort}
use Rattle.h2_cmd_batch.specs.Printed.{places, printed}
use Rattle.h2_cmd_args.specs.declared.command.Batch.{Batch}
use Rattle.h2_cmd_batch.proofs.Written.{given}
use Rattle.h2_cmd_batch.proofs.batch.print_input.Goals as goal

pub returns-in-Asm-clause-printed : goal.returns-in-Asm-clause-printed
returns-in-Asm-clause-printed g c = λ well held is.
    let such = subst (λ (b : Batch). OrCutShort (places c.args.book.now (batch_asked b) c.args.input.items) (printed c.args.book.now (batch_asked b) c.args.input.items) (seen c.asm_report-report.result)) (sym c.in-Asm.is)
    (given c.asm_report-report.result _ _ (rw c.as_slice.ensures.value at c.asm_report-report.ensures)) in
    (seen c.asm_report-report.result, such, c.print_report.ensures.printed well held is)

pub returns-in-Dis-clause-printed : goal.returns-in-Dis-clause-printed
returns-in-Dis-clause-printed g c = λ well held is.
    let such = subst (λ (b : Batch). OrCutShort (places c.args.book.now (batch_asked b) c.args.input.items) (printed c.args.book.now (batch_asked b) c.args.input.items) (seen c.whole-report.result)) (sym c.in-Dis.is)
    (given c.whole-report.result _ _ (c.whole-report.ensures _ c.dis_text.ensures)) in
    (seen c.whole-report.result, such, c.print_report-in-Dis.ensures.printed well held is)
