use Rattle.std.proofs.Common.{inr, refl, subst}
use Rattle.h2_script.specs.Readings.{Refuses}
use Rattle.h2_script.specs.declared.fault.ScriptFault.{ScriptFault}
use Rattle.h2_spec.specs.Texts.Assemble.{assembled}
use Rattle.h2_cmd_batch.proofs.Assembled.{printed_bad, printed_octets, printed_unread}
use Rattle.h2_cmd_batch.proofs.commands.asm.asm_report.Goals as goal

pub returns-in_default : goal.returns-in_default
returns-in_default c = inr (printed_unread c.args.input.now (c.in_default.ensures.cases.0))

pub returns-in-Ok-assemble : goal.returns-in-Ok-assemble
returns-in-Ok-assemble c =
    printed_octets c.args.input.now c.in-Ok.text.now c.in-Ok-assemble.octets.items _ (c.in-Ok.ensures.cases.0) (c.in-Ok.ensures.cases.1) c.in-Ok-assemble.ensures.value refl

pub returns-in-Err-Syntax : goal.returns-in-Err-Syntax
returns-in-Err-Syntax c =
    let read = subst (λ (f : ScriptFault). Refuses f (assembled c.in-Ok.text.now)) c.in-Err-Syntax.field-0-is c.in-Err-Syntax.ensures.value in
    printed_bad c.args.input.now c.in-Ok.text.now _ c.in-Err-Syntax.line c.in-Err-Syntax.kind (c.in-Ok.ensures.cases.0) (c.in-Ok.ensures.cases.1) read refl
