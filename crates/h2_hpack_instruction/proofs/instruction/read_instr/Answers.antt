use Rattle.std.proofs.Common.{◌≡◌, Some, None, Err, ap, subst, sym, ◌∙◌, rules}
use Rattle.std.proofs.lemmas.Result.{err_from_is_err_and}
use Rattle.h2_hpack_instruction.specs.Instructions.{HasLiteral, fault_at, instr_of}
use Rattle.h2_hpack_instruction.specs.Shapes.{shape_of, read_of}
use Rattle.h2_hpack_instruction.proofs.Reading.{texts-whole, texts-more, texts-too_long, has-texts}
use Rattle.h2_hpack_instruction.specs.declared.fault.BlockFault.TheVariants as faults
use Rattle.h2_hpack_instruction.proofs.instruction.read_instr.Goals as goal

pub returns-in_err-with_texts-in-Ok-clause-fault : goal.returns-in_err-with_texts-in-Ok-clause-fault
returns-in_err-with_texts-in-Ok-clause-fault g c =
    let p = err_from_is_err_and c.from_residual.result c.from_residual.ensures.1 in
    let b = c.args.octets.now in
    rw (p.1, p.2) (λ h.
    let f = c.in_err-with_texts-in-Ok.ensures.fault h in
    ap fault_at (sym (texts-whole b (shape_of c.in-Ok.shape) c.in-Ok.used None c.in-Ok.ensures.read f.1)) ∙ ap Some (sym f.0))

pub returns-in_err-with_texts-in-Ok-clause-no_memory : goal.returns-in_err-with_texts-in-Ok-clause-no_memory
returns-in_err-with_texts-in-Ok-clause-no_memory g c =
    let p = err_from_is_err_and c.from_residual.result c.from_residual.ensures.1 in
    rw (p.1, p.2) (λ h.
    let same : c.in_err-with_texts-in-Ok.field-0.0 ≡ faults.NoMemory = cc in
    has-texts c.args.octets.now (shape_of c.in-Ok.shape) c.in-Ok.used c.in-Ok.ensures.read (c.in_err-with_texts-in-Ok.ensures.no_memory (ap Err same)))

pub returns-in_ok-with_texts-in-Ok-clause-read : goal.returns-in_ok-with_texts-in-Ok-clause-read
returns-in_ok-with_texts-in-Ok-clause-read g c =
    texts-whole c.args.octets.now (shape_of c.in-Ok.shape) c.in-Ok.used (Some (instr_of c.in_ok-with_texts-in-Ok.field-0)) c.in-Ok.ensures.read c.in_ok-with_texts-in-Ok.ensures.texts

pub returns-in-Err-More-clause-read : goal.returns-in-Err-More-clause-read
returns-in-Err-More-clause-read g c = texts-more c.args.octets.now (ap (λ e. read_of shape_of (Err e)) (sym c.in-Err-More.field-0-is) ∙ c.in-Err-More.ensures.read)

pub returns-in-Err-TooLong-clause-fault : goal.returns-in-Err-TooLong-clause-fault
returns-in-Err-TooLong-clause-fault g c = λ h. ap fault_at (sym (texts-too_long c.args.octets.now (ap (λ e. read_of shape_of (Err e)) (sym c.in-Err-TooLong.field-0-is) ∙ c.in-Err-TooLong.ensures.read)))

pub returns-in-Err-TooLong-clause-read : goal.returns-in-Err-TooLong-clause-read
returns-in-Err-TooLong-clause-read g c = search rules

pub returns-in_err-with_texts-in-Ok-clause-literal : goal.returns-in_err-with_texts-in-Ok-clause-literal
returns-in_err-with_texts-in-Ok-clause-literal g c =
    let p = err_from_is_err_and c.from_residual.result c.from_residual.ensures.1 in
    rw (p.1, p.2) (λ h.
    let same : c.in_err-with_texts-in-Ok.field-0.0 ≡ faults.NoMemory = cc in
    subst HasLiteral c.in-Ok.ensures.read (c.in_err-with_texts-in-Ok.ensures.literal (ap Err same)))
