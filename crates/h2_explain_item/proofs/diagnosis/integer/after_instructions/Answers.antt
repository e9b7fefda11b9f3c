use Rattle.std.proofs.Common.{◌∙◌, sym}
use Rattle.h2_explain_item.proofs.FieldLaws.{split-rest, split-whole}
use Rattle.h2_explain_item.proofs.diagnosis.integer.after_instructions.Goals as goal

pub instructions-preserved : goal.instructions-preserved
instructions-preserved c =
    rw c.octets_from-rest.ensures (c.instructions.invariant ∙ split-whole c.instructions.rest.now _ _ (sym c.in-Ok.ensures.read))

pub returns-in-Err : goal.returns-in-Err
returns-in-Err c = sym (c.instructions.invariant ∙ split-rest c.instructions.rest.now _ c.in-Err.ensures.read)
