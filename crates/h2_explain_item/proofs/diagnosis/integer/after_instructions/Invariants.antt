use Rattle.std.proofs.Common.{◌≡◌, length}
use Rattle.h2_spec.specs.Hpack.Instruction.{split}
use Rattle.h2_explain_item.proofs.diagnosis.integer.after_instructions.Given as goal

abbrev pub invariant-instructions : goal.invariant-instructions
invariant-instructions l = (split l.octets).rest ≡ (split l.rest).rest

abbrev pub decreases-instructions : goal.decreases-instructions
decreases-instructions l = length l.rest
