use Rattle.std.proofs.Common.{length, ap, ◌∙◌, sym, rules}
use Rattle.h2_spec.specs.Hpack.Block.{FieldsSoFar}
use Rattle.h2_hpack_instruction.proofs.Reading.{instr-none}
use Rattle.h2_fields.proofs.block.BlockDecoder.start.Goals as goal

pub invariant_of-result : goal.invariant_of-result
invariant_of-result g c = (c.new.ensures.items ∙ sym (ap (λ (s : FieldsSoFar). s.fields) c.clear.ensures), sym (instr-none c.new-2.result (ap length c.new-2.ensures)))

pub returns : goal.returns
returns g c = search rules
