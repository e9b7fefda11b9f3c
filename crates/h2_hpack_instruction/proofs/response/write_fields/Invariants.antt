use Rattle.std.proofs.Common.{◌≡◌, ◌++◌, drop, flat_map, map}
use Rattle.h2_spec.specs.Requests.Answer.{plain_literal}
use Rattle.h2_spec.specs.Hpack.Instruction.{spell}
use Rattle.h2_hpack_instruction.proofs.response.write_fields.Given as goal

abbrev pub invariant-loop-field : goal.invariant-loop-field
invariant-loop-field g l = l.block.items ++ flat_map spell (map plain_literal (drop l.field-index l.fields)) ≡ l.fn.block.items ++ flat_map spell (map plain_literal l.fields)
