use Rattle.std.proofs.Common.{rules}
use Rattle.h2_hpack_instruction.proofs.field.Field.new.Goals as goal

pub returns : goal.returns
returns g c = search rules
