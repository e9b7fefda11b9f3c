use Rattle.std.proofs.Common.{rules}
use Rattle.h2_spec.specs.Hpack.Instruction.{spell}
use Rattle.h2_hpack_instruction.proofs.response.write_update.Goals as goal

pub returns-in_ok-write_int : goal.returns-in_ok-write_int
unfolding spell
returns-in_ok-write_int g c = record { ok = search rules }
