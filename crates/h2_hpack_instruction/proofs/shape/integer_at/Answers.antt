use Rattle.std.proofs.Common.{◌∙◌, ap}
use Rattle.h2_spec.specs.Hpack.Integer.{int_at}
use Rattle.h2_hpack_instruction.proofs.Resuming.{integer-place}
use Rattle.h2_hpack_instruction.proofs.shape.integer_at.Goals as goal

pub returns-clause-place : goal.returns-clause-place
returns-clause-place c = integer-place c.args.prefix c.args.at c.args.octets.now c.read_int.result c.requires.within (c.read_int.ensures.value ∙ ap (int_at c.args.prefix) c.octets_from.ensures)
