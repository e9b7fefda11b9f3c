use Rattle.h2_spec.proofs.InstructionLaws.{string-reader}
use Rattle.h2_explain_item.proofs.diagnosis.integer.is_name_beyond.Goals as goal

pub octets_from-requires : goal.octets_from-requires
octets_from-requires c = rw (← c.in-Whole.ensures) at (string-reader.within c.args.octets.now)
