use Rattle.h2_spec_laws.proofs.DecodingLaws.{decoded-decodes, decodes-only}
use Rattle.h2_spec_laws.proofs.block_laws.blocks_are_their_instructions.Goals as goal

pub returns : goal.returns
returns c = record { is = decoded-decodes; only = decodes-only }
