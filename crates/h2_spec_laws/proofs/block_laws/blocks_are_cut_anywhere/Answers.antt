use Rattle.h2_spec.proofs.BlockLaws.{decoded-append, decoded-pieces}
use Rattle.h2_spec_laws.proofs.block_laws.blocks_are_cut_anywhere.Goals as goal

pub returns-clause-once : goal.returns-clause-once
returns-clause-once c = decoded-append

pub returns-clause-often : goal.returns-clause-often
returns-clause-often c = decoded-pieces
