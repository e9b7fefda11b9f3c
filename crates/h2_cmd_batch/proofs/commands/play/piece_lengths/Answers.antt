use Rattle.std.proofs.Common.{rules}
use Rattle.h2_cmd_batch.proofs.commands.play.piece_lengths.Goals as goal

pub returns : goal.returns
returns c = search rules
