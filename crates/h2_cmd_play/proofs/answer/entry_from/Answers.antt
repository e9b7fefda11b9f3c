use Rattle.std.proofs.Common.{rules}
use Rattle.h2_cmd_play.proofs.answer.entry_from.Goals as goal

pub returns : goal.returns
returns g c = search rules
