use Rattle.std.proofs.Common.{rules}
use Rattle.h2_conn.proofs.view.shown_block.Goals as goal

pub returns-in-Some : goal.returns-in-Some
returns-in-Some g c = search rules
