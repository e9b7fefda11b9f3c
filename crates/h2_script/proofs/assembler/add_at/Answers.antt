use Rattle.std.proofs.Common.{rules}
use Rattle.h2_script.proofs.assembler.add_at.Goals as goal

pub returns-in-Err-Bad : goal.returns-in-Err-Bad
returns-in-Err-Bad g c = search rules
