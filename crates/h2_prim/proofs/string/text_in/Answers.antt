use Rattle.std.proofs.Common.{rules}
use Rattle.h2_prim.proofs.string.text_in.Goals as goal

pub returns-clause-text : goal.returns-clause-text
returns-clause-text g c = search rules
