use Rattle.std.proofs.Common.{rules}
use Rattle.h2_script.proofs.fragment.if_spelled.Goals as goal

pub returns : goal.returns
returns g c = search rules
