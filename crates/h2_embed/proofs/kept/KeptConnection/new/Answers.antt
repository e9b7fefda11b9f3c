use Rattle.std.proofs.Common.{refl, rules}
use Rattle.h2_embed.proofs.Feeding.{ready-new, stands-new}
use Rattle.h2_embed.proofs.kept.KeptConnection.new.Goals as goal

pub returns-clause-ready : goal.returns-clause-ready
returns-clause-ready c = let ready = ready-new _ _ c.in_ok-explanation.ensures in (refl, ready.0, ready.1, ready.2)

pub returns-clause-begins : goal.returns-clause-begins
returns-clause-begins c = stands-new _ _ _ _ _ c.in_ok-conn.ensures c.in_ok-explanation.ensures (search rules)
