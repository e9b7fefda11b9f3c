use Rattle.std.proofs.Common.{List, Some, false, subst, ℕ}
use Rattle.h2_explain.specs.Explaining.{EndsAs}
use Rattle.h2_embed.proofs.owned.end_of.Goals as goal

pub returns-in-Ok : goal.returns-in-Ok
returns-in-Ok c = subst (λ (begun : List ℕ). EndsAs false c.args.conn.now c.args.explanation.now (Some begun) (Some c.end.new.output.octets.items)) c.new-text.ensures.0 (c.in-Ok.ensures.gains c.in-Ok.ensures.flag)
