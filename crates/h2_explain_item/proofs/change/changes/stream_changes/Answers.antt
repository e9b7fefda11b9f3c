use Rattle.std.proofs.Common.{rules}
use Rattle.h2_explain_item.proofs.ChangeLaws.{none_of_zero}
use Rattle.h2_explain_item.proofs.change.changes.stream_changes.Goals as goal

pub returns-then-after-eq0 : goal.returns-then-after-eq0
returns-then-after-eq0 g c = rw (none_of_zero c.args.before.now c.args.after.now c.args.connection c.if-after-eq0.true) (search rules)
