use Rattle.std.proofs.Common.{◌∙◌}
use Rattle.h2_explain_item.proofs.FollowedLaws.{at-dynamic, at-static}
use Rattle.h2_explain_item.proofs.change.header_table.field_at.Goals as goal

pub returns-then-index-le61 : goal.returns-then-index-le61
returns-then-index-le61 g c = c.static_field.ensures ∙ at-static c.args.index c.args.table.now.table.entries c.if-index-le61.true

pub returns-else-index-le61 : goal.returns-else-index-le61
returns-else-index-le61 g c = c.get.ensures ∙ at-dynamic c.args.index c.args.table.now.table.entries c.if-index-le61.false
