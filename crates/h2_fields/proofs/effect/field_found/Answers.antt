use Rattle.std.proofs.Common.{◌∙◌}
use Rattle.h2_table.specs.Edits.{edited}
use Rattle.h2_fields.proofs.Applying.{at_static, at_dynamic}
use Rattle.h2_fields.proofs.effect.field_found.Goals as goal

pub returns-then-index-le61 : goal.returns-then-index-le61
returns-then-index-le61 g c = record { field = c.static_entry.ensures.field ∙ at_static c.args.index (edited c.args.table.now.table.entries c.args.edit.now).entries c.if-index-le61.true; marked = c.static_entry.ensures.marked }

pub returns-else-index-le61 : goal.returns-else-index-le61
returns-else-index-le61 g c = record { field = c.get.ensures.field ∙ at_dynamic c.args.index (edited c.args.table.now.table.entries c.args.edit.now).entries c.if-index-le61.false; marked = c.get.ensures.marked }
