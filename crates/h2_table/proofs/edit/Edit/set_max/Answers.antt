use Rattle.std.proofs.Common.{◌++◌, ◌∙◌, ap, take}
use Rattle.h2_spec.specs.Hpack.DynamicTable.{resize}
use Rattle.h2_table.specs.Edits.{EditOf, edited}
use Rattle.h2_table.proofs.Editing.{resized-table}
use Rattle.h2_table.proofs.edit.Edit.set_max.Goals as goal

pub returns-clause-resized : goal.returns-clause-resized
returns-clause-resized g c =
    let d = c.self.inside in
    let e = c.evict_oldest-kept in
    let own = c.args.base.now.table.entries in
    resized-table (d.added.items ++ take d.kept own) (e.new.added.items ++ take e.result.0 own) d.max c.args.n e.ensures.left ∙ ap (λ (x : EditOf). resize (edited own x) c.args.n) c.self.view_is
