use Rattle.std.proofs.Common.{◌≤◌, List, [], ◌∷◌, length, arith}
use Rattle.h2_spec.specs.Hpack.DynamicTable.{total_size}
use Rattle.h2_spec.specs.Hpack.Field.{Field}
use Rattle.h2_conn_view.proofs.view.count_of.Goals as goal

length-total : (es : List Field) → length es ≤ total_size es
length-total [] = omega arith
length-total (e ∷ es) = omega (arith, length-total es)

pub returns-clause-few : goal.returns-clause-few
returns-clause-few g c =
    omega (arith, length-total c.args.table.now.table.entries, c.size-size.ensures.sum, c.size-size.ensures.within, c.max-max.ensures.is, c.len.ensures)
