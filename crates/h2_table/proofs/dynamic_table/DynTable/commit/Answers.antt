use Rattle.std.proofs.Common.{arith, ◌≤◌, ◌++◌, sym, subst, take, max}
use Rattle.h2_spec.specs.Hpack.DynamicTable.{LimitedTable, total_size}
use Rattle.h2_table.specs.Edits.{EditOf, IsEdit}
use Rattle.h2_table.proofs.Editing.{have_places}
use Rattle.h2_table.proofs.dynamic_table.DynTable.commit.Goals as goal

pub move_newest-requires : goal.move_newest-requires
move_newest-requires g c =
    let t = c.self.inside in
    let e = c.edit.inside in
    let belongs = subst (λ (b : LimitedTable). IsEdit b (record { added = e.added.items; kept = e.kept; size = e.size; max = e.max })) (sym c.self.view_is) (subst (λ (x : EditOf). IsEdit c.args.self.now x) (sym c.edit.view_is) c.requires.belongs) in
    let es = e.added.items ++ take e.kept t.ring.items in
    let most = max t.max t.limit in
    let small : total_size es ≤ most = omega (arith, belongs.counted, belongs.within, belongs.limited) in
    rw c.evict_from.ensures (omega (arith, have_places es most small, c.self.invariant.has_places))
