use Rattle.std.proofs.Common.{arith}
use Rattle.h2_table.proofs.Editing.{have_places}
use Rattle.h2_table.proofs.dynamic_table.DynTable.set_limit.Goals as goal

pub make_places-requires : goal.make_places-requires
make_places-requires g c =
    let i = c.self.invariant in
    let available = have_places c.self.inside.ring.items c.self.inside.max (omega (arith, i.counted, i.within)) in
    omega (arith, available)
