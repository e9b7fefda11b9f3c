use Rattle.std.proofs.Common.{arith, ap, length, List}
use Rattle.h2_spec.specs.Hpack.Field.{Field}
use Rattle.h2_table.specs.Runs.{entries_in}
use Rattle.h2_table.proofs.Editing.{have_places}
use Rattle.h2_table.proofs.kept.KeptTable.restore.Goals as goal

pub ring_of-requires : goal.ring_of-requires
ring_of-requires g c =
    let t = c.self.inside in
    let available = have_places (entries_in t.runs.items) t.max (omega (arith, c.self.invariant)) in
    let same = ap (λ (runs : List (List Field)). length (entries_in runs)) c.as_slice.ensures.value in
    omega (arith, same, available)
