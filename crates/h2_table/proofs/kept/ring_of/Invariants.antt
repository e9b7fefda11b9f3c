use Rattle.std.proofs.Common.{◌≡◌, take}
use Rattle.h2_table.specs.Runs.{entries_in}
use Rattle.h2_table.proofs.kept.ring_of.Given as goal

abbrev pub invariant-loop-run : goal.invariant-loop-run
invariant-loop-run g l = record {
  same : l.ring.items ≡ entries_in (take l.run-index l.runs);
  places : l.ring.capacity ≡ l.places;
}
