use Rattle.std.proofs.Common.{◌≡◌, ◌≤◌, length, take}
use Rattle.h2_table.specs.Runs.{entries_in}
use Rattle.h2_table.proofs.kept.share_runs.Given as goal

abbrev pub invariant-loop-run : goal.invariant-loop-run
invariant-loop-run g l = record {
  first : entries_in l.runs.items ≡ take l.taken l.ring.items;
  within : l.taken ≤ length l.ring.items;
}
