use Rattle.std.proofs.Common.{◌≡◌}
use Rattle.std.specs.Map.{values_of}
use Rattle.h2_streams.specs.Shift.{moved_as, update_each}
use Rattle.h2_streams.proofs.windows.shift.move_each.Given as goal

abbrev pub invariant-loop-place : goal.invariant-loop-place
invariant-loop-place g l = update_each (moved_as l.of l.delta) l.place-iterator l.records.items ≡ update_each (moved_as l.of l.delta) (values_of l.live.entries) l.fn.records.items
