use Rattle.std.proofs.Common.{◌≡◌}
use Rattle.std.specs.Map.{values_of}
use Rattle.std.specs.Prelude.{slice_get}
use Rattle.h2_spec.specs.Stream.{waits_above}
use Rattle.h2_streams.specs.Kept.{ids_at}
use Rattle.h2_streams.proofs.lookup.walks.first_waiting.Given as goal

abbrev pub invariant-loop-place : goal.invariant-loop-place
invariant-loop-place g l = slice_get (ids_at (waits_above l.after) l.records l.place-iterator) 0 ≡ slice_get (ids_at (waits_above l.after) l.records (values_of l.live.entries)) 0
