use Rattle.std.proofs.Common.{◌≡◌, ◌||◌, ℤ}
use Rattle.std.specs.List.{list_any}
use Rattle.std.specs.Map.{values_of}
use Rattle.h2_spec.specs.Change.{overflows_one}
use Rattle.h2_streams.specs.Greatest.{overflows_with}
use Rattle.h2_streams.specs.Kept.{passes_at}
use Rattle.h2_streams.proofs.windows.greatest.greatest_of.Given as goal

abbrev pub invariant-loop-place : goal.invariant-loop-place
invariant-loop-place g l =
    (d : ℤ) → (overflows_with l.greatest d || list_any (passes_at (overflows_one d) l.records) l.place-iterator) ≡ list_any (passes_at (overflows_one d) l.records) (values_of l.live.entries)
