use Rattle.std.proofs.Common.{◌≡◌, ◌+◌, ◌≤◌, ◌++◌, length, vec_len}
use Rattle.std.specs.Map.{values_of}
use Rattle.std.specs.Vec.{vec_capacity}
use Rattle.h2_streams.specs.Kept.{is_ready, ids_at}
use Rattle.h2_streams.proofs.lookup.walks.list_ready.Given as goal

abbrev pub invariant-loop-place : goal.invariant-loop-place
invariant-loop-place g l =
    record {
      items : l.ready.items ++ ids_at is_ready l.records l.place-iterator ≡ ids_at is_ready l.records (values_of l.live.entries);
      len : vec_len l.ready + length l.place-iterator ≤ length l.live.entries;
      capacity : vec_capacity l.fn.ready ≤ vec_capacity l.ready;
    }
