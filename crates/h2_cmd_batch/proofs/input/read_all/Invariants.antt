use Rattle.std.proofs.Common.{◌≡◌, ◌-◌, ◌≤◌, vec_len}
use Rattle.std.specs.Io.KnownBytes.{Consumes}
use Rattle.h2_cmd_batch.proofs.input.read_all.Given as goal

abbrev pub invariant-loop-count : goal.invariant-loop-count
invariant-loop-count g l = record {
  within : vec_len l.octets ≤ 16777216;
  taken : Consumes (g.I.Input.remaining l.initial.input) (g.I.Input.remaining l.input) l.octets.items;
  name : g.I.Input.name l.input ≡ g.I.Input.name l.initial.input;
}

abbrev pub decreases-loop-count : goal.decreases-loop-count
decreases-loop-count g l = 16777216 - vec_len l.octets
