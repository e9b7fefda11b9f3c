use Rattle.std.proofs.Common.{◌≡◌, ◌≤◌, take}
use Rattle.h2_streams.specs.Joined.{with_base}
use Rattle.h2_streams.proofs.brief.base.list_of.Given as goal

abbrev pub invariant-loop-place : goal.invariant-loop-place
invariant-loop-place g l = record {
  within : l.place ≤ l.count;
  listed : l.list.items ≡ take l.place (with_base l.base l.own).streams;
}
