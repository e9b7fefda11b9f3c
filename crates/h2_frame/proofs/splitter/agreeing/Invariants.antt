use Rattle.std.proofs.Common.{◌≡◌, ◌+◌, drop, nat_eq}
use Rattle.std.specs.List.{common_prefix_len}
use Rattle.h2_frame.proofs.splitter.agreeing.Given as goal

-- those before agree
abbrev pub invariant-loop-count : goal.invariant-loop-count
invariant-loop-count l = l.count + common_prefix_len nat_eq (drop l.count l.octets) (drop l.count l.expected) ≡ common_prefix_len nat_eq l.octets l.expected
