use Rattle.std.proofs.Common.{ap}
use Rattle.h2_spec.specs.Frames.Parse.{Parsed}
use Rattle.h2_spec.specs.Hpack.Instruction.{Shape}
use Rattle.h2_spec_laws.proofs.SplitLaws.{split-splits, splits-one, split-append}
use Rattle.h2_spec_laws.proofs.block_laws.octets_split_in_one_way.Goals as goal

pub returns-clause-split : goal.returns-clause-split
returns-clause-split c = split-splits

pub returns-clause-one_way : goal.returns-clause-one_way
returns-clause-one_way c = splits-one

pub returns-clause-cut : goal.returns-clause-cut
returns-clause-cut c = λ b more. (ap (λ (t : Parsed (Unit {0}) Shape). t.elements) (split-append b more), ap (λ (t : Parsed (Unit {0}) Shape). t.rest) (split-append b more))
