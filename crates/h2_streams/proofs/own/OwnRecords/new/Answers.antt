use Rattle.std.proofs.Common.{[], arith, refl, rules}
use Rattle.h2_streams.proofs.LiveLaws.{kept-anew}
use Rattle.h2_streams.proofs.own.OwnRecords.new.Goals as goal

pub invariant_of-result : goal.invariant_of-result
invariant_of-result g c = rw (c.with_hasher.ensures.empty, c.new.ensures.items, c.new-2.ensures.items) (kept-anew 0 [] [] tt refl, omega arith)

pub returns : goal.returns
returns g c = search rules
