use Rattle.std.proofs.Common.{length, subst, arith}
use Rattle.std.proofs.lemmas.List.{take_all}
use Rattle.h2_debug.specs.Reading.{IsPlain}
use Rattle.h2_debug.proofs.Taking.{plain-front}
use Rattle.h2_debug.proofs.commands.reader.before_line_feed.Goals as goal

pub returns-in-Some-clause-plain : goal.returns-in-Some-clause-plain
returns-in-Some-clause-plain c =
    let first = c.in-Some.ensures.0 in
    rw c.octets_up_to.ensures (plain-front c.args.octets.now c.in-Some.count (omega (arith, first.high)) first.before)

pub returns-in-None-clause-plain : goal.returns-in-None-clause-plain
returns-in-None-clause-plain c =
    subst IsPlain (take_all (length c.args.octets.now) c.args.octets.now (omega arith))
    (plain-front c.args.octets.now (length c.args.octets.now) (omega arith) c.in-None.ensures)
