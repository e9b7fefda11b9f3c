use Rattle.std.proofs.Common.{arith, ◌<◌}
use Rattle.h2_hpack_validity.proofs.OctetTables.{rest-at}
use Rattle.h2_hpack_validity.proofs.classes.is_outside_of_rest.Goals as goal

pub returns : goal.returns
returns c =
    let octet : c.args.octet < 256 = omega arith in
    rw c.from.ensures (rest-at c.args.octet octet)
