use Rattle.std.proofs.Common.{arith, ap}
use Rattle.h2_spec.specs.Stream as spec
use Rattle.h2_spec.specs.Stream.{Records}
use Rattle.h2_streams.proofs.own.OwnRecords.live_count.Goals as goal

pub returns : goal.returns
returns g c =
    let n = c.self.invariant.0.counted in
    let len = c.len.ensures.len in
    let live = ap (λ (v : Records). spec.live_count v.streams) c.self.view_is in
    omega (arith, n, len, live)
