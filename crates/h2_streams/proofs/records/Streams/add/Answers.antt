use Rattle.std.proofs.Common.{◌<◌, ap, arith}
use Rattle.h2_spec.specs.Stream.{Records}
use Rattle.h2_streams.proofs.SharedLaws.{go-added-or}
use Rattle.h2_streams.proofs.records.Streams.add.Goals as goal

pub invariant_of-self : goal.invariant_of-self
invariant_of-self g c =
    let s = c.self.inside in
    let seen = ap (λ (v : Records). v.last) c.self.view_is in
    let same = ap (λ (v : Records). v.last) c.settle.ensures in
    let above : s.own.last < c.args.stream.id = omega (arith, seen, same, c.requires.above) in
    go-added-or s.base s.own c.add.new.self c.args.stream c.add.result c.add.ensures.ok c.add.ensures.err c.self.invariant c.requires.odd above
