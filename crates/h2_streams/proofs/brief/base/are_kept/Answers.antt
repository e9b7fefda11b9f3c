use Rattle.std.proofs.Common.{◌≡◌, List, [], arith, drop, drop_of_length-le, subst, sym}
use Rattle.h2_spec.specs.declared.streams.Stream.{Stream}
use Rattle.h2_streams.specs.Joined.{AreKept}
use Rattle.h2_streams.proofs.brief.base.are_kept.Goals as goal

pub returns : goal.returns
returns g c = λ e.
    let done : drop c.loop-stream.stream-index c.args.own.now ≡ [] = drop_of_length-le c.args.own.now (omega (arith, c.loop-stream-test.false)) in
    c.loop-stream.invariant (subst (λ (rs : List Stream). AreKept c.args.records.now rs) (sym done) tt)
