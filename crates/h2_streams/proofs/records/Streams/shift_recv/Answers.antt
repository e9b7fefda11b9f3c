use Rattle.std.proofs.Common.{ap, ◌∙◌, subst, sym}
use Rattle.std.proofs.Math.Facts.{to_z-of_z}
use Rattle.std.specs.List.{AllByRecursion}
use Rattle.h2_spec.specs.Change.{received}
use Rattle.h2_spec.specs.Stream.{Records}
use Rattle.h2_streams.specs.Joined.{GoWith, with_base}
use Rattle.h2_streams.specs.Shift.{CanReceive}
use Rattle.h2_streams.proofs.SharedLaws.{can-receive, go-received, received-all}
use Rattle.h2_streams.proofs.records.Streams.shift_recv.Goals as goal

pub shift_recv-requires : goal.shift_recv-requires
shift_recv-requires g c =
    let s = c.self.inside in
    let all = let P : Records → Type 0 = λ v. AllByRecursion (CanReceive c.args.delta) v.streams in subst P (sym c.self.view_is) c.requires in
    rw (to_z-of_z c.ranges.delta) (can-receive c.args.delta s.base s.own c.self.invariant all)

pub invariant_of-self : goal.invariant_of-self
invariant_of-self g c =
    let s = c.self.inside in
    let moved = rw (to_z-of_z c.ranges.delta) at c.shift_recv.ensures in
    subst (GoWith s.base) (sym moved) (go-received c.args.delta s.base s.own c.self.invariant)

pub returns : goal.returns
returns g c =
    let s = c.self.inside in
    let d = c.args.delta in
    let moved = rw (to_z-of_z c.ranges.delta) at c.shift_recv.ensures in
    ap (with_base s.base) moved ∙ received-all d s.base s.own c.self.invariant ∙ ap (λ (v : Records). let r : Records = record v { streams = received d v.streams } in r) c.self.view_is
