use Rattle.std.proofs.Common.{ap, ◌∙◌, sym, subst, List}
use Rattle.std.proofs.Math.Facts.{to_z-of_z}
use Rattle.std.specs.List.{AllByRecursion}
use Rattle.h2_spec.specs.declared.streams.Stream.{Stream}
use Rattle.h2_spec.specs.Change.{received}
use Rattle.h2_spec.specs.Stream.{Records}
use Rattle.h2_streams.specs.Shift.{CanReceive}
use Rattle.h2_streams.proofs.ShiftLaws.{kept-received, records-received}
use Rattle.h2_streams.proofs.own.OwnRecords.shift_recv.Goals as goal

pub invariant_of-self : goal.invariant_of-self
invariant_of-self g c =
    let s = c.self.inside in
    let moved = rw (to_z-of_z c.ranges.delta) at c.move_each.ensures in
    rw moved (kept-received c.args.delta s.records.items s.live.entries s.ended s.ready.items s.last c.self.invariant.0, c.self.invariant.1)

pub returns : goal.returns
returns g c =
    let s = c.self.inside in
    let d = c.args.delta in
    let moved = rw (to_z-of_z c.ranges.delta) at c.move_each.ensures in
    let can = let P : Records → Type 0 = λ v. AllByRecursion (CanReceive d) v.streams in subst P (sym c.self.view_is) c.requires in
    let streams = moved ∙ records-received d s.records.items s.live.entries s.ended s.ready.items s.last c.self.invariant.0 can in
    ap (λ (xs : List Stream). let r : Records = record { streams = xs; last = s.last } in r) streams ∙ ap (λ (v : Records). let r : Records = record v { streams = received d v.streams } in r) c.self.view_is
