use Rattle.std.proofs.Common.{arith, ap, ◌∙◌, sym, subst, List}
use Rattle.std.proofs.Math.Facts.{to_z-of_z}
use Rattle.std.specs.List.{AllByRecursion}
use Rattle.h2_spec.specs.declared.streams.Stream.{Stream}
use Rattle.h2_spec.specs.Change.{overflows, shifted}
use Rattle.h2_spec.specs.Stream.{Records}
use Rattle.h2_streams.specs.Shift.{CanShift}
use Rattle.h2_streams.proofs.ShiftLaws.{kept-moved, records-moved}
use Rattle.h2_streams.proofs.own.OwnRecords.move_send.Goals as goal

pub list_ready-requires : goal.list_ready-requires
list_ready-requires g c = c.self.invariant.1

pub invariant_of-self : goal.invariant_of-self
invariant_of-self g c =
    let s = c.self.inside in
    let d = c.args.delta in
    let moved = rw (to_z-of_z c.ranges.delta) at c.move_each.ensures in
    let listed = rw (c.as_slice.ensures.value, moved) at c.list_ready.ensures.items in
    let enough = c.self.invariant.1 in
    let more = c.list_ready.ensures.capacity in
    rw (moved, listed) (kept-moved d s.records.items s.live.entries s.ended s.ready.items s.last c.self.invariant.0, omega (arith, enough, more))

pub returns : goal.returns
returns g c =
    let s = c.self.inside in
    let d = c.args.delta in
    let moved = rw (to_z-of_z c.ranges.delta) at c.move_each.ensures in
    let can = let P : Records → Type 0 = λ v. AllByRecursion (CanShift d) v.streams in subst P (sym c.self.view_is) c.requires.can in
    let free = ap (λ (v : Records). overflows d v.streams) c.self.view_is ∙ c.requires.fits in
    let streams = moved ∙ records-moved d s.records.items s.live.entries s.ended s.ready.items s.last c.self.invariant.0 can free in
    ap (λ (xs : List Stream). let r : Records = record { streams = xs; last = s.last } in r) streams ∙ ap (λ (v : Records). let r : Records = record v { streams = shifted d v.streams } in r) c.self.view_is
