use Rattle.std.proofs.Common.{ap, ◌∙◌, subst, sym}
use Rattle.std.proofs.Math.Facts.{to_z-of_z}
use Rattle.std.specs.List.{AllByRecursion}
use Rattle.h2_spec.specs.Change.{overflows, shifted}
use Rattle.h2_spec.specs.Stream.{Records}
use Rattle.h2_streams.specs.Joined.{GoWith, with_base}
use Rattle.h2_streams.specs.Shift.{CanShift}
use Rattle.h2_streams.proofs.SharedLaws.{can-shift, go-shifted, overflows-all, shifted-all}
use Rattle.h2_streams.proofs.records.Streams.move_send.Goals as goal

pub move_send-requires-clause-can : goal.move_send-requires-clause-can
move_send-requires-clause-can g c =
    let s = c.self.inside in
    let all = let P : Records → Type 0 = λ v. AllByRecursion (CanShift c.args.delta) v.streams in subst P (sym c.self.view_is) c.requires.can in
    rw (to_z-of_z c.ranges.delta) (can-shift c.args.delta s.base s.own c.self.invariant all)

pub move_send-requires-clause-fits : goal.move_send-requires-clause-fits
move_send-requires-clause-fits g c =
    let s = c.self.inside in
    let d = c.args.delta in
    rw (to_z-of_z c.ranges.delta) (sym (overflows-all d s.base s.own c.self.invariant) ∙ ap (λ (v : Records). overflows d v.streams) c.self.view_is ∙ c.requires.fits)

pub invariant_of-self : goal.invariant_of-self
invariant_of-self g c =
    let s = c.self.inside in
    let moved = rw (to_z-of_z c.ranges.delta) at c.move_send.ensures in
    subst (GoWith s.base) (sym moved) (go-shifted c.args.delta s.base s.own c.self.invariant)

pub returns : goal.returns
returns g c =
    let s = c.self.inside in
    let d = c.args.delta in
    let moved = rw (to_z-of_z c.ranges.delta) at c.move_send.ensures in
    ap (with_base s.base) moved ∙ shifted-all d s.base s.own c.self.invariant ∙ ap (λ (v : Records). let r : Records = record v { streams = shifted d v.streams } in r) c.self.view_is
