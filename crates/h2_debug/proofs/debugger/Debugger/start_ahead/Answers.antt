use Rattle.std.proofs.Common.{◌∙◌, ap, arith}
use Rattle.h2_debug.specs.Debugging.{Debugging}
use Rattle.h2_debug.proofs.KeptLaws.{replay-start-ahead}
use Rattle.h2_debug.proofs.PlaceLaws.{place-counted}
use Rattle.h2_debug.proofs.debugger.Debugger.start_ahead.Goals as goal

pub returns-clause-at : goal.returns-clause-at
returns-clause-at g c =
    let there = c.in_ok-place.ensures.place in
    let present = c.self.inside.present in
    let same = ap (λ (d : Debugging). d.position) (c.self.view_is ∙ c.start_for.ensures.same) in
    let ahead = replay-start-ahead c.args.target c.args.self.now c.requires in
    rw c.count_from.ensures (place-counted _ _ _ (omega (arith, c.self.invariant.now.few, same, ahead, there.1)) there.0)
