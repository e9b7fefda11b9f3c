use Rattle.std.proofs.Common.{rules, ◌≡◌, ◌/◌, length}
use Rattle.h2_debug.proofs.KeptLaws.{kept-due}
use Rattle.h2_debug.proofs.places.forward.keep_if_due.Goals as goal

pub returns-in_ok-keep-clause-kept : goal.returns-in_ok-keep-clause-kept
returns-in_ok-keep-clause-kept g c = λ r here kept.
    let due : c.args.place.now.position / 64 ≡ length c.args.kept.now.items = search rules in
    rw c.in_ok-keep.ensures.kept (kept-due r c.args.place.now c.args.kept.now.items kept here c.in_ok-keep.ensures.consistent c.requires due)
