use Rattle.std.proofs.Common.{arith, ap, ◌∙◌, sym}
use Rattle.std.proofs.Math.Facts.{to_z-of_z}
use Rattle.std.specs.Prelude.{slice_set}
use Rattle.h2_spec.specs.declared.streams.Stream.{Stream}
use Rattle.h2_streams.specs.Shift.{moved_as}
use Rattle.h2_streams.proofs.ShiftLaws.{set-update, update-absent}
use Rattle.h2_streams.proofs.windows.shift.move_at.Goals as goal

pub returns-then-place-len : goal.returns-then-place-len
returns-then-place-len g c =
    let rs = c.args.records.now.items in
    let moved = rw (to_z-of_z c.ranges.delta) at c.move_one.ensures in
    let stream = moved ∙ ap (moved_as c.args.of c.args.delta) c.index_mut.ensures.value in
    ap (λ (st : Stream). slice_set rs c.args.place st) stream ∙ set-update (moved_as c.args.of c.args.delta) c.args.place rs _ (let l = c.if-place-len.true in let len = c.len.ensures in omega (arith, l, len))

pub returns-else-place-len : goal.returns-else-place-len
returns-else-place-len g c = sym (update-absent (moved_as c.args.of c.args.delta) c.args.place c.args.records.now.items (let l = c.if-place-len.false in let len = c.len.ensures in omega (arith, l, len)))
