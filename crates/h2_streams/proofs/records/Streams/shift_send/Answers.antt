use Rattle.std.proofs.Common.{◌∙◌, sym}
use Rattle.std.proofs.Math.Facts.{to_z-of_z}
use Rattle.h2_streams.proofs.records.Streams.shift_send.Goals as goal

pub move_send-requires-clause-fits : goal.move_send-requires-clause-fits
move_send-requires-clause-fits g c =
    let asked = rw (to_z-of_z c.ranges.delta) at c.overflows_with.ensures in
    rw (to_z-of_z c.ranges.delta) (c.greatest_send.ensures c.args.delta ∙ sym asked ∙ c.if-overflows_with.false)
