use Rattle.std.proofs.Common.{arith, ◌∙◌}
use Rattle.h2_streams.specs.Brief.{briefs_from}
use Rattle.h2_streams.proofs.BriefLaws.{briefs-length, place-most}
use Rattle.h2_streams.proofs.brief.records.searched.Goals as goal

pub loop-low-init : goal.loop-low-init
loop-low-init c =
    let most = place-most c.args.id (briefs_from 0 c.args.runs.now c.args.kinds.now) in
    let many = briefs-length 0 c.args.runs.now c.args.kinds.now in
    record { below = omega arith; above = omega (arith, most, many); within = omega arith }

pub halved-next-requires-clause-places : goal.halved-next-requires-clause-places
halved-next-requires-clause-places c = (omega (arith, c.loop-low-test.true), c.loop-low.invariant.within)

pub halved-next-requires-clause-between : goal.halved-next-requires-clause-between
halved-next-requires-clause-between c = (c.loop-low.invariant.below, c.loop-low.invariant.above)

pub loop-low-preserved : goal.loop-low-preserved
loop-low-preserved c = record { below = c.halved-next.ensures.between.0; above = c.halved-next.ensures.between.1; within = omega (arith, c.halved-next.ensures.less.0, c.loop-low.invariant.within) }

pub loop-low-smaller : goal.loop-low-smaller
loop-low-smaller c = c.halved-next.ensures.less.1

pub returns : goal.returns
returns c = omega (arith, c.loop-low-test.false, c.loop-low.invariant.below, c.loop-low.invariant.above)
