use Rattle.std.proofs.Common.{◌+◌, ◌-◌, ◌/◌, ◌<◌, ◌≤◌, arith, length}
use Rattle.h2_streams.specs.Brief.{id_at}
use Rattle.h2_streams.proofs.BriefLaws.{above-place, below-place}
use Rattle.h2_streams.proofs.brief.records.halved.Goals as goal

pub returns-then-id_at-id-clause-between : goal.returns-then-id_at-id-clause-between
returns-then-id_at-id-clause-between c =
    let middle = c.args.low + (c.args.high - c.args.low) / 2 in
    let places = c.requires.places in
    let within : middle < length c.args.kinds.now = omega (arith, places.0, places.1) in
    let under : id_at c.args.runs.now middle < c.args.id = omega (arith, c.id_at.ensures, c.if-id_at-id.true) in
    let past = below-place c.args.id middle c.args.runs.now c.args.kinds.now c.requires.rising within under in
    (omega (arith, past), c.requires.between.1)

pub returns-else-id_at-id-clause-between : goal.returns-else-id_at-id-clause-between
returns-else-id_at-id-clause-between c =
    let middle = c.args.low + (c.args.high - c.args.low) / 2 in
    let places = c.requires.places in
    let within : middle < length c.args.kinds.now = omega (arith, places.0, places.1) in
    let over : c.args.id ≤ id_at c.args.runs.now middle = omega (arith, c.id_at.ensures, c.if-id_at-id.false) in
    (c.requires.between.0, above-place c.args.id middle c.args.runs.now c.args.kinds.now within over)
