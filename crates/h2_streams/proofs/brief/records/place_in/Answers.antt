use Rattle.std.proofs.Common.{◌≡◌, ◌<◌, ◌∙◌, arith, length, sym}
use Rattle.h2_streams.specs.Brief.{id_at}
use Rattle.h2_streams.proofs.BriefLaws.{at-place}
use Rattle.h2_streams.proofs.brief.records.place_in.Goals as goal

pub returns-then-id_at-id : goal.returns-then-id_at-id
returns-then-id_at-id c =
    let near = c.likely_place-near.result in
    let within : near < length c.args.kinds.now = omega (arith, c.if-near-kinds.true) in
    let same : id_at c.args.runs.now near ≡ c.args.id = omega (arith, c.id_at.ensures, c.if-id_at-id.true) in
    at-place c.args.id near c.args.runs.now c.args.kinds.now c.requires.rising within same
