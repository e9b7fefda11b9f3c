use Rattle.std.proofs.Common.{◌∙◌, ap, arith, length, sym}
use Rattle.h2_streams.proofs.BriefLaws.{briefs-length}
use Rattle.h2_streams.proofs.brief.records.BriefRecords.count.Goals as goal

pub returns : goal.returns
returns g c =
    let s = c.self.inside in
    let many = briefs-length 0 s.runs.items s.kinds.items in
    let same = ap length c.self.view_is in
    omega (arith, many, same, c.len.ensures)
