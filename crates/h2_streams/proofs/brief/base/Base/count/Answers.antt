use Rattle.std.proofs.Common.{◌≤◌, ap, arith, length}
use Rattle.h2_streams.specs.Joined.{Base}
use Rattle.h2_streams.proofs.BaseLaws.{rising-length}
use Rattle.h2_streams.proofs.JoinedPut.{length-joined}
use Rattle.h2_streams.proofs.brief.base.Base.count.Goals as goal

pub overflow_add-result : goal.overflow_add-result
overflow_add-result g c =
    let b = c.args.self.now in
    let own = c.args.own.now in
    let all = length-joined b.records own.streams b.front in
    let few = rising-length 0 own.last _ c.requires.is_joined.rising in
    let records = ap (λ (x : Base). length x.records) c.self.view_is in
    let front = ap (λ (x : Base). x.front) c.self.view_is in
    omega (arith, all, few, records, front, c.count.ensures, c.count-2.ensures, c.last-last.ensures.value)
