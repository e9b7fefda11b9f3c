use Rattle.std.proofs.Common.{◌∙◌, arith, sym}
use Rattle.std.proofs.lemmas.List.{take_all}
use Rattle.h2_streams.specs.Sends.{with_sends}
use Rattle.h2_streams.proofs.SendLaws.{joined-more, length-joined}
use Rattle.h2_streams.proofs.sharing.shared.joined.Goals as goal

pub loop-i-preserved : goal.loop-i-preserved
loop-i-preserved g c =
    let rs = c.args.records.now in
    let ws = c.args.sends.now in
    let i = c.loop-i.i in
    let more = joined-more rs ws i c.index-records-i.result c.index-sends-i.result c.requires (omega (arith, c.loop-i-test.true)) c.index-records-i.is c.index-sends-i.is in
    rw (c.in_ok-push.ensures.items, c.with_send.ensures, c.loop-i.invariant) (sym more)

pub returns : goal.returns
returns g c =
    let rs = c.args.records.now in
    let ws = c.args.sends.now in
    let long = length-joined rs ws c.requires in
    c.loop-i.invariant ∙ take_all c.loop-i.i (with_sends rs ws) (omega (arith, long, c.loop-i-test.false))
