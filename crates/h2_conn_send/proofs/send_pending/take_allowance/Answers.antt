use Rattle.std.proofs.Common.{◌∙◌, ap}
use Rattle.h2_spec.specs.Stream.{put}
use Rattle.h2_spec.specs.SendPending.{after_sending}
use Rattle.h2_conn_send.proofs.AboveLaws.{both, stays_live}
use Rattle.h2_conn_send.proofs.send_pending.take_allowance.Goals as goal

pub replace-requires : goal.replace-requires
replace-requires g c = stays_live c.allowance-allowance.result c.args.streams.now.last c.args.streams.now.streams c.args.stream.now c.after_sending.result c.requires c.after_sending.ensures

pub returns-clause-sent : goal.returns-clause-sent
returns-clause-sent g c =
    let ss = c.args.streams.now.streams in
    let last = c.args.streams.now.last in
    c.replace.ensures ∙ ap (λ y. both (put y ss) last) (c.after_sending.ensures ∙ ap (λ m. after_sending m c.args.stream.now) c.allowance-allowance.ensures.allowance)
