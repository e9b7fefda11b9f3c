use Rattle.std.proofs.Common.{◌∙◌, ap, sym, Some}
use Rattle.h2_conn_send.proofs.AboveLaws.{next_is, next_known, next_above}
use Rattle.h2_conn_send.proofs.send_pending.next_stream.Goals as goal

pub returns-clause-first : goal.returns-clause-first
returns-clause-first g c =
    let a = c.args in
    ap (λ st. Some st) c.stream_at.ensures.value ∙ sym (next_is a.after a.streams.now.last a.streams.now.streams c.in_ok-id.id c.last-last.ensures.rising (sym c.next_ready.ensures ∙ c.in_ok-id.was))

pub returns-clause-above : goal.returns-clause-above
returns-clause-above g c = next_above c.args.after c.args.streams.now.streams c.stream_at.result (sym (returns-clause-first g c))

pub returns-clause-known : goal.returns-clause-known
returns-clause-known g c = next_known c.args.after c.args.streams.now.last c.args.streams.now.streams c.stream_at.result c.last-last.ensures.rising (sym (returns-clause-first g c))
