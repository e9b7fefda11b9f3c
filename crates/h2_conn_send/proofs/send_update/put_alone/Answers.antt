use Rattle.std.proofs.Common.{◌≤◌, ◌++◌, ◌∙◌, ℕ, ap, sym, subst, arith, rules}
use Rattle.h2_spec.specs.declared.streams.Stream.{Stream}
use Rattle.h2_spec.specs.Frames.Frame.{frames_octets}
use Rattle.h2_spec.specs.Stream.{octets_waiting, with_record}
use Rattle.h2_spec.specs.Window.{sendable}
use Rattle.h2_streams.specs.Put.{CanPut}
use Rattle.h2_conn_send.proofs.AloneLaws.{allowance-least, can-put-sent, count-alone, records-alone, sent-alone}
use Rattle.h2_conn_send.proofs.send_update.put_alone.Goals as goal

pub after_sending-requires-clause-waits : goal.after_sending-requires-clause-waits
after_sending-requires-clause-waits g c =
    let st = c.args.stream.now in
    subst (λ (n : ℕ). n ≤ octets_waiting st) (sym c.in_ok-allowance.ensures.allowance.0) (allowance-least c.args.window st).0

pub after_sending-requires-clause-within : goal.after_sending-requires-clause-within
after_sending-requires-clause-within g c =
    let st = c.args.stream.now in
    let is = c.in_ok-allowance.ensures.allowance in
    let within = is.1 in
    let few = c.requires.few in
    (subst (λ (n : ℕ). n ≤ sendable st.numbers.send) (sym is.0) (allowance-least c.args.window st).1, omega (arith, few, within))

pub put-requires : goal.put-requires
put-requires g c =
    let st = c.args.stream.now in
    let n = c.in_ok-allowance.allowance in
    let waits = subst (λ (k : ℕ). k ≤ octets_waiting st) (sym c.in_ok-allowance.ensures.allowance.0) (allowance-least c.args.window st).0 in
    subst (λ (y : Stream). CanPut y c.args.streams.now) (sym c.after_sending.ensures) (can-put-sent n st c.args.streams.now waits c.requires.made)

pub returns : goal.returns
returns g c =
    let a = c.args in
    let r = a.streams.now in
    let n = c.in_ok-allowance.ensures.allowance in
    let alone = c.requires.alone in
    record {
      count = (n.0 ∙ count-alone a.window a.stream.now r.streams alone, n.1);
      sent = c.in_ok-allowance.ensures.written.ok ∙ ap (λ fs. (g.O.Outgoing.octets a.out.now) ++ frames_octets fs) (sym (sent-alone a.book.now a.size a.window a.stream.now r.streams alone));
      records = c.in_ok-put.ensures.ok ∙ ap (λ (y : Stream). with_record y r) c.after_sending.ensures
          ∙ records-alone a.window c.in_ok-allowance.allowance a.stream.now r alone n.0;
      kept = c.write_next.ensures.written.kept;
      err = search rules;
    }

pub returns-in_err-allowance : goal.returns-in_err-allowance
returns-in_err-allowance g c = record { count = search rules; sent = search rules; records = search rules; kept = c.write_next.ensures.written.kept; err = search rules }

pub returns-in_err-put : goal.returns-in_err-put
returns-in_err-put g c = record { count = search rules; sent = search rules; records = search rules; kept = c.write_next.ensures.written.kept; err = search rules }
