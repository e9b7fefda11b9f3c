use Rattle.std.proofs.Common.{◌-◌, ◌++◌, ◌∙◌, ap, sym, arith, rules}
use Rattle.std.proofs.lemmas.List.{append-nil}
use Rattle.h2_spec.specs.Frames.Frame.{frames_octets}
use Rattle.h2_spec.specs.Stream.{Records}
use Rattle.h2_conn_send.proofs.AloneLaws.{after-none, left-none, sent-none}
use Rattle.std.proofs.Math.Seq.{take-length}
use Rattle.h2_conn_send.proofs.send_pending.send_ready.Goals as goal

pub returns-then-none_sends : goal.returns-then-none_sends
returns-then-none_sends g c =
    let a = c.args in
    let r = a.streams.now in
    let out = g.O.Outgoing.octets a.out.now in
    let quiet = c.none_sends.ensures c.if-none_sends.true in
    let left = left-none a.window r.streams quiet in
    record {
      count = (omega (arith, left), omega arith);
      sent = sym (ap (λ fs. out ++ frames_octets fs) (sent-none a.book.now a.size a.window r.streams quiet) ∙ append-nil out);
      records = ap (λ ss. let s : Records = record r { streams = ss } in s) (sym (after-none a.window r.streams quiet));
      kept = take-length out;
      err = search rules;
    }

pub returns-in_err-write_ready : goal.returns-in_err-write_ready
returns-in_err-write_ready g c = record { count = search rules; sent = search rules; records = search rules; kept = c.write_ready.ensures.kept; err = search rules }

pub returns : goal.returns
returns g c =
    let left = c.take_allowances.ensures.left in
    record {
      count = (ap (λ n. c.args.window - n) left.0, omega arith);
      sent = search rules;
      records = search rules;
      kept = c.write_ready.ensures.kept;
      err = search rules;
    }
