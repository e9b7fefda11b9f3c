use Rattle.std.proofs.Math.Seq.{take-length}
use Rattle.std.proofs.Common.{◌≡◌, ◌++◌, ◌∙◌, List, ap, append-nil, arith, rules, sym}
use Rattle.h2_spec.specs.declared.streams.Stream.{Stream}
use Rattle.h2_spec.specs.Frames.Frame.{Frame, frames_octets}
use Rattle.h2_spec.specs.Stream.{Records, octets_waiting, put, with_record}
use Rattle.h2_conn_rules.specs.Sound.{HasBody}
use Rattle.h2_conn_send.proofs.AloneLaws.{after-none, all-put, left-none, none-put, sent-none}
use Rattle.h2_conn_send.proofs.send_update.put_and_send.Goals as goal

pub put_alone-requires : goal.put_alone-requires
put_alone-requires g c = λ k. (search rules, (c.requires.size, (c.requires.few, (c.requires.made, (all-put (HasBody c.args.book.now) c.args.stream c.args.streams.now.streams c.requires.bodies, c.none_sends.ensures c.if-not-none_sends.false)))))

pub returns : goal.returns
returns g c =
    let a = c.args in
    let out = g.O.Outgoing.octets a.out.now in
    let after = put a.stream a.streams.now.streams in
    let nothing : octets_waiting a.stream ≡ 0 = omega (arith, c.octets_waiting.ensures, c.if-octets_waiting-gt0.false) in
    let none = none-put a.window a.stream a.streams.now.streams nothing (c.none_sends.ensures c.if-not-none_sends.false) in
    let left = left-none a.window after none in
    record {
      count = (omega (arith, left), omega arith);
      sent = sym (ap (λ (fs : List Frame). out ++ frames_octets fs) (sent-none a.book.now a.size a.window after none) ∙ append-nil out);
      records = c.in_ok-put.ensures.ok ∙ sym (ap (λ (ss : List Stream). let r : Records = record (with_record a.stream a.streams.now) { streams = ss } in r) (after-none a.window after none));
      kept = take-length out;
      err = search rules;
    }
