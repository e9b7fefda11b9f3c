use Rattle.std.proofs.Common.{◌∙◌, ap, rules}
use Rattle.std.proofs.Math.Seq.{take-length}
use Rattle.h2_spec.specs.Stream.{with_record}
use Rattle.h2_conn_send.proofs.send_update.put_among.Goals as goal

pub returns-in_err-after : goal.returns-in_err-after
returns-in_err-after g c = record { count = search rules; sent = search rules; records = search rules; kept = take-length (g.O.Outgoing.octets c.args.out.now); err = search rules }

pub returns-in_err-put : goal.returns-in_err-put
returns-in_err-put g c = record { count = search rules; sent = search rules; records = search rules; kept = take-length (g.O.Outgoing.octets c.args.out.now); err = search rules }

pub returns-in_err-count : goal.returns-in_err-count
returns-in_err-count g c = record { count = search rules; sent = search rules; records = search rules; kept = c.send_ready.ensures.kept; err = search rules }

-- the copy with the record put is what is sent from
pub returns : goal.returns
returns g c =
    let copied = c.in_ok-put.ensures.ok ∙ ap (with_record c.args.stream) c.in_ok-after.ensures in
    let sent = rw copied at c.in_ok-count.ensures in
    record { count = sent.count; sent = sent.sent; records = sent.records; kept = sent.kept; err = search rules }
