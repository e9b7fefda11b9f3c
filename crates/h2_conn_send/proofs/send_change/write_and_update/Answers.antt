use Rattle.std.proofs.Common.{◌++◌, ◌∙◌, List, ap}
use Rattle.std.proofs.lemmas.Result.{on_ok_weaker}
use Rattle.h2_spec.specs.declared.streams.Stream.{Stream}
use Rattle.h2_spec.specs.Change.{frames_of, updated_streams}
use Rattle.h2_spec.specs.Frames.Frame.{frames_octets}
use Rattle.h2_spec.specs.SendPending.{sent_frames}
use Rattle.h2_conn_send.specs.Sending.{waiting_frames, sent_records}
use Rattle.h2_conn_rules.proofs.SoundLaws.{updated-streams}
use Rattle.h2_conn_rules.specs.Sound.{updated_records}
use Rattle.h2_conn_send.proofs.SendChangeLaws.{in-outcome, paid-within}
use Rattle.h2_conn_send.proofs.ShortLaws.{short-append, sent_frames-short}
use Rattle.h2_conn_send.proofs.send_change.write_and_update.Goals as goal

pub returns-clause-sends : goal.returns-clause-sends
returns-clause-sends g c =
    let a = c.args in
    let book = a.book.now in
    let change = a.change.now in
    let core = change.core in
    let r = updated_records change.record_update a.streams.now in
    let now = updated_streams change.record_update a.streams.now.streams in
    let moved = updated-streams change.record_update a.streams.now in
    let window = c.open_window-window.ensures.window in
    let did = c.update_and_send.ensures in
    let written = g.O.Outgoing.octets c.write_change.new.out in
    let is_sent = ap (λ (ss : List Stream). written ++ frames_octets (sent_frames book core.peer.frame c.open_window-window.result ss)) moved
    ∙ ap (λ w. written ++ frames_octets (sent_frames book core.peer.frame w now)) window.0 in
    record {
      count = paid-within c.update_and_send.result core c.open_window-window.result r.streams now moved window did.count;
      sent = on_ok_weaker c.update_and_send.result (λ sent. in-outcome (g.O.Outgoing.octets a.out.now) written (g.O.Outgoing.octets c.update_and_send.new.out) (frames_of book change) (waiting_frames book core now) c.in_ok-write_change.ensures.written.ok
          (sent ∙ is_sent)) did.sent;
      short = on_ok_weaker c.update_and_send.result (λ _. short-append (frames_of book change) (waiting_frames book core now)
          c.in_ok-write_change.ensures.short (sent_frames-short book core.peer.frame _ now c.requires.frame.1)) did.sent;
      records = on_ok_weaker c.update_and_send.result (λ e. e ∙ ap (λ w. sent_records w r) window.0) did.records;
    }
