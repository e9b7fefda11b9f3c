use Rattle.std.proofs.Common.{◌++◌, rules}
use Rattle.std.proofs.lemmas.Result.{on_ok_weaker}
use Rattle.h2_spec.specs.Change.{answer_frames, connection_frames, frames_of, stream_frames}
use Rattle.h2_conn_send.proofs.KeptLaws.{kept-either, kept-more, kept-same, kept-then}
use Rattle.h2_conn_send.proofs.SendChangeLaws.{in-outcome}
use Rattle.h2_conn_send.proofs.ShortLaws.{second-short, short-append}
use Rattle.h2_conn_send.proofs.send_change.write_change.Goals as goal

pub returns-clause-written : goal.returns-clause-written
unfolding frames_of
returns-clause-written g c =
    let change = c.args.change.now in
    let first = connection_frames change.connection_frame in
    let second = stream_frames change.stream_frame in
    let answer = answer_frames c.args.book.now change.answer in
    let out = g.O.Outgoing.octets c.args.out.now in
    let one = g.O.Outgoing.octets c.write_connection_frame.new.out in
    let two = g.O.Outgoing.octets c.write_stream_frame.new.out in
    let three = g.O.Outgoing.octets c.write_answer.new.out in
    let both = in-outcome out one two first second c.in_ok-write_connection_frame.ensures.written.ok c.in_ok-write_stream_frame.ensures.ok in
    let kept = kept-then out one two (kept-more out one _ c.in_ok-write_connection_frame.ensures.written.ok) (kept-more one two _ c.in_ok-write_stream_frame.ensures.ok) in
    let last = c.write_answer.ensures.written in
    record {
      ok = on_ok_weaker c.write_answer.result (λ e. in-outcome out two three (first ++ second) answer both e) last.ok;
      kept = kept-then out two three kept (kept-either c.write_answer.result two three _ last.ok last.err);
    }

pub returns-clause-short : goal.returns-clause-short
unfolding frames_of
returns-clause-short g c =
    let change = c.args.change.now in
    let first = connection_frames change.connection_frame in
    let second = stream_frames change.stream_frame in
    let answer = answer_frames c.args.book.now change.answer in
    let both = short-append first second c.in_ok-write_connection_frame.ensures.short (second-short change.stream_frame) in
    on_ok_weaker c.write_answer.result (λ e. short-append (first ++ second) answer both e) c.write_answer.ensures.short

pub returns-in_err-write_connection_frame-clause-written : goal.returns-in_err-write_connection_frame-clause-written
returns-in_err-write_connection_frame-clause-written g c = record {
  ok = search rules;
  kept = kept-same (g.O.Outgoing.octets c.args.out.now) (g.O.Outgoing.octets c.write_connection_frame.new.out) c.in_err-write_connection_frame.ensures.written.err;
}

pub returns-in_err-write_stream_frame-clause-written : goal.returns-in_err-write_stream_frame-clause-written
returns-in_err-write_stream_frame-clause-written g c =
    let out = g.O.Outgoing.octets c.args.out.now in
    let one = g.O.Outgoing.octets c.write_connection_frame.new.out in
    let two = g.O.Outgoing.octets c.write_stream_frame.new.out in
    record { ok = search rules; kept = kept-then out one two (kept-more out one _ c.in_ok-write_connection_frame.ensures.written.ok) (kept-same one two c.in_err-write_stream_frame.ensures.err) }
