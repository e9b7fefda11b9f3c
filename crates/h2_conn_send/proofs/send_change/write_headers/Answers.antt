use Rattle.std.proofs.Common.{◌≤◌, ◌++◌, ◌∙◌, ℕ, List, Bool, false, length, ap, rules, sym, subst}
use Rattle.std.proofs.lemmas.Result.{on_ok_weaker}
use Rattle.std.specs.Prelude.{slice_index}
use Rattle.h2_spec.specs.Requests.Answer.{picked}
use Rattle.h2_spec.specs.Change.{response}
use Rattle.h2_spec.specs.Frames.Frame.{frame_octets}
use Rattle.h2_conn_send.specs.Prepared.{on_stream}
use Rattle.h2_conn_send.proofs.PreparedLaws.{head-flags, head-length, headers-on_stream, short-response, updated-response}
use Rattle.h2_conn_send.proofs.send_change.write_headers.Goals as goal

pub flags_of-requires : goal.flags_of-requires
flags_of-requires g c =
    subst (λ (octets : List ℕ). 9 ≤ length octets) (sym c.headers-headers.ensures.headers) (head-length (response false 0 (picked c.args.book.now c.args.answer.pick)))

pub write_prepared-requires : goal.write_prepared-requires
write_prepared-requires g c = λ k. (
  search rules,
  subst (λ (octets : List ℕ). 9 ≤ length octets) (sym c.headers-headers.ensures.headers) (head-length (response false 0 (picked c.args.book.now c.args.answer.pick))),
)

pub returns-then-answer-clause-written : goal.returns-then-answer-clause-written
returns-then-answer-clause-written g c =
    let answer = c.args.answer in
    let a = picked c.args.book.now answer.pick in
    let flags = c.flags_of.ensures ∙ ap (λ (octets : List ℕ). slice_index octets 4) c.headers-headers.ensures.headers ∙ head-flags (response false 0 a) in
    let frame = updated-response answer.id c.flags_of.result c.block-block.result.now a flags c.block-block.ensures.block ∙ ap (λ (t : Bool). frame_octets (response t answer.id a)) (sym c.if-answer.true) in
    record {
      ok = on_ok_weaker c.append_frame.result (λ sent. sent ∙ ap (λ (xs : List ℕ). (g.O.Outgoing.octets c.args.out.now) ++ xs) frame) c.append_frame.ensures.ok;
      err = c.append_frame.ensures.no_memory;
    }

pub returns-then-answer-clause-short : goal.returns-then-answer-clause-short
returns-then-answer-clause-short g c =
    short-response c.args.answer.size_update_pending c.args.answer.id (picked c.args.book.now c.args.answer.pick) c.headers-headers.ensures.within

pub returns-else-answer-clause-written : goal.returns-else-answer-clause-written
returns-else-answer-clause-written g c =
    let answer = c.args.answer in
    let a = picked c.args.book.now answer.pick in
    let frame = ap (on_stream answer.id) c.headers-headers.ensures.headers ∙ headers-on_stream answer.id a ∙ ap (λ (t : Bool). frame_octets (response t answer.id a)) (sym c.if-answer.false) in
    record {
      ok = on_ok_weaker c.write_prepared.result (λ sent. sent ∙ ap (λ (xs : List ℕ). (g.O.Outgoing.octets c.args.out.now) ++ xs) frame) c.write_prepared.ensures.ok;
      err = c.write_prepared.ensures.err;
    }
