use Rattle.std.proofs.Common.{◌≡◌, ◌≤◌, ◌++◌, ◌∙◌, ℕ, List, length, ap, sym, subst, arith, rules}
use Rattle.std.proofs.lemmas.List.{append-nil}
use Rattle.h2_spec.specs.Requests.Answer.{picked}
use Rattle.h2_spec.specs.Frames.Frame.{frames_octets}
use Rattle.h2_spec.specs.SendPending.{allowance_frames}
use Rattle.h2_spec.specs.Stream.{octets_waiting}
use Rattle.h2_conn_send.specs.Prepared.{content, IsData}
use Rattle.h2_conn_send.proofs.AboveLaws.{body_frames, no_frames}
use Rattle.h2_conn_send.proofs.PreparedLaws.{content-data, data-made}
use Rattle.std.proofs.Math.Seq.{take-length}
use Rattle.h2_conn_send.proofs.send_pending.write_next.Goals as goal

pub write_allowance-requires : goal.write_allowance-requires
write_allowance-requires g c =
    let body = (picked c.args.book.now c.args.stream.now.pick).body in
    λ k. (search rules, (c.requires.size, (c.if-allowance-gt0.true, (c.allowance-allowance.ensures.within.1, (subst IsData (sym c.body_frame.ensures) (data-made body), subst (λ (xs : List ℕ). octets_waiting c.args.stream.now ≤ length xs) (sym (ap content c.body_frame.ensures ∙ content-data body)) c.requires.body.1)))))

pub returns-in_ok-write_allowance-clause-written : goal.returns-in_ok-write_allowance-clause-written
returns-in_ok-write_allowance-clause-written g c =
    let a = c.args in
    let body = (picked a.book.now a.stream.now.pick).body in
    let frames = body_frames a.book.now a.size c.allowance-allowance.result a.stream.now (content c.body_frame.result.now) (ap content c.body_frame.ensures ∙ content-data body) in
    record {
      ok = c.in_ok-write_allowance.ensures.ok ∙ ap (λ fs. (g.O.Outgoing.octets a.out.now) ++ frames_octets fs) (frames ∙ ap (λ n. allowance_frames a.book.now a.size n a.stream.now) c.allowance-allowance.ensures.allowance);
      kept = c.write_allowance.ensures.kept;
    }

pub returns-else-allowance-gt0-clause-written : goal.returns-else-allowance-gt0-clause-written
returns-else-allowance-gt0-clause-written g c =
    let a = c.args in
    let less : c.allowance-allowance.result ≤ 0 = c.if-allowance-gt0.false in
    let none : c.allowance-allowance.result ≡ 0 = omega (arith, less) in
    let nothing = ap (λ n. allowance_frames a.book.now a.size n a.stream.now) (sym c.allowance-allowance.ensures.allowance ∙ none) ∙ no_frames a.book.now a.size a.stream.now in
    record {
      ok = sym (ap (λ fs. (g.O.Outgoing.octets a.out.now) ++ frames_octets fs) nothing ∙ append-nil (g.O.Outgoing.octets a.out.now));
      kept = take-length (g.O.Outgoing.octets a.out.now);
    }

pub returns-in_err-write_allowance-clause-written : goal.returns-in_err-write_allowance-clause-written
returns-in_err-write_allowance-clause-written g c = record { ok = search rules; kept = c.write_allowance.ensures.kept }
