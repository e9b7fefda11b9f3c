use Rattle.std.proofs.Common.{◌-◌, ◌++◌, ◌∙◌, ap, sym, arith, append_assoc, rules}
use Rattle.std.proofs.Math.Seq.{take-length}
use Rattle.std.proofs.lemmas.Grind.{flat_map-append}
use Rattle.std.proofs.lemmas.List.{append-nil}
use Rattle.h2_spec.specs.Frames.Frame.{frame_octets, frames_octets}
use Rattle.h2_spec.specs.SendPending.{allowance, allowance_frames}
use Rattle.h2_streams.specs.Kept.{ready_above}
use Rattle.h2_conn_send.specs.Above.{frames_above}
use Rattle.h2_conn_rules.specs.Sound.{HasBody}
use Rattle.h2_conn_send.proofs.AboveLaws.{all_frames, next_frames, none_frames, spent_frames, next_above, found_all, found_within}
use Rattle.h2_conn_send.proofs.KeptLaws.{kept-then}
use Rattle.h2_conn_send.proofs.send_pending.write_ready.Goals as goal

pub loop-stream-init : goal.loop-stream-init
loop-stream-init g c =
    let a = c.args in
    let s = a.streams.now in
    record {
      sent = ap (λ fs. (g.O.Outgoing.octets a.out.now) ++ frames_octets fs) (all_frames a.book.now a.size 0 s.last a.window s.streams c.last-last.ensures.rising);
      kept = take-length (g.O.Outgoing.octets a.out.now);
    }

pub returns-then-left-eq0 : goal.returns-then-left-eq0
returns-then-left-eq0 g c =
    let a = c.args in
    let l = c.loop-stream in
    let ss = a.streams.now.streams in
    let none = ap (λ w. frames_above a.book.now a.size l.after w ss) c.if-left-eq0.true ∙ spent_frames a.book.now a.size l.after ss in
    record { ok = sym (append-nil (g.O.Outgoing.octets l.out)) ∙ ap (λ fs. (g.O.Outgoing.octets l.out) ++ frames_octets fs) (sym none) ∙ l.invariant.sent; kept = l.invariant.kept }

pub write_next-requires : goal.write_next-requires
write_next-requires g c =
    let a = c.args in
    let l = c.loop-stream in
    λ k. (
      search rules,
      (
        c.requires.size,
        found_all (HasBody a.book.now) (ready_above l.after) a.streams.now.streams c.in-Some.stream c.requires.bodies (sym c.next_stream.ensures.first ∙ c.in-Some.is),
      ),
    )

pub loop-stream-smaller : goal.loop-stream-smaller
loop-stream-smaller g c =
    let a = c.args in
    let l = c.loop-stream in
    let s = a.streams.now in
    let found = sym c.next_stream.ensures.first ∙ c.in-Some.is in
    let above = next_above l.after s.streams c.in-Some.stream found in
    let within = found_within (ready_above l.after) s.last s.streams c.in-Some.stream c.last-last.ensures.rising found in
    omega (arith, above, within)

pub loop-stream-preserved : goal.loop-stream-preserved
loop-stream-preserved g c =
    let a = c.args in
    let l = c.loop-stream in
    let s = a.streams.now in
    let ss = s.streams in
    let st = c.in-Some.stream in
    let found = sym c.next_stream.ensures.first ∙ c.in-Some.is in
    let here = allowance_frames a.book.now a.size (allowance l.left st) st in
    let behind = frames_above a.book.now a.size st.id (l.left - allowance l.left st) ss in
    let next = next_frames a.book.now a.size l.after 0 s.last l.left ss st c.last-last.ensures.rising found in
    record {
      sent =
          ap (λ n. (g.O.Outgoing.octets c.write_next.new.out) ++ frames_octets (frames_above a.book.now a.size st.id (l.left - n) ss)) c.in_ok-left.ensures.allowance.0
          ∙ ap (λ xs. xs ++ frames_octets behind) c.in_ok-left.ensures.written.ok
          ∙ append_assoc (g.O.Outgoing.octets l.out) (frames_octets here) (frames_octets behind)
          ∙ ap (λ xs. (g.O.Outgoing.octets l.out) ++ xs) (sym (flat_map-append frame_octets here behind))
          ∙ ap (λ fs. (g.O.Outgoing.octets l.out) ++ frames_octets fs) (sym next)
          ∙ l.invariant.sent;
      kept = kept-then (g.O.Outgoing.octets a.out.now) (g.O.Outgoing.octets l.out) (g.O.Outgoing.octets c.write_next.new.out) l.invariant.kept c.write_next.ensures.written.kept;
    }

pub returns : goal.returns
returns g c =
    let a = c.args in
    let l = c.loop-stream in
    let ss = a.streams.now.streams in
    let none = none_frames a.book.now a.size l.after l.left ss (sym c.next_stream.ensures.first ∙ c.in_default.is) in
    record { ok = sym (append-nil (g.O.Outgoing.octets l.out)) ∙ ap (λ fs. (g.O.Outgoing.octets l.out) ++ frames_octets fs) (sym none) ∙ l.invariant.sent; kept = l.invariant.kept }
