use Rattle.std.proofs.Common.{◌≡◌, ◌≤◌, ap, arith, subst, sym, ◌∙◌, refl, ◌-◌}
use Rattle.h2_spec.specs.Stream.{Records, put}
use Rattle.h2_spec.specs.SendPending.{after_sending, all_after_sending, allowance}
use Rattle.h2_conn_send.specs.Above.{streams_above, left_above}
use Rattle.h2_conn_send.proofs.AboveLaws.{all_streams, all_left, next_streams, next_left_put, none_streams, none_left, spent_streams, spent_left, records_are, left_within}
use Rattle.h2_conn_send.proofs.send_pending.take_allowances.Goals as goal

pub loop-stream-init : goal.loop-stream-init
loop-stream-init g c =
    let s = c.args.streams.now in
    let rising = c.last-last.ensures.rising in
    record { sent = all_streams 0 s.last c.args.window s.streams rising; left = all_left 0 s.last c.args.window s.streams rising; last = refl }

pub loop-stream-preserved : goal.loop-stream-preserved
loop-stream-preserved g c =
    let l = c.loop-stream in
    let st = c.in-Some.stream in
    let n = allowance l.left st in
    let rising = c.next_stream.ensures.rising in
    let found = sym c.next_stream.ensures.first ∙ c.in-Some.is in
    let sent = c.take_allowance-left.ensures.sent in
    let allowance = c.take_allowance-left.ensures.allowance.0 in
    let streams : c.take_allowance-left.new.streams.streams ≡ put (after_sending n st) l.streams.streams = ap (λ (r : Records). r.streams) sent in
    let last : c.take_allowance-left.new.streams.last ≡ l.streams.last = ap (λ (r : Records). r.last) sent in
    record {
      sent =
          ap (λ m. streams_above st.id (l.left - m) c.take_allowance-left.new.streams.streams) allowance
          ∙ ap (λ ss. streams_above st.id (l.left - n) ss) streams ∙ sym (next_streams l.after 0 l.streams.last l.left l.streams.streams st rising found) ∙ l.invariant.sent;
      left =
          ap (λ m. left_above st.id (l.left - m) c.take_allowance-left.new.streams.streams) allowance
          ∙ ap (λ ss. left_above st.id (l.left - n) ss) streams ∙ sym (next_left_put l.after 0 l.streams.last l.left l.streams.streams st rising found) ∙ l.invariant.left;
      last = last ∙ l.invariant.last;
    }

pub returns-then-left-eq0-clause-left : goal.returns-then-left-eq0-clause-left
returns-then-left-eq0-clause-left g c =
    let l = c.loop-stream in
    let left = sym (ap (λ w. left_above l.after w l.streams.streams) c.if-left-eq0.true ∙ spent_left l.after l.streams.streams) ∙ l.invariant.left in
    (left, omega arith)

pub returns-then-left-eq0-clause-sent : goal.returns-then-left-eq0-clause-sent
returns-then-left-eq0-clause-sent g c =
    let l = c.loop-stream in
    let none = ap (λ w. streams_above l.after w l.streams.streams) c.if-left-eq0.true ∙ spent_streams l.after l.streams.streams in
    records_are l.streams (all_after_sending c.args.window c.args.streams.now.streams) c.args.streams.now.last (sym none ∙ l.invariant.sent) l.invariant.last

pub returns-clause-left : goal.returns-clause-left
returns-clause-left g c =
    let l = c.loop-stream in
    let left = sym (none_left l.after l.left l.streams.streams (sym c.next_stream.ensures.first ∙ c.in_default.is)) ∙ l.invariant.left in
    (left, subst (λ n. n ≤ c.args.window) (sym left) (left_within c.args.window c.args.streams.now.streams))

pub returns-clause-sent : goal.returns-clause-sent
returns-clause-sent g c =
    let l = c.loop-stream in
    let none = none_streams l.after l.left l.streams.streams (sym c.next_stream.ensures.first ∙ c.in_default.is) in
    records_are l.streams (all_after_sending c.args.window c.args.streams.now.streams) c.args.streams.now.last (sym none ∙ l.invariant.sent) l.invariant.last
