use Rattle.std.proofs.Common.{◌≡◌, ℕ, ap, rules, subst, sym, ◌∙◌}
use Rattle.std.specs.List.{AllByRecursion}
use Rattle.h2_spec.specs.Stream.{Records}
use Rattle.h2_conn_rules.specs.Sound.{updated_records}
use Rattle.h2_conn_send.specs.declared.send_update.Windows.{Windows}
use Rattle.h2_conn_send.specs.declared.send_update.Windows.TheVariants.{Send, Receive}
use Rattle.h2_conn_send.specs.Moves.{move_of}
use Rattle.h2_conn_send.specs.Sending.{CanApply, CanUndo}
use Rattle.h2_conn_rules.specs.Sound.{HasBody}
use Rattle.h2_conn_rules.proofs.SoundLaws.{updated-streams}
use Rattle.h2_conn_send.proofs.UndoLaws.{received-back, shifted-back}
use Rattle.h2_conn_send.proofs.send_update.move_and_send.Goals as goal

can-move-back : (windows : Windows) (from to : ℕ) (r : Records) → CanUndo r (move_of windows from to) → CanApply (updated_records (move_of windows from to) r) (move_of windows to from)
can-move-back Send from to r h = h
can-move-back Receive from to r h = h

moved-back : (windows : Windows) (from to : ℕ) (r : Records) → updated_records (move_of windows to from) (updated_records (move_of windows from to) r) ≡ r
moved-back Send from to r = ap (λ ss. let s : Records = record r { streams = ss } in s) (shifted-back from to r.streams)
moved-back Receive from to r = ap (λ ss. let s : Records = record r { streams = ss } in s) (received-back from to r.streams)

pub send_ready-requires : goal.send_ready-requires
send_ready-requires g c = λ k.
    let a = c.args in
    let moved = move_of a.windows a.initial.0 a.initial.1 in
    let bodies = subst (AllByRecursion (HasBody a.book.now)) (sym (ap (λ (r : Records). r.streams) c.move_windows.ensures ∙ updated-streams moved a.streams.now)) c.requires.bodies in
    (search rules, (c.requires.size, bodies))

pub move_windows-requires-in-Err : goal.move_windows-requires-in-Err
move_windows-requires-in-Err g c =
    let a = c.args in
    let back = move_of a.windows a.initial.1 a.initial.0 in
    subst (λ (r : Records). CanApply r back) (sym (c.in-Err.ensures.err ∙ c.move_windows.ensures)) (can-move-back a.windows a.initial.0 a.initial.1 a.streams.now c.requires.undone)

-- the moved records are what is sent from
pub returns-in-Ok : goal.returns-in-Ok
returns-in-Ok g c =
    let sent = rw c.move_windows.ensures at c.in-Ok.ensures in
    record { count = sent.count; sent = sent.sent; records = sent.records; kept = sent.kept; err = search rules }

pub returns-in-Err : goal.returns-in-Err
returns-in-Err g c =
    let a = c.args in
    let back = move_of a.windows a.initial.1 a.initial.0 in
    record {
      count = search rules;
      sent = search rules;
      records = search rules;
      kept = c.in-Err.ensures.kept;
      err = c.move_windows-in-Err.ensures ∙ ap (updated_records back) (c.in-Err.ensures.err ∙ c.move_windows.ensures) ∙ moved-back a.windows a.initial.0 a.initial.1 a.streams.now;
    }
