-- A change is sent: its frames one after another, and what the records have to be for it.
use Rattle.std.proofs.Common.{◌≡◌, ◌≤◌, ◌-◌, ℕ, ◌++◌, List, [], ◌∷◌, IfOk, Result, Ok, Err, arith, sym, ap, subst, ◌∙◌, append_assoc}
use Rattle.std.proofs.lemmas.Grind.{flat_map-append}
use Rattle.std.specs.List.{AllByRecursion}
use Rattle.h2_spec.specs.declared.connection.ConnectionState.{ConnectionState}
use Rattle.h2_spec.specs.declared.flow.LocalSettings.{LocalSettings}
use Rattle.h2_spec.specs.declared.reactions.Change.{Change}
use Rattle.h2_spec.specs.declared.reactions.RecordUpdate.{RecordUpdate}
use Rattle.h2_spec.specs.declared.reactions.RecordUpdate.TheVariants.{Unchanged, Put, Shift, Receive}
use Rattle.h2_spec.specs.declared.streams.Stream.{Stream}
use Rattle.h2_spec.specs.Requests.Answer.{Entry}
use Rattle.h2_spec.specs.Frames.Frame.{Frame, frames_octets, frame_octets}
use Rattle.h2_spec.specs.SettingsFrame.{comes_into_force}
use Rattle.h2_spec.specs.Stream.{Records}
use Rattle.h2_spec.specs.SendPending.{window_left}
use Rattle.h2_spec.specs.Window.{sendable}
use Rattle.h2_conn_send.specs.Sending.{CanApply, CanSend, CanUndo, open_window, sent_count}
use Rattle.h2_conn_rules.specs.Sound.{AreInRange, AreSound, HasBody, InForce, IsSoundChange, IsSoundRecordUpdate, IsSoundState, in_force, updated_records}
use Rattle.h2_conn_send.proofs.UndoLaws.{can-receive-back, can-shift-back, overflow-back}
use Rattle.h2_conn_rules.proofs.SoundLaws.{can-receive, changed-sound, in-force-sound, update-can-shift, updated-streams}

-- frames, and then others
pub in-outcome : (out out' out'' : List ℕ) (fs gs : List Frame) → out' ≡ out ++ frames_octets fs → out'' ≡ out' ++ frames_octets gs → out'' ≡ out ++ frames_octets (fs ++ gs)
in-outcome out out' out'' fs gs first second =
    second ∙ ap (λ (o : List ℕ). o ++ frames_octets gs) first
    ∙ append_assoc out (frames_octets fs) (frames_octets gs) ∙ ap (λ (o : List ℕ). out ++ o) (sym (flat_map-append frame_octets fs gs))

-- octets that a window lets pass, where it is the one that these counts leave open
pub paid-within : {E : Type 0} (r : Result ℕ E) (core : ConnectionState) (window : ℕ) (streams after : List Stream) → streams ≡ after → (window ≡ open_window core) × (window ≤ sendable core.send) → IfOk r (λ n. (n ≡ window - window_left window streams) × (n ≤ window)) → IfOk r (λ n. (n ≡ sent_count core after) × (n ≤ sendable core.send))
paid-within (Err e) core window streams after moved passes h = tt
paid-within (Ok n) core window streams after moved passes h =
    let least = h.1 in
    let most = passes.1 in
    (h.0 ∙ ap (λ (ss : List Stream). window - window_left window ss) moved ∙ ap (λ (w : ℕ). w - window_left w after) passes.0, omega (arith, least, most))

can-apply : (book : List Entry) (core : ConnectionState) (r : Records) (c : Change) → IsSoundState book core r → IsSoundChange book r (in_force core) c → CanApply r c.record_update
can-apply book core r c state sound = at c.record_update sound.1
  where
    at : (t : RecordUpdate) → IsSoundRecordUpdate book r (in_force core) c.core t → CanApply r t
    at Unchanged h = tt
    at (Put st) h = h.3
    at (Shift from to) h = update-can-shift book core c.core r from to state h
    at (Receive from to) h = absurd h

can-undo : (book : List Entry) (core : ConnectionState) (r : Records) (c : Change) → IsSoundState book core r → IsSoundChange book r (in_force core) c → CanUndo r c.record_update
can-undo book core r c state sound = at c.record_update sound.1
  where
    at : (t : RecordUpdate) → IsSoundRecordUpdate book r (in_force core) c.core t → CanUndo r t
    at Unchanged h = tt
    at (Put st) h = tt
    at (Shift from to) h =
        subst (λ w. CanUndo r (Shift w to)) (sym h.1) (can-shift-back book (in_force core) to r.streams state.records, overflow-back book (in_force core) to r.streams state.records)
    at (Receive from to) h = absurd h

sound-bodies : (book : List Entry) (f : InForce) (ss : List Stream) → AreSound book f ss → AllByRecursion (HasBody book) ss
sound-bodies book f [] s = tt
sound-bodies book f (x ∷ xs) s = (s.0.1, sound-bodies book f xs s.1)

-- a sound change of the records can be made and undone, and the pending output after it can be sent
pub can-send : (book : List Entry) (core : ConnectionState) (r : Records) (c : Change) → IsSoundState book core r → IsSoundChange book r (in_force core) c → CanSend book r c.record_update
can-send book core r c state sound =
    let after = changed-sound book core r c state sound in
    record {
      made = can-apply book core r c state sound;
      undone = can-undo book core r c state sound;
      bodies = subst (AllByRecursion (HasBody book)) (updated-streams c.record_update r) (sound-bodies book (in_force c.core) (updated_records c.record_update r).streams after.records);
    }

-- the server's settings can come into force and be taken back, and the pending output can then be sent
pub can-come : (book : List Entry) (core : ConnectionState) (own : LocalSettings) (r : Records) → AreInRange own → IsSoundState book core r → CanSend book r (Receive core.own.window own.window)
can-come book core own r range state =
    let most = state.counts.4.0 in
    record {
      made = can-receive book (in_force core) own.window r.streams range.0 state.records;
      undone = can-receive-back book (in_force core) own.window r.streams most state.records;
      bodies = sound-bodies book (in_force (comes_into_force core own).core) (updated_records (Receive core.own.window own.window) r).streams (in-force-sound book core own r range state).records;
    }
