use Rattle.std.proofs.Common.{◌≡◌, ℕ, List, Result, refl, subst, sym}
use Rattle.std.specs.Prelude.{OnOk}
use Rattle.h2_spec.specs.declared.frames.Head.{Head}
use Rattle.h2_spec.specs.declared.reactions.Verdict.{Verdict}
use Rattle.h2_spec.specs.Effect.{frame_effect}
use Rattle.h2_spec.specs.Hpack.Field.{Field}
use Rattle.h2_spec.specs.State.{State}
use Rattle.h2_frame.specs.Parts.{part_seen}
use Rattle.h2_frame.specs.declared.payload.Part.{Part}
use Rattle.h2_spec.specs.Does.{Settles}
use Rattle.h2_conn.specs.Parted.{IsNoContinuation}
use Rattle.h2_conn.specs.Shown.{IsOfNoBlock, Shows, fields_at_hand, part_fields}
use Rattle.h2_conn.proofs.InsideLaws.{part-outside}
use Rattle.h2_conn.proofs.ShownLaws.{shows-none}
use Rattle.h2_conn.proofs.state.State.on_part.Goals as goal

pub on_data-requires : goal.on_data-requires
on_data-requires g c = λ k. ((refl, tt), part-outside _ _ c.args.head.now c.args.payload.now c.args.part c.requires.passed c.requires.part (subst IsNoContinuation (sym c.in-Data.is) tt))

pub on_headers-requires : goal.on_headers-requires
on_headers-requires g c = λ k. ((refl, tt), part-outside _ _ c.args.head.now c.args.payload.now c.args.part c.requires.passed c.requires.part (subst IsNoContinuation (sym c.in-Headers.is) tt))

pub on_ignored-requires : goal.on_ignored-requires
on_ignored-requires g c = λ k. ((refl, tt), part-outside _ _ c.args.head.now c.args.payload.now c.args.part c.requires.passed c.requires.part (subst IsNoContinuation (sym c.in-Priority.is) tt))

pub on_reset-requires : goal.on_reset-requires
on_reset-requires g c = λ k. ((refl, tt), part-outside _ _ c.args.head.now c.args.payload.now c.args.part c.requires.passed c.requires.part (subst IsNoContinuation (sym c.in-RstStream.is) tt))

pub on_settings-requires : goal.on_settings-requires
on_settings-requires g c = λ k. ((refl, tt), part-outside _ _ c.args.head.now c.args.payload.now c.args.part c.requires.passed c.requires.part (subst IsNoContinuation (sym c.in-Settings.is) tt))

pub on_acknowledged-requires : goal.on_acknowledged-requires
on_acknowledged-requires g c = λ k. ((refl, tt), part-outside _ _ c.args.head.now c.args.payload.now c.args.part c.requires.passed c.requires.part (subst IsNoContinuation (sym c.in-SettingsAck.is) tt))

pub on_ping-requires : goal.on_ping-requires
on_ping-requires g c = λ k. ((refl, tt), part-outside _ _ c.args.head.now c.args.payload.now c.args.part c.requires.passed c.requires.part (subst IsNoContinuation (sym c.in-Ping.is) tt))

pub on_goaway-requires : goal.on_goaway-requires
on_goaway-requires g c = λ k. ((refl, tt), part-outside _ _ c.args.head.now c.args.payload.now c.args.part c.requires.passed c.requires.part (subst IsNoContinuation (sym c.in-Goaway.is) tt))

pub on_window_update-requires : goal.on_window_update-requires
on_window_update-requires g c = λ k. ((refl, tt), part-outside _ _ c.args.head.now c.args.payload.now c.args.part c.requires.passed c.requires.part (subst IsNoContinuation (sym c.in-WindowUpdate.is) tt))

pub on_ignored-requires-in-Unknown : goal.on_ignored-requires-in-Unknown
on_ignored-requires-in-Unknown g c = λ k. ((refl, tt), part-outside _ _ c.args.head.now c.args.payload.now c.args.part c.requires.passed c.requires.part (subst IsNoContinuation (sym c.in-Unknown.is) tt))

-- what is done for a part that is known
for-part : {E : Type 0} (s : State) (out : List ℕ) (h : Head) (payload : List ℕ) (p q : Part) (r : Result Verdict E) (now : State) (out' : List ℕ) → p ≡ q → Settles s out (frame_effect s h payload (part_seen q)) r now out' → Settles s out (frame_effect s h payload (part_seen p)) r now out'
for-part s out h payload p q r now out' is done = subst (λ (x : Part). Settles s out (frame_effect s h payload (part_seen x)) r now out') (sym is) done

pub returns-in-Data-clause-settles : goal.returns-in-Data-clause-settles
returns-in-Data-clause-settles g c = for-part c.args.self.now _ c.args.head.now c.args.payload.now _ _ _ _ _ c.in-Data.is (rw c.incoming.ensures at c.on_data.ensures)

pub returns-in-Headers-clause-settles : goal.returns-in-Headers-clause-settles
returns-in-Headers-clause-settles g c = for-part c.args.self.now _ c.args.head.now c.args.payload.now _ _ _ _ _ c.in-Headers.is c.on_headers.ensures.settles

pub returns-in-Priority-clause-settles : goal.returns-in-Priority-clause-settles
returns-in-Priority-clause-settles g c = for-part c.args.self.now _ c.args.head.now c.args.payload.now _ _ _ _ _ c.in-Priority.is c.on_ignored.ensures

pub returns-in-RstStream-clause-settles : goal.returns-in-RstStream-clause-settles
returns-in-RstStream-clause-settles g c = for-part c.args.self.now _ c.args.head.now c.args.payload.now _ _ _ _ _ c.in-RstStream.is c.on_reset.ensures

pub returns-in-Settings-clause-settles : goal.returns-in-Settings-clause-settles
returns-in-Settings-clause-settles g c = for-part c.args.self.now _ c.args.head.now c.args.payload.now _ _ _ _ _ c.in-Settings.is c.on_settings.ensures

pub returns-in-SettingsAck-clause-settles : goal.returns-in-SettingsAck-clause-settles
returns-in-SettingsAck-clause-settles g c = for-part c.args.self.now _ c.args.head.now c.args.payload.now _ _ _ _ _ c.in-SettingsAck.is c.on_acknowledged.ensures

pub returns-in-PushPromise-clause-settles : goal.returns-in-PushPromise-clause-settles
returns-in-PushPromise-clause-settles g c = for-part c.args.self.now _ c.args.head.now c.args.payload.now _ _ _ _ _ c.in-PushPromise.is c.fail.ensures

pub returns-in-Ping-clause-settles : goal.returns-in-Ping-clause-settles
returns-in-Ping-clause-settles g c = for-part c.args.self.now _ c.args.head.now c.args.payload.now _ _ _ _ _ c.in-Ping.is (rw c.has.ensures at c.on_ping.ensures)

pub returns-in-Goaway-clause-settles : goal.returns-in-Goaway-clause-settles
returns-in-Goaway-clause-settles g c = for-part c.args.self.now _ c.args.head.now c.args.payload.now _ _ _ _ _ c.in-Goaway.is c.on_goaway.ensures

pub returns-in-WindowUpdate-clause-settles : goal.returns-in-WindowUpdate-clause-settles
returns-in-WindowUpdate-clause-settles g c = for-part c.args.self.now _ c.args.head.now c.args.payload.now _ _ _ _ _ c.in-WindowUpdate.is c.on_window_update.ensures

pub returns-in-Continuation-clause-settles : goal.returns-in-Continuation-clause-settles
returns-in-Continuation-clause-settles g c = for-part c.args.self.now _ c.args.head.now c.args.payload.now _ _ _ _ _ c.in-Continuation.is c.on_continuation.ensures.settles

pub returns-in-Unknown-clause-settles : goal.returns-in-Unknown-clause-settles
returns-in-Unknown-clause-settles g c = for-part c.args.self.now _ c.args.head.now c.args.payload.now _ _ _ _ _ c.in-Unknown.is c.on_ignored-in-Unknown.ensures

-- a part that is known, and of no block
no-fields : {T E : Type 0} (s : State) (h : Head) (p q : Part) (r : Result T E) (fields : List Field) → p ≡ q → IsOfNoBlock q → OnOk r (Shows (part_fields s h (part_seen p)) fields)
no-fields s h p q r fields is other = shows-none r s h p fields (subst IsOfNoBlock (sym is) other)

pub returns-in-Data-clause-fields : goal.returns-in-Data-clause-fields
returns-in-Data-clause-fields g c = no-fields c.args.self.now c.args.head.now _ _ _ _ c.in-Data.is tt

pub returns-in-Priority-clause-fields : goal.returns-in-Priority-clause-fields
returns-in-Priority-clause-fields g c = no-fields c.args.self.now c.args.head.now _ _ _ _ c.in-Priority.is tt

pub returns-in-RstStream-clause-fields : goal.returns-in-RstStream-clause-fields
returns-in-RstStream-clause-fields g c = no-fields c.args.self.now c.args.head.now _ _ _ _ c.in-RstStream.is tt

pub returns-in-Settings-clause-fields : goal.returns-in-Settings-clause-fields
returns-in-Settings-clause-fields g c = no-fields c.args.self.now c.args.head.now _ _ _ _ c.in-Settings.is tt

pub returns-in-SettingsAck-clause-fields : goal.returns-in-SettingsAck-clause-fields
returns-in-SettingsAck-clause-fields g c = no-fields c.args.self.now c.args.head.now _ _ _ _ c.in-SettingsAck.is tt

pub returns-in-PushPromise-clause-fields : goal.returns-in-PushPromise-clause-fields
returns-in-PushPromise-clause-fields g c = no-fields c.args.self.now c.args.head.now _ _ _ _ c.in-PushPromise.is tt

pub returns-in-Ping-clause-fields : goal.returns-in-Ping-clause-fields
returns-in-Ping-clause-fields g c = no-fields c.args.self.now c.args.head.now _ _ _ _ c.in-Ping.is tt

pub returns-in-Goaway-clause-fields : goal.returns-in-Goaway-clause-fields
returns-in-Goaway-clause-fields g c = no-fields c.args.self.now c.args.head.now _ _ _ _ c.in-Goaway.is tt

pub returns-in-WindowUpdate-clause-fields : goal.returns-in-WindowUpdate-clause-fields
returns-in-WindowUpdate-clause-fields g c = no-fields c.args.self.now c.args.head.now _ _ _ _ c.in-WindowUpdate.is tt

pub returns-in-Unknown-clause-fields : goal.returns-in-Unknown-clause-fields
returns-in-Unknown-clause-fields g c = no-fields c.args.self.now c.args.head.now _ _ _ _ c.in-Unknown.is tt

pub returns-in-Headers-clause-fields : goal.returns-in-Headers-clause-fields
returns-in-Headers-clause-fields g c =
    subst (λ (p : Part). OnOk c.on_headers.result (Shows (part_fields c.args.self.now c.args.head.now (part_seen p)) (fields_at_hand c.on_headers.new.self.block c.on_headers.new.scratch.decoding.fields))) (sym c.in-Headers.is) c.on_headers.ensures.fields

pub returns-in-Continuation-clause-fields : goal.returns-in-Continuation-clause-fields
returns-in-Continuation-clause-fields g c =
    subst (λ (p : Part). OnOk c.on_continuation.result (Shows (part_fields c.args.self.now c.args.head.now (part_seen p)) (fields_at_hand c.on_continuation.new.self.block c.on_continuation.new.scratch.decoding.fields))) (sym c.in-Continuation.is) c.on_continuation.ensures.fields
