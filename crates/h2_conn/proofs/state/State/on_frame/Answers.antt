use Rattle.std.proofs.Common.{◌≡◌, ℕ, Option, Result, ap, refl, sym, subst, ◌∙◌}
use Rattle.std.specs.Prelude.{OnOk}
use Rattle.h2_spec.specs.declared.causes.Cause.{Cause}
use Rattle.h2_spec.specs.declared.connection.Phase.{Phase}
use Rattle.h2_spec.specs.declared.frames.Head.{Head}
use Rattle.h2_spec.specs.Checks.{refusal}
use Rattle.h2_spec.specs.Effect.{block_stream, checked_effect, part_effect}
use Rattle.h2_spec.specs.Frames.Payload.{Part}
use Rattle.h2_spec.specs.State.{State}
use Rattle.h2_frame.specs.Parts.{part_seen, seen}
use Rattle.h2_spec.specs.Does.{Settles}
use Rattle.h2_conn.specs.Shown.{Shows, checked_fields, fields_at_hand, read_fields}
use Rattle.h2_conn.proofs.ShownLaws.{quiet}
use Rattle.h2_conn.proofs.state.State.on_frame.Goals as goal

-- what the checks of its head say of a frame
checks-say : (s : State) (h : Head) (block : Option ℕ) (phase : Phase) (r o : Option Cause) → phase ≡ s.core.phase → block ≡ block_stream s.block → r ≡ refusal block phase h → r ≡ o → refusal (block_stream s.block) s.core.phase h ≡ o
checks-say s h block phase r o now held says is =
    ap (λ (k : Phase). refusal (block_stream s.block) k h) (sym now) ∙ ap (λ (b : Option ℕ). refusal b phase h) (sym held) ∙ sym says ∙ is

-- a frame whose head is refused
pub returns-in-Some-clause-settles : goal.returns-in-Some-clause-settles
returns-in-Some-clause-settles g c =
    let s = c.args.self.now in
    let h = c.args.frame.head in
    let checked = checks-say s h _ _ _ _ (ap (λ (x : State). x.core.phase) c.self.view_is) c.block_stream.ensures c.refusal.ensures c.in-Some.is in
    subst (λ (o : Option Cause). Settles s (g.O.Outgoing.octets c.args.out.now) (checked_effect s h c.args.frame.payload.now o) c.fail.result c.fail.new.self (g.O.Outgoing.octets c.fail.new.out)) (sym checked) c.fail.ensures

pub returns-in-Some-clause-fields : goal.returns-in-Some-clause-fields
returns-in-Some-clause-fields g c =
    let s = c.args.self.now in
    let h = c.args.frame.head in
    let at = fields_at_hand c.fail.new.self.block c.args.scratch.now.decoding.fields in
    let checked = checks-say s h _ _ _ _ (ap (λ (x : State). x.core.phase) c.self.view_is) c.block_stream.ensures c.refusal.ensures c.in-Some.is in
    subst (λ (o : Option Cause). OnOk c.fail.result (Shows (checked_fields s h c.args.frame.payload.now o) at)) (sym checked) (quiet c.fail.result)

-- a frame whose payload is refused
pub returns-in-Err-clause-settles : goal.returns-in-Err-clause-settles
returns-in-Err-clause-settles g c =
    let s = c.args.self.now in
    let h = c.args.frame.head in
    let p = c.args.frame.payload.now in
    let made = c.fail-in-Err in
    let checked = checks-say s h _ _ _ _ (ap (λ (x : State). x.core.phase) c.self.view_is) c.block_stream.ensures c.refusal.ensures c.in-None.is in
    let part = sym c.part_of.ensures ∙ ap (seen part_seen) c.in-Err.is in
    subst (λ (o : Option Cause). Settles s (g.O.Outgoing.octets c.args.out.now) (checked_effect s h p o) made.result made.new.self (g.O.Outgoing.octets made.new.out)) (sym checked)
    (subst (λ (r : Result Part Cause). Settles s (g.O.Outgoing.octets c.args.out.now) (part_effect s h p r) made.result made.new.self (g.O.Outgoing.octets made.new.out)) (sym part) made.ensures)

pub returns-in-Err-clause-fields : goal.returns-in-Err-clause-fields
returns-in-Err-clause-fields g c =
    let s = c.args.self.now in
    let h = c.args.frame.head in
    let made = c.fail-in-Err in
    let at = fields_at_hand made.new.self.block c.args.scratch.now.decoding.fields in
    let checked = checks-say s h _ _ _ _ (ap (λ (x : State). x.core.phase) c.self.view_is) c.block_stream.ensures c.refusal.ensures c.in-None.is in
    let part = sym c.part_of.ensures ∙ ap (seen part_seen) c.in-Err.is in
    subst (λ (o : Option Cause). OnOk made.result (Shows (checked_fields s h c.args.frame.payload.now o) at)) (sym checked)
    (subst (λ (r : Result Part Cause). OnOk made.result (Shows (read_fields s h r) at)) (sym part) (quiet made.result))

pub on_part-requires : goal.on_part-requires
on_part-requires g c = λ k.
    let passed = checks-say c.args.self.now c.args.frame.head _ _ _ _ (ap (λ (x : State). x.core.phase) c.self.view_is) c.block_stream.ensures c.refusal.ensures c.in-None.is in
    ((refl, tt), (c.requires.fits, (sym c.part_of.ensures ∙ ap (seen part_seen) c.in-Ok.is, passed)))

-- a frame that passes the checks
pub returns-in-Ok-clause-settles : goal.returns-in-Ok-clause-settles
returns-in-Ok-clause-settles g c =
    let s = c.args.self.now in
    let h = c.args.frame.head in
    let p = c.args.frame.payload.now in
    let made = c.on_part in
    let checked = checks-say s h _ _ _ _ (ap (λ (x : State). x.core.phase) c.self.view_is) c.block_stream.ensures c.refusal.ensures c.in-None.is in
    let part = sym c.part_of.ensures ∙ ap (seen part_seen) c.in-Ok.is in
    subst (λ (o : Option Cause). Settles s (g.O.Outgoing.octets c.args.out.now) (checked_effect s h p o) made.result made.new.self (g.O.Outgoing.octets made.new.out)) (sym checked)
    (subst (λ (r : Result Part Cause). Settles s (g.O.Outgoing.octets c.args.out.now) (part_effect s h p r) made.result made.new.self (g.O.Outgoing.octets made.new.out)) (sym part) made.ensures.settles)

pub returns-in-Ok-clause-fields : goal.returns-in-Ok-clause-fields
returns-in-Ok-clause-fields g c =
    let s = c.args.self.now in
    let h = c.args.frame.head in
    let made = c.on_part in
    let at = fields_at_hand made.new.self.block made.new.scratch.decoding.fields in
    let checked = checks-say s h _ _ _ _ (ap (λ (x : State). x.core.phase) c.self.view_is) c.block_stream.ensures c.refusal.ensures c.in-None.is in
    let part = sym c.part_of.ensures ∙ ap (seen part_seen) c.in-Ok.is in
    subst (λ (o : Option Cause). OnOk made.result (Shows (checked_fields s h c.args.frame.payload.now o) at)) (sym checked)
    (subst (λ (r : Result Part Cause). OnOk made.result (Shows (read_fields s h r) at)) (sym part) made.ensures.fields)
