use Rattle.std.proofs.Common.{◌≡◌, ◌∙◌, ℕ, List, Bool, true, false, Err, Ok, Result, ap, refl, subst, sym}
use Rattle.std.proofs.lemmas.Result.{on_err_weaker, on_ok_weaker}
use Rattle.h2_spec.specs.declared.causes.Cause.{Cause}
use Rattle.h2_spec.specs.declared.connection.BlockView.{BlockView}
use Rattle.h2_spec.specs.declared.connection.Purpose.{Purpose}
use Rattle.h2_spec.specs.Requests.Headers.{Breaks, FrameEffect, fragment, fragment_read}
use Rattle.h2_spec.specs.State.{Decoding, State}
use Rattle.h2_spec.specs.Stream.{Records}
use Rattle.h2_conn.specs.Fragments.{after_of}
use Rattle.h2_conn_rules.specs.Open.{IsOpenAt}
use Rattle.h2_conn.specs.Blocks.{effect_read, with_table}
use Rattle.h2_spec.specs.Does.{Settles}
use Rattle.h2_conn.specs.Shown.{fields_with}
use Rattle.h2_conn.proofs.state.State.on_fragment.Given.{Over}
use Rattle.h2_conn.proofs.state.State.on_fragment.Goals as goal

-- a fragment of which this is read
fragment-is : (s t : State) (b : BlockView) (d before after : Decoding) (octets : List ℕ) (ends e : Bool) (read r : Result BlockView Cause) →
    ((x : Bool) → effect_read t after x read ≡ fragment s b before octets x) → before ≡ d → read ≡ r → ends ≡ e → fragment s b d octets ends ≡ effect_read t after e r
fragment-is s t b d before after octets ends e read r effect same is end =
    ap (λ (x : Decoding). fragment s b x octets ends) (sym same) ∙ sym (effect ends) ∙ ap (effect_read t after ends) is ∙ ap (λ (x : Bool). effect_read t after x r) end

-- a block that goes on is open for what was read of it
still-open : (r : Records) (id now : ℕ) (before after : Purpose) → IsOpenAt r id before → now ≡ id → after ≡ before → IsOpenAt r now after
still-open r id now before after known stream purpose = subst (λ (i : ℕ). IsOpenAt r i after) (sym stream) (subst (λ (p : Purpose). IsOpenAt r id p) (sym purpose) known)

pub ends-requires : goal.ends-requires
ends-requires g c = λ k.
    let stream : c.in-Ok-Ok.shown.stream ≡ c.args.shown.stream = rw c.in-Ok-Ok.field-0-is at c.in-Ok-Ok.ensures.stream in
    let purpose = c.fragment.ensures.purpose ∙ ap (λ (d : Decoding). d.purpose) c.unchanged-tentative.ensures.before in
    ((refl, tt), (c.requires.stopped, (c.fragment.ensures.sized, (c.in-Ok-Ok.ensures.belongs, still-open _ _ _ _ _ c.requires.known stream purpose))))

ended : (g : Over) (c : goal.After-ends g) → fragment c.args.self.now c.args.shown c.args.decoding.now c.args.octets.now c.args.end_headers ≡ fragment_read (with_table c.args.self.now c.fragment.new.edit) c.in-Ok-Ok.shown (after_of c.fragment.new.decoding c.fragment.new.tentative) true
ended g c =
    fragment-is c.args.self.now (with_table c.args.self.now c.fragment.new.edit) c.args.shown c.args.decoding.now _ (after_of c.fragment.new.decoding c.fragment.new.tentative) c.args.octets.now c.args.end_headers true c.in-Ok-Ok.field-0 (Ok c.in-Ok-Ok.shown) c.in-Ok-Ok.ensures.effect c.unchanged-tentative.ensures.before c.in-Ok-Ok.field-0-is c.if-end_headers.true

pub returns-then-end_headers-clause-settles : goal.returns-then-end_headers-clause-settles
returns-then-end_headers-clause-settles g c =
    subst (λ (e : FrameEffect). Settles c.args.self.now (g.O.Outgoing.octets c.args.out.now) e c.ends.result c.ends.new.self (g.O.Outgoing.octets c.ends.new.out)) (sym (ended g c)) c.ends.ensures.settles

pub returns-then-end_headers-clause-decoding : goal.returns-then-end_headers-clause-decoding
returns-then-end_headers-clause-decoding g c = on_err_weaker c.ends.result (λ same. same ∙ c.fragment.ensures.before ∙ c.unchanged-tentative.ensures.before) c.ends.ensures.decoding

pub goes_on-requires : goal.goes_on-requires
goes_on-requires g c = λ k.
    let stream : c.in-Ok-Ok.shown.stream ≡ c.args.shown.stream = rw c.in-Ok-Ok.field-0-is at c.in-Ok-Ok.ensures.stream in
    let purpose = c.fragment.ensures.purpose ∙ ap (λ (d : Decoding). d.purpose) c.unchanged-tentative.ensures.before in
    ((refl, tt), (c.requires.stopped, (c.fragment.ensures.sized, (c.in-Ok-Ok.ensures.belongs, still-open _ _ _ _ _ c.requires.known stream purpose))))

goes : (g : Over) (c : goal.After-goes_on g) → fragment c.args.self.now c.args.shown c.args.decoding.now c.args.octets.now c.args.end_headers ≡ fragment_read (with_table c.args.self.now c.fragment.new.edit) c.in-Ok-Ok.shown (after_of c.fragment.new.decoding c.fragment.new.tentative) false
goes g c =
    fragment-is c.args.self.now (with_table c.args.self.now c.fragment.new.edit) c.args.shown c.args.decoding.now _ (after_of c.fragment.new.decoding c.fragment.new.tentative) c.args.octets.now c.args.end_headers false c.in-Ok-Ok.field-0 (Ok c.in-Ok-Ok.shown) c.in-Ok-Ok.ensures.effect c.unchanged-tentative.ensures.before c.in-Ok-Ok.field-0-is c.if-end_headers.false

pub returns-else-end_headers-clause-settles : goal.returns-else-end_headers-clause-settles
returns-else-end_headers-clause-settles g c =
    subst (λ (e : FrameEffect). Settles c.args.self.now (g.O.Outgoing.octets c.args.out.now) e c.goes_on.result c.goes_on.new.self (g.O.Outgoing.octets c.goes_on.new.out)) (sym (goes g c)) c.goes_on.ensures.settles

pub returns-else-end_headers-clause-decoding : goal.returns-else-end_headers-clause-decoding
returns-else-end_headers-clause-decoding g c = on_err_weaker c.goes_on.result (λ same. same ∙ c.fragment.ensures.before ∙ c.unchanged-tentative.ensures.before) c.goes_on.ensures.decoding

refused : (g : Over) (c : goal.After-refuse g) → fragment c.args.self.now c.args.shown c.args.decoding.now c.args.octets.now c.args.end_headers ≡ Breaks c.in-Ok-Err.cause
refused g c =
    fragment-is c.args.self.now (with_table c.args.self.now c.fragment.new.edit) c.args.shown c.args.decoding.now _ (after_of c.fragment.new.decoding c.fragment.new.tentative) c.args.octets.now c.args.end_headers c.args.end_headers c.in-Ok-Err.field-0 (Err c.in-Ok-Err.cause) c.in-Ok-Err.ensures.effect c.unchanged-tentative.ensures.before c.in-Ok-Err.field-0-is refl

pub returns-in-Ok-Err-clause-settles : goal.returns-in-Ok-Err-clause-settles
returns-in-Ok-Err-clause-settles g c =
    subst (λ (e : FrameEffect). Settles c.args.self.now (g.O.Outgoing.octets c.args.out.now) e c.refuse.result c.refuse.new.self (g.O.Outgoing.octets c.refuse.new.out)) (sym (refused g c)) c.refuse.ensures.settles

pub returns-in-Ok-Err-clause-decoding : goal.returns-in-Ok-Err-clause-decoding
returns-in-Ok-Err-clause-decoding g c = on_err_weaker c.refuse.result (λ same. same ∙ c.fragment.ensures.before ∙ c.unchanged-tentative.ensures.before) c.refuse.ensures.decoding

pub returns-in-Err-clause-decoding : goal.returns-in-Err-clause-decoding
returns-in-Err-clause-decoding g c = c.give_up.ensures ∙ c.fragment.ensures.before ∙ c.unchanged-tentative.ensures.before

pub returns-then-end_headers-clause-fields : goal.returns-then-end_headers-clause-fields
returns-then-end_headers-clause-fields g c =
    let read = c.in-Ok-Ok.ensures.fields ∙ ap (λ (d : Decoding). fields_with c.args.self.now c.args.shown d c.args.octets.now) c.unchanged-tentative.ensures.before in
    on_ok_weaker c.ends.result (λ is. is ∙ read) c.ends.ensures.fields

pub returns-else-end_headers-clause-fields : goal.returns-else-end_headers-clause-fields
returns-else-end_headers-clause-fields g c =
    let read = c.in-Ok-Ok.ensures.fields ∙ ap (λ (d : Decoding). fields_with c.args.self.now c.args.shown d c.args.octets.now) c.unchanged-tentative.ensures.before in
    on_ok_weaker c.goes_on.result (λ is. is ∙ read) c.goes_on.ensures.fields

pub returns-in-Ok-Err-clause-fields : goal.returns-in-Ok-Err-clause-fields
returns-in-Ok-Err-clause-fields g c =
    let read = c.in-Ok-Err.ensures.fields ∙ ap (λ (d : Decoding). fields_with c.args.self.now c.args.shown d c.args.octets.now) c.unchanged-tentative.ensures.before in
    on_ok_weaker c.refuse.result (λ is. is ∙ read) c.refuse.ensures.fields
