use Rattle.std.proofs.Common.{◌≡◌, ℕ, List, Bool, Option, Some, None, ap, refl, subst, sym, rules}
use Rattle.std.specs.Prelude.{IfOk, OnOk}
use Rattle.std.proofs.lemmas.Option.{none-some}
use Rattle.std.proofs.lemmas.Result.{on_ok_weaker}
use Rattle.h2_spec.specs.declared.causes.Cause.TheVariants.{ContinuationOutsideBlock}
use Rattle.h2_spec.specs.declared.connection.BlockView.{BlockView}
use Rattle.h2_spec.specs.Causes.Cause.{code_of}
use Rattle.h2_spec.specs.Change.{Step, broken, ended, only_shown}
use Rattle.h2_spec.specs.Effect as rule
use Rattle.h2_spec.specs.Frames.FrameType.{END_HEADERS, has}
use Rattle.h2_spec.specs.Requests.Headers as headers
use Rattle.h2_spec.specs.Requests.Headers.{Breaks, FrameEffect, Makes}
use Rattle.h2_spec.specs.State.{OpenBlock, Decoding, State}
use Rattle.h2_conn.specs.OpenBlocks.{decoding_in}
use Rattle.h2_conn.specs.Blocks.{decoding_of}
use Rattle.h2_spec.specs.Does.{Does, Settles, stepped}
use Rattle.h2_conn.specs.Blocks.{stopped}
use Rattle.h2_conn.specs.Shown.{fields_at_hand, fields_with}
use Rattle.h2_conn.proofs.ShownLaws.{quiet, shows-closed, shows-on}
use Rattle.h2_conn.proofs.state.State.on_continuation.Goals as goal

-- what goes on is the block that was taken out
goes-on : (s : State) (b : Option OpenBlock) (x : BlockView × Decoding) (octets : List ℕ) (end_headers : Bool) → Some x ≡ decoding_of b → headers.continuation s b octets end_headers ≡ headers.fragment s x.0 x.1 octets end_headers
goes-on s None x octets end_headers h = cc
goes-on s (Some b) x octets end_headers h = go b.decoding h
  where
    go : (d : Option Decoding) → Some x ≡ decoding_in b.shown d → headers.continued s b.shown d octets end_headers ≡ headers.fragment s x.0 x.1 octets end_headers
    go None h = cc
    go (Some d) h = let same : (b.shown, d) ≡ x = cc in ap (λ (y : BlockView × Decoding). headers.fragment s y.0 y.1 octets end_headers) same

shown-alone : (b : Option OpenBlock) → only_shown (only_shown b) ≡ only_shown b
shown-alone None = refl
shown-alone (Some b) = refl

-- with the block only shown, an effect is made as with the block
concluded-stopped : (s : State) (e : FrameEffect) → rule.concluded (stopped s) e ≡ rule.concluded s e
concluded-stopped s (Breaks cause) = ap (λ (b : Option OpenBlock). record (broken s cause) { state = record (ended s (code_of cause)) { block = b } }) (shown-alone s.block)
concluded-stopped s (Makes t c) = refl

-- there is no block that can go on
none-goes-on : (s : State) (b : Option OpenBlock) (octets : List ℕ) (end_headers : Bool) → None ≡ decoding_of b → headers.continuation s b octets end_headers ≡ Breaks ContinuationOutsideBlock
none-goes-on s None octets end_headers h = refl
none-goes-on s (Some b) octets end_headers h = go b.decoding h
  where
    go : (d : Option Decoding) → None ≡ decoding_in b.shown d → headers.continued s b.shown d octets end_headers ≡ Breaks ContinuationOutsideBlock
    go None h = refl
    go (Some d) h = absurd (none-some (b.shown, d) h)

pub returns-in-None-clause-settles : goal.returns-in-None-clause-settles
returns-in-None-clause-settles g c =
    let s = c.args.self.now in
    let out = (g.O.Outgoing.octets c.args.out.now) in
    let made = c.fail in
    let out' = (g.O.Outgoing.octets made.new.out) in
    subst (λ (e : FrameEffect). Settles s out e made.result made.new.self out') (sym (none-goes-on s s.block c.args.octets.now (has c.args.head.now.flags END_HEADERS) c.in-None.ensures.taken))
    (subst (λ (t : State). Settles t out (Breaks ContinuationOutsideBlock) made.result made.new.self out') c.in-None.ensures.unchanged made.ensures)

pub returns-else-is_err-clause-settles : goal.returns-else-is_err-clause-settles
returns-else-is_err-clause-settles g c =
    let s = c.args.self.now in
    let octets = c.args.octets.now in
    let x : BlockView × Decoding = (c.in-Some.shown, c.take_decoding.new.decoding) in
    let ends = has c.args.head.now.flags END_HEADERS in
    let made = c.on_fragment-result in
    let is = sym (goes-on s s.block x octets ends c.in-Some.ensures.taken) in
    let P : Step → Type 0 = λ e. OnOk made.result (Does (stepped e) (g.O.Outgoing.octets c.args.out.now) made.new.self (g.O.Outgoing.octets made.new.out)) in
    let Q : State → FrameEffect → Type 0 = λ t e. P (rule.concluded t e) in
    let R : FrameEffect → Type 0 = λ e. IfOk made.result (λ verdict. verdict ≡ rule.effect_verdict e) in
    let taken = subst (λ (t : State). Q t (headers.fragment t x.0 x.1 octets c.has-end_headers.result)) c.take_decoding.ensures.stopped made.ensures.settles.ok in
    let flagged = subst (λ (b : Bool). Q (stopped s) (headers.fragment s x.0 x.1 octets b)) c.has-end_headers.ensures taken in
    let judged = subst (λ (t : State). R (headers.fragment t x.0 x.1 octets c.has-end_headers.result)) c.take_decoding.ensures.stopped made.ensures.settles.verdict in
    record {
      ok = subst (λ (e : FrameEffect). Q s e) is (subst P (concluded-stopped s (headers.fragment s x.0 x.1 octets ends)) flagged);
      verdict = subst R is (subst (λ (b : Bool). R (headers.fragment (stopped s) x.0 x.1 octets b)) c.has-end_headers.ensures judged);
      err = search rules;
    }

pub returns-else-is_err-clause-fields : goal.returns-else-is_err-clause-fields
returns-else-is_err-clause-fields g c =
    let s = c.args.self.now in
    let octets = c.args.octets.now in
    let x : BlockView × Decoding = (c.in-Some.shown, c.take_decoding.new.decoding) in
    let made = c.on_fragment-result in
    let at = fields_at_hand made.new.self.block made.new.decoding.fields in
    let taken = subst (λ (t : State). OnOk made.result (at ≡ fields_with t x.0 x.1 octets)) c.take_decoding.ensures.stopped made.ensures.fields in
    on_ok_weaker made.result (λ is. shows-on s s.block x octets at c.in-Some.ensures.taken is) taken

pub returns-in-None-clause-fields : goal.returns-in-None-clause-fields
returns-in-None-clause-fields g c =
    let s = c.args.self.now in
    on_ok_weaker c.fail.result (λ _. shows-closed s s.block c.args.octets.now _ c.in-None.ensures.taken) (quiet c.fail.result)
