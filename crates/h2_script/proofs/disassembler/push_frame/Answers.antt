use Rattle.std.proofs.Common.{◌≡◌, ◌∙◌, ◌++◌, ◌∷◌, [], List, ℕ, Result, Ok, Err, OnOk, ap, append_assoc, cond, string_bytes}
use Rattle.std.specs.Result.{is_ok}
use Rattle.hex.specs.Hex.{encode_lower}
use Rattle.h2_spec.specs.Texts.Written.{payload_said, payload_text, statement_text, frame_said, stream_text, type_text}
use Rattle.h2_script.specs.Texts.{head_text}
use Rattle.h2_script.proofs.Written.{step}
use Rattle.h2_script.proofs.disassembler.push_frame.Goals as goal

-- the last text after others, if it was written
last : {T E : Type 0} (r : Result T E) (old mid new text more : List ℕ) → mid ≡ old ++ text → new ≡ cond (is_ok r) (mid ++ more) mid → OnOk r (new ≡ old ++ (text ++ more))
last (Ok t) old mid new text more a b = step old mid new text more a b
last (Err e) old mid new text more a b = tt

-- a payload after a head
behind_head : (kind flags stream payload : List ℕ) → (kind ++ 32 ∷ (flags ++ 32 ∷ (stream ++ 32 ∷ []))) ++ payload ≡ kind ++ 32 ∷ (flags ++ 32 ∷ (stream ++ 32 ∷ payload))
behind_head kind flags stream payload = simp append_assoc

pub returns : goal.returns
returns g c =
    let h = c.args.head.now in
    let s0 = string_bytes c.args.out.now in
    let s1 = string_bytes c.push_head.new.out in
    let s2 = string_bytes c.push_payload.new.out in
    let payload = payload_text (payload_said h.kind h.flags c.args.payload.now) in
    let e = step s0 s1 s2 (head_text h) payload c.in_ok-push_head.ensures c.in_ok-push_payload.ensures
    ∙ ap (λ (x : List ℕ). s0 ++ x) (behind_head (type_text h.kind) (encode_lower (h.flags ∷ [])) (stream_text h.stream h.reserved) payload) in
    last c.push_str.result s0 s2 (string_bytes c.push_str.new.self) (statement_text (frame_said h c.args.payload.now)) (10 ∷ []) e c.push_str.ensures.bytes
