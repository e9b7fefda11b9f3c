-- What is written, one after another.
use Rattle.std.proofs.Common.{◌≡◌, ◌∙◌, ◌+◌, ◌^◌, ◌<◌, ◌≤◌, ◌++◌, ◌&&◌, ℕ, Bool, true, false, zero, suc, List, [], ◌∷◌, Some, None, length, drop, take, refl, sym, ap, arith, cond, nat_lt, nat_eq, ltb-false, flat_map, append_assoc, le-ltb, lt-ltb, subst}
use Rattle.std.specs.Cmp.Lexicographic.{same_text}
use Rattle.std.specs.List.{starts_with}
use Rattle.std.specs.Prelude.{slice_get}
use Rattle.std.proofs.lemmas.List.{length-drop, length-take, length-take-le}
use Rattle.hex.specs.Hex.{IsBytes}
use Rattle.h2_spec.specs.Frames.Frame.{head_at, head_of, preface}
use Rattle.h2_spec.specs.Frames.Parse.{One, Stop, parse_upto}
use Rattle.h2_spec.specs.Texts.Script.{Statement, Preface}
use Rattle.h2_spec.specs.Texts.Written.{each_text, frame_said, line_text, next_said, rest_text, setting_text}
use Rattle.h2_spec.specs.declared.frames.Head.{Head}
use Rattle.h2_script.specs.Texts.{comma, said_text}

-- ---- settings

-- one setting more
pub each_next : (k : ℕ) (ps : List (ℕ × ℕ)) (p : ℕ × ℕ) → slice_get ps k ≡ Some p
    → each_text setting_text (take (suc k) ps) ≡ each_text setting_text (take k ps) ++ (comma k ++ setting_text p)
each_next k [] p at = absurd (cc)
each_next zero (q ∷ qs) p at = let same : q ≡ p = cc in ap (λ (x : ℕ × ℕ). setting_text x) same
each_next (suc k) (q ∷ []) p at = absurd (cc)
each_next (suc zero) (q ∷ r ∷ qs) p at =
    ap (λ (t : List ℕ). setting_text q ++ 44 ∷ t) (each_next zero (r ∷ qs) p at)
each_next (suc (suc k)) (q ∷ r ∷ qs) p at =
    ap (λ (t : List ℕ). setting_text q ++ 44 ∷ t) (each_next (suc k) (r ∷ qs) p at)
    ∙ sym (append_assoc (setting_text q) (44 ∷ each_text setting_text (take (suc k) (r ∷ qs))) (44 ∷ setting_text p))

-- and its text, after a comma where something precedes
pub settings_next : (out one two three : List ℕ) (k : ℕ) (ps : List (ℕ × ℕ)) (p : ℕ × ℕ) → one ≡ out ++ each_text setting_text (take k ps) → two ≡ one ++ comma k → three ≡ two ++ setting_text p
    → slice_get ps k ≡ Some p → three ≡ out ++ each_text setting_text (take (k + 1) ps)
settings_next out one two three k ps p a b c at =
    let texts = each_text setting_text (take k ps) in
    let more : k + 1 ≡ suc k = omega arith in
    c ∙ ap (λ (x : List ℕ). x ++ setting_text p) (b ∙ ap (λ (x : List ℕ). x ++ comma k) a)
    ∙ append_assoc (out ++ texts) (comma k) (setting_text p) ∙ append_assoc out texts (comma k ++ setting_text p)
    ∙ ap (λ (x : List ℕ). out ++ x) (sym (each_next k ps p at)) ∙ ap (λ (n : ℕ). out ++ each_text setting_text (take n ps)) (sym more)

-- a text and what follows it
pub step : (old mid new text more : List ℕ) → mid ≡ old ++ text → new ≡ mid ++ more → new ≡ old ++ (text ++ more)
step old mid new text more a b = b ∙ ap (λ (x : List ℕ). x ++ more) a ∙ append_assoc old text more

-- ---- statements

pub said_one : (n : ℕ) (first : Bool) (b : List ℕ) (s : Statement) (used : ℕ) → next_said first b ≡ One s false used → said_text (suc n) first b ≡ line_text s ++ said_text n false (drop used b)
said_one n first b s used e =
    let after = parse_upto next_said n false (drop used b) in
    rw e (append_assoc (line_text s) (flat_map line_text after.elements) (rest_text after.rest))

-- a head has nine octets
pub head_nine : (h : Head) (b : List ℕ) → Some h ≡ head_at b → 9 ≤ length b
unfolding head_at
head_nine h b head = go (nat_lt (length b) 9) refl head
  where
    go : (t : Bool) → nat_lt (length b) 9 ≡ t → Some h ≡ cond t None (Some (head_of b)) → 9 ≤ length b
    go true e k = absurd (cc)
    go false e k = ltb-false _ _ e

-- the preface, where octets begin
pub next_preface : (first : Bool) (b : List ℕ) → (first && starts_with nat_eq b preface) ≡ true → next_said first b ≡ One Preface false 24
unfolding next_said
next_preface first b e = rw e refl

-- octets that begin with the preface are at least as many
pub preface_long : (first : Bool) (b : List ℕ) → (first && starts_with nat_eq b preface) ≡ true → 24 ≤ length b
unfolding preface
preface_long false b e = absurd (cc)
preface_long true b e =
    let front : length preface ≡ length (take 24 b) = ap length (same_text preface (take 24 b) (sym e)) in
    omega (arith, front, length-take 24 b)

-- octets have one head
pub head_same : (b : List ℕ) (h k : Head) → Some h ≡ head_at b → Some k ≡ head_at b → h ≡ k
head_same b h k at again = cc

-- the length of a frame has 24 bits
pub frame_short : (b : List ℕ) (h : Head) → IsBytes b → Some h ≡ head_at b → h.length < 2 ^ 24
unfolding head_at head_of
frame_short b h octets head = go (nat_lt (length b) 9) head
  where
    go : (t : Bool) → Some h ≡ cond t None (Some (head_of b)) → h.length < 2 ^ 24
    go true k = absurd (cc)
    go false k =
        let same : h ≡ head_of b = cc in
        let len : h.length ≡ (head_of b).length = ap (λ (x : Head). x.length) same in
        let b0 = octets 0 in
        let b1 = octets 1 in
        let b2 = octets 2 in
        omega (arith, len, b0, b1, b2)

-- a payload is as long as its head says
pub payload_long : (b : List ℕ) (h : Head) (p : List ℕ) → h.length ≤ length (drop 9 b) → p ≡ take h.length (drop 9 b) → length p ≡ h.length
payload_long b h p fits e = ap length e ∙ length-take-le h.length (drop 9 b) fits

-- no whole frame at the front
pub next_none : (first : Bool) (b : List ℕ) → (first && starts_with nat_eq b preface) ≡ false → ((h : Head) → Some h ≡ head_at b → length (drop 9 b) < h.length) → next_said first b ≡ Stop
unfolding next_said head_at
next_none first b no_preface short = go (nat_lt (length b) 9) refl short
  where
    go : (t : Bool) → nat_lt (length b) 9 ≡ t → ((h : Head) → Some h ≡ cond t None (Some (head_of b)) → length (drop 9 b) < h.length) → next_said first b ≡ Stop
    go true e k = rw (no_preface, e) refl
    go false e k =
        let near : length (drop 9 b) < (head_of b).length = k (head_of b) refl in
        let nine : 9 ≤ length b = ltb-false _ _ e in
        let size = length-drop 9 b in
        let less : length b < 9 + (head_of b).length = omega (arith, near, nine, size) in
        rw (no_preface, e, lt-ltb (length b) (9 + (head_of b).length) less) refl

-- the frame of a head, where its payload is there
next_headed : (first : Bool) (b : List ℕ) (h : Head) → (first && starts_with nat_eq b preface) ≡ false → Some h ≡ head_at b → h.length ≤ length (drop 9 b)
    → next_said first b ≡ One (frame_said h (take h.length (drop 9 b))) false (9 + h.length)
unfolding next_said head_at
next_headed first b h no_preface head fits = go (nat_lt (length b) 9) refl head
  where
    go : (t : Bool) → nat_lt (length b) 9 ≡ t → Some h ≡ cond t None (Some (head_of b)) → next_said first b ≡ One (frame_said h (take h.length (drop 9 b))) false (9 + h.length)
    go true e k = absurd (cc)
    go false e k =
        let same : h ≡ head_of b = cc in
        let nine : 9 ≤ length b = ltb-false _ _ e in
        let size = length-drop 9 b in
        let len : (head_of b).length ≡ h.length = ap (λ (x : Head). x.length) (sym same) in
        let enough : 9 + (head_of b).length ≤ length b = omega (arith, fits, size, len) in
        let main : next_said first b ≡ One (frame_said (head_of b) (take (head_of b).length (drop 9 b))) false (9 + (head_of b).length) =
        rw (no_preface, e, le-ltb (length b) (9 + (head_of b).length) enough) refl in
        subst (λ (x : Head). next_said first b ≡ One (frame_said x (take x.length (drop 9 b))) false (9 + x.length)) (sym same) main

-- the whole frame at the front
pub next_frame : (first : Bool) (b : List ℕ) (h : Head) (p : List ℕ) → (first && starts_with nat_eq b preface) ≡ false → Some h ≡ head_at b → h.length ≤ length (drop 9 b)
    → p ≡ take h.length (drop 9 b) → next_said first b ≡ One (frame_said h p) false (9 + length p)
next_frame first b h p no_preface head fits e =
    rw (payload_long b h p fits e, e) (next_headed first b h no_preface head fits)
