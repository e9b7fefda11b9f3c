-- Frames are read back from their octets, and the preface is found.
use Rattle.std.proofs.Common.{◌≡◌, ◌≢◌, ◌⊎◌, inl, inr, ℕ, ◌+◌, ◌*◌, ◌-◌, ◌/◌, ◌%◌, ◌<◌, ◌≤◌, true, false, List, [], ◌∷◌, ◌++◌, length, Some, refl, sym, ap, subst, arith, length-append, le-ltb, nat_eq, eqb}
use Rattle.std.proofs.lemmas.Bool.{lt-leb}
use Rattle.std.proofs.lemmas.Bool.Decides.{eqb_tells}
use Rattle.std.proofs.Math.Seq.{take-append_seam}
use Rattle.std.specs.Prelude.{slice_range, nat_lt, nat_le}
use Rattle.std.specs.List.{common_prefix_len}
use Rattle.h2_spec.specs.declared.frames.Head.{Head}
use Rattle.h2_spec.specs.Frames.Frame.{Frame, IsSendable, Preface, WholeFrame, NoItem, Got, frame_octets, head_sent, head_of, head_at, frame_item, next, preface}

-- ---- frames

-- a number below 2 ^ 24 is read back from its three digits
three-digits : (n : ℕ) → n < 16777216 → 65536 * (n / 65536 % 256) + 256 * (n / 256 % 256) + n / 1 % 256 ≡ n
three-digits n h = omega arith

-- a number below 2 ^ 31 is read back from its four digits, without the top bit
four-digits : (n : ℕ) → n < 2147483648 → 16777216 * (n / 16777216 % 256 % 128) + 65536 * (n / 65536 % 256) + 256 * (n / 256 % 256) + n / 1 % 256 ≡ n
four-digits n h = omega arith

-- and that bit is 0
top-bit : (n : ℕ) → n < 2147483648 → nat_le 128 (n / 16777216 % 256) ≡ false
top-bit n h = lt-leb 128 (n / 16777216 % 256) (omega arith)

head_of-frame_octets : (f : Frame) (rest : List ℕ) → IsSendable f → head_of (frame_octets f ++ rest) ≡ head_sent f
unfolding head_of frame_octets
head_of-frame_octets f rest h = rw (three-digits (length f.payload) h.length_fits, four-digits f.stream h.stream_fits, top-bit f.stream h.stream_fits) refl

-- nine octets and the payload
length-frame_octets : (f : Frame) (rest : List ℕ) → length (frame_octets f ++ rest) ≡ 9 + length f.payload + length rest
unfolding frame_octets
length-frame_octets f rest = let both = length-append f.payload rest in omega arith

pub head_at-frame_octets : (f : Frame) (rest : List ℕ) → IsSendable f → head_at (frame_octets f ++ rest) ≡ Some (head_sent f)
unfolding head_at
head_at-frame_octets f rest h =
    let count = length-frame_octets f rest in
    let enough : nat_lt (length (frame_octets f ++ rest)) 9 ≡ false = le-ltb (length (frame_octets f ++ rest)) 9 (omega arith) in
    rw enough (ap (λ (x : Head). Some x) (head_of-frame_octets f rest h))

payload-frame_octets : (f : Frame) (rest : List ℕ) → slice_range (frame_octets f ++ rest) 9 (9 + length f.payload) ≡ f.payload
unfolding frame_octets
payload-frame_octets f rest = rw (let same : 9 + length f.payload - 9 ≡ length f.payload = omega arith in same) (take-append_seam f.payload rest)

pub next-frame_octets : (limit : ℕ) (f : Frame) (rest : List ℕ) → IsSendable f → length f.payload ≤ limit → next false limit (frame_octets f ++ rest) ≡ Got (WholeFrame (head_sent f) f.payload) (9 + length f.payload)
unfolding next
next-frame_octets limit f rest h within =
    let count = length-frame_octets f rest in
    let enough : nat_lt (length (frame_octets f ++ rest)) 9 ≡ false = le-ltb (length (frame_octets f ++ rest)) 9 (omega arith) in
    let allowed : nat_lt limit (length f.payload) ≡ false = le-ltb limit (length f.payload) within in
    let whole : nat_lt (length (frame_octets f ++ rest)) (9 + length f.payload) ≡ false = le-ltb (length (frame_octets f ++ rest)) (9 + length f.payload) (omega arith) in
    let found : frame_item limit (head_sent f) (frame_octets f ++ rest) ≡ Got (WholeFrame (head_sent f) f.payload) (9 + length f.payload) = rw (allowed, whole, payload-frame_octets f rest) refl in
    rw enough (subst (λ (g : Head). frame_item limit g (frame_octets f ++ rest) ≡ Got (WholeFrame (head_sent f) f.payload) (9 + length f.payload)) (sym (head_of-frame_octets f rest h)) found)

-- ---- the preface

pub next-preface : (limit : ℕ) (rest : List ℕ) → next true limit (preface ++ rest) ≡ Got Preface 24
unfolding next
next-preface limit [] = refl
next-preface limit (x ∷ rest) = refl

equal-self : (n : ℕ) → eqb n n ≡ true
equal-self n = at (eqb_tells n n)
  where
    at : ((eqb n n ≡ true) × (n ≡ n)) ⊎ ((eqb n n ≡ false) × (n ≢ n)) → eqb n n ≡ true
    at (inl e) = e.0
    at (inr e) = absurd (e.1 refl)

below-unequal : (m n : ℕ) → m < n → eqb m n ≡ false
below-unequal m n h = at (eqb_tells m n)
  where
    at : ((eqb m n ≡ true) × (m ≡ n)) ⊎ ((eqb m n ≡ false) × (m ≢ n)) → eqb m n ≡ false
    at (inl e) = absurd (omega (arith, e.1))
    at (inr e) = e.0

-- octets agree with themselves
common_prefix_len-append : (b rest : List ℕ) → common_prefix_len nat_eq b (b ++ rest) ≡ length b
common_prefix_len-append [] rest = refl
common_prefix_len-append (x ∷ b) rest = let more = common_prefix_len-append b rest in rw (equal-self x) (omega arith)

pub next-begun : (limit : ℕ) (b rest : List ℕ) → b ++ rest ≡ preface → length b < 24 → next true limit b ≡ NoItem
unfolding next
next-begun limit b rest e h =
    let all : common_prefix_len nat_eq b preface ≡ length b = subst (λ p. common_prefix_len nat_eq b p ≡ length b) e (common_prefix_len-append b rest) in
    let few : eqb (length b) 24 ≡ false = below-unequal (length b) 24 h in
    let no_more : nat_lt (length b) (length b) ≡ false = le-ltb (length b) (length b) (omega arith) in
    rw (all, few, no_more) refl
