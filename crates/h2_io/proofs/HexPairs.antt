-- Hex digits pair by pair: octets that are decoded a part after the other.
use Rattle.std.proofs.Common.{◌≡◌, ◌∙◌, ℕ, ◌+◌, ◌*◌, ◌%◌, Bool, true, false, cond, eqb, List, [], ◌∷◌, ◌++◌, length, refl, sym, ap, arith, Option, Some, None, Result, Ok, Err}
use Rattle.hex.specs.Hex.{decode_pairs, digit_or_error, hex_digit_value, ◌>>=◌}
use Rattle.hex.specs.declared.FromHexError.{FromHexError}
use Rattle.hex.specs.declared.FromHexError.TheVariants.{OddLength}
use Rattle.h2_spec.specs.Requests.AnswerWords.{body_of, ok_or_none}
use Rattle.h2_io.specs.HexText.{all_in_front}

-- the octet of two digits, if they are hex digits
abbrev of_values : Option ℕ → Option ℕ → Option ℕ
of_values None low = None
of_values (Some high) None = None
of_values (Some high) (Some low) = Some (high * 16 + low)

-- an octet before others, if two digits spell one
abbrev with_front : Option ℕ → Option (List ℕ) → Option (List ℕ)
with_front None rest = None
with_front (Some octet) None = None
with_front (Some octet) (Some rest) = Some (octet ∷ rest)

-- octets before others, if there are
abbrev pub all_after : Option (List ℕ) → Option (List ℕ) → Option (List ℕ)
all_after None rest = None
all_after (Some octets) rest = all_in_front octets rest

front : (h l i : ℕ) (a b : Option ℕ) (r : Result (List ℕ) FromHexError)
    → ok_or_none ((digit_or_error h i a >>= (λ x. digit_or_error l (i + 1) b >>= (λ y. Ok (x * 16 + y)))) >>= (λ byte. r >>= (λ bytes. Ok (byte ∷ bytes)))) ≡ with_front (of_values a b) (ok_or_none r)
front h l i None b r = refl
front h l i (Some x) None r = refl
front h l i (Some x) (Some y) (Ok bytes) = refl
front h l i (Some x) (Some y) (Err e) = refl

-- where digits are counted from changes only what is reported of a bad one
shifted : (i j : ℕ) (ds : List ℕ) → ok_or_none (decode_pairs i ds) ≡ ok_or_none (decode_pairs j ds)
unfolding decode_pairs
shifted i j [] = refl
shifted i j (d ∷ []) = refl
shifted i j (h ∷ l ∷ ds) =
    front h l i (hex_digit_value h) (hex_digit_value l) (decode_pairs (i + 2) ds) ∙ ap (with_front (of_values (hex_digit_value h) (hex_digit_value l))) (shifted (i + 2) (j + 2) ds)
    ∙ sym (front h l j (hex_digit_value h) (hex_digit_value l) (decode_pairs (j + 2) ds))

pair-first : (h l : ℕ) (ds : List ℕ) → body_of (h ∷ l ∷ ds) ≡ with_front (of_values (hex_digit_value h) (hex_digit_value l)) (body_of ds)
unfolding decode_pairs
pair-first h l ds =
    let even : length (h ∷ l ∷ ds) % 2 ≡ length ds % 2 = omega arith in
    rw even (by (eqb (length ds % 2) 1))
  where
    none : (p : Option ℕ) → None ≡ with_front p None
    none None = refl
    none (Some b) = refl

    by : (t : Bool) → ok_or_none (cond t (Err OddLength) (decode_pairs 0 (h ∷ l ∷ ds)))
        ≡ with_front (of_values (hex_digit_value h) (hex_digit_value l)) (ok_or_none (cond t (Err OddLength) (decode_pairs 0 ds)))
    by true = none (of_values (hex_digit_value h) (hex_digit_value l))
    by false = front h l 0 (hex_digit_value h) (hex_digit_value l) (decode_pairs 2 ds) ∙ ap (with_front (of_values (hex_digit_value h) (hex_digit_value l))) (shifted 2 0 ds)

none-first : (rest : Option (List ℕ)) → rest ≡ all_in_front [] rest
none-first None = refl
none-first (Some more) = refl

pub no-digits : body_of [] ≡ Some []
unfolding decode_pairs
no-digits = refl

front-after : (p : Option ℕ) (octets rest : Option (List ℕ)) → with_front p (all_after octets rest) ≡ all_after (with_front p octets) rest
front-after None octets rest = refl
front-after (Some octet) None rest = refl
front-after (Some octet) (Some octets) None = refl
front-after (Some octet) (Some octets) (Some rest) = refl

-- an even number of digits, and others after them
pub decoded-after : (digits rest : List ℕ) → length digits % 2 ≡ 0 → body_of (digits ++ rest) ≡ all_after (body_of digits) (body_of rest)
decoded-after [] rest even = none-first (body_of rest) ∙ ap (λ t. all_after t (body_of rest)) (sym no-digits)
decoded-after (d ∷ []) rest even = absurd (omega (arith, even))
decoded-after (h ∷ l ∷ digits) rest even =
    let pair = of_values (hex_digit_value h) (hex_digit_value l) in
    pair-first h l (digits ++ rest) ∙ ap (with_front pair) (decoded-after digits rest (omega (arith, even)))
    ∙ front-after pair (body_of digits) (body_of rest) ∙ ap (λ t. all_after t (body_of rest)) (sym (pair-first h l digits))
