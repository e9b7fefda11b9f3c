-- A block of digits, and the text after it.
use Rattle.std.proofs.Common.{◌≡◌, ◌∙◌, ℕ, ◌*◌, ◌/◌, ◌%◌, ◌<◌, ◌≤◌, ◌⊎◌, inl, inr, Bool, true, false, eqb, eqb-true, List, [], ◌∷◌, ◌++◌, is_some, length, min, take, drop, filter, cond, append_assoc, refl, sym, ap, arith, Option, Some, None, Result, Ok, Err}
use Rattle.std.specs.Prelude.{MatchResult}
use Rattle.std.specs.List.{AllPass}
use Rattle.std.proofs.lemmas.Bool.{cases_eq, cases_lt}
use Rattle.std.proofs.lemmas.List.{append-nil, length-take-le, take-append-drop, take_all}
use Rattle.std.proofs.lemmas.List.Elements.{All-head, All-tail, filter-append}
use Rattle.hex.specs.Hex.{decode_of, decode_sized, is_hex_digit}
use Rattle.hex.specs.declared.FromHexError.{FromHexError}
use Rattle.hex.proofs.HexLemmas.{decode_of-odd, decode_of-ok, decode_sized-odd, decode_sized-twice}
use Rattle.h2_spec.specs.Requests.AnswerWords.{body_of, ok_or_none}
use Rattle.h2_io.specs.HexText.{all_in_front, is_digit, most_digits, octets_spelled}
use Rattle.h2_io.proofs.HexPairs.{all_after, decoded-after, no-digits}

-- digits decode into space for half as many octets as they do alone
pub sized : (digits : List ℕ) → decode_sized digits (length digits / 2) ≡ decode_of digits
sized digits =
    elim (cases_eq (length digits % 2) 1) [
      | inl odd ↦ decode_sized-odd digits (length digits / 2) odd ∙ sym (decode_of-odd digits odd)
      | inr even ↦ decode_sized-twice digits (length digits / 2) (omega (arith, even))
    ]

-- what was written, where it was
pub written : (d : Result (List ℕ) FromHexError) (r : Result Unit FromHexError) (out : List ℕ) → MatchResult d (λ bytes. (r ≡ Ok tt) × (out ≡ bytes)) (λ e. r ≡ Err e) → r ≡ Ok tt
    → ok_or_none d ≡ Some out
written (Ok bytes) r out m is = ap Some (sym m.1)
written (Err e) r out m is = cc (sym m ∙ is)

pub not-written : (d : Result (List ℕ) FromHexError) (r : Result Unit FromHexError) (out : List ℕ) (e : FromHexError) → MatchResult d (λ bytes. (r ≡ Ok tt) × (out ≡ bytes)) (λ e. r ≡ Err e)
    → r ≡ Err e → ok_or_none d ≡ None
not-written (Ok bytes) r out e m is = cc (sym m.0 ∙ is)
not-written (Err f) r out e m is = refl

result-of : (r : Result (List ℕ) FromHexError) (octets : List ℕ) → ok_or_none r ≡ Some octets → r ≡ Ok octets
result-of (Ok xs) octets e = cc
result-of (Err f) octets e = cc

-- digits that are octets are twice as many, and hex digits all
pub twice : (digits octets : List ℕ) → body_of digits ≡ Some octets → length digits ≡ 2 * length octets
twice digits octets e = (decode_of-ok digits octets (result-of (decode_of digits) octets e)).2

all-hex : (digits octets : List ℕ) → body_of digits ≡ Some octets → AllPass is_hex_digit digits
all-hex digits octets e = (decode_of-ok digits octets (result-of (decode_of digits) octets e)).1

-- a hex digit is no white space
no-space : (c k : ℕ) → is_hex_digit k ≡ false → is_hex_digit c ≡ true → eqb c k ≡ false
no-space c k n h = by (eqb c k) refl where
  by : (t : Bool) → eqb c k ≡ t → t ≡ false
  by true e = let same : c ≡ k = eqb-true c k e in cc (sym n ∙ ap is_hex_digit (sym same) ∙ h)
  by false e = refl

hex-digit : (c : ℕ) → is_hex_digit c ≡ true → is_digit c ≡ true
hex-digit c h = rw (no-space c 32 refl h, no-space c 9 refl h, no-space c 13 refl h, no-space c 10 refl h) refl

digits-kept : (digits : List ℕ) → AllPass is_hex_digit digits → filter is_digit digits ≡ digits
digits-kept [] all = refl
digits-kept (d ∷ digits) all =
    let is = hex-digit d (All-head (λ c. is_hex_digit c ≡ true) d digits all) in
    let rest = digits-kept digits (All-tail (λ c. is_hex_digit c ≡ true) d digits all) in
    ap (λ t. cond t (d ∷ filter is_digit digits) (filter is_digit digits)) is ∙ ap (λ t. d ∷ t) rest

-- digits in two parts, of which the first decodes or doesn't
pub front-decoded : (digits rest octets : List ℕ) → body_of digits ≡ Some octets → body_of (digits ++ rest) ≡ all_in_front octets (body_of rest)
front-decoded digits rest octets e =
    let even : length digits % 2 ≡ 0 = omega (arith, twice digits octets e) in
    decoded-after digits rest even ∙ ap (λ t. all_after t (body_of rest)) e

front-refused : (digits rest : List ℕ) → length digits % 2 ≡ 0 → body_of digits ≡ None → body_of (digits ++ rest) ≡ None
front-refused digits rest even e = decoded-after digits rest even ∙ ap (λ t. all_after t (body_of rest)) e

split : (text : List ℕ) (used : ℕ) → filter is_digit text ≡ filter is_digit (take used text) ++ filter is_digit (drop used text)
split text used = ap (filter is_digit) (sym (take-append-drop used text)) ∙ filter-append is_digit (take used text) (drop used text)

-- a block of text without white space
pub plain-decoded : (text octets : List ℕ) (used : ℕ) → body_of (take used text) ≡ Some octets → octets_spelled text ≡ all_in_front octets (octets_spelled (drop used text))
plain-decoded text octets used e =
    let rest = filter is_digit (drop used text) in
    ap body_of (split text used ∙ ap (λ t. t ++ rest) (digits-kept (take used text) (all-hex (take used text) octets e)))
    ∙ front-decoded (take used text) rest octets e

-- digits that white space was dropped from
pub spaced-decoded : (text digits octets : List ℕ) (used : ℕ) → digits ≡ filter is_digit (take used text) → body_of digits ≡ Some octets
    → octets_spelled text ≡ all_in_front octets (octets_spelled (drop used text))
spaced-decoded text digits octets used is e =
    let rest = filter is_digit (drop used text) in
    ap body_of (split text used ∙ ap (λ t. t ++ rest) (sym is)) ∙ front-decoded digits rest octets e

pub spaced-refused : (text digits : List ℕ) (used : ℕ) → digits ≡ filter is_digit (take used text) → length digits ≤ most_digits → (length digits < most_digits → used ≡ length text)
    → body_of digits ≡ None → octets_spelled text ≡ None
spaced-refused text digits used is few whole e =
    elim (cases_lt (length digits) most_digits) [
      | inl short ↦
          let all : take used text ≡ text = take_all used text (omega (arith, whole short)) in
          ap (λ t. body_of (filter is_digit t)) (sym all) ∙ ap body_of (sym is) ∙ e
      | inr full ↦
          let even : length digits % 2 ≡ 0 = omega (arith, few, full) in
          let rest = filter is_digit (drop used text) in
          ap body_of (split text used ∙ ap (λ t. t ++ rest) (sym is)) ∙ front-refused digits rest even e
    ]

-- white space in front of a text
pub spaces-passed : (text rest : List ℕ) (used : ℕ) → filter is_digit (take used text) ≡ [] → rest ≡ drop used text → octets_spelled rest ≡ octets_spelled text
spaces-passed text rest used none is =
    ap octets_spelled is ∙ ap body_of (sym (split text used ∙ ap (λ t. t ++ filter is_digit (drop used text)) none))

-- digits in blocks
pub block-decoded : (digits octets : List ℕ) (count : ℕ) → body_of (take count digits) ≡ Some octets → body_of digits ≡ all_in_front octets (body_of (drop count digits))
block-decoded digits octets count e = ap body_of (sym (take-append-drop count digits)) ∙ front-decoded (take count digits) (drop count digits) octets e

pub block-refused : (digits : List ℕ) (count : ℕ) → (count ≡ length digits) ⊎ (length (take count digits) % 2 ≡ 0) → body_of (take count digits) ≡ None → body_of digits ≡ None
block-refused digits count (inl whole) e = ap body_of (sym (take_all count digits (omega (arith, whole)))) ∙ e
block-refused digits count (inr even) e = ap body_of (sym (take-append-drop count digits)) ∙ front-refused (take count digits) (drop count digits) even e

-- whether octets are spelled depends on the rest alone
some-after : (octets : List ℕ) (rest : Option (List ℕ)) → is_some (all_in_front octets rest) ≡ is_some rest
some-after octets None = refl
some-after octets (Some more) = refl

-- a step over digits, and over text
pub step-some : (all rest after : Option (List ℕ)) (octets : List ℕ) → is_some all ≡ is_some rest → rest ≡ all_in_front octets after → is_some all ≡ is_some after
step-some all rest after octets h e = h ∙ ap (λ (o : Option (List ℕ)). is_some o) e ∙ some-after octets after

front-twice : (octets more : List ℕ) (rest : Option (List ℕ)) → all_in_front octets (all_in_front more rest) ≡ all_in_front (octets ++ more) rest
front-twice octets more None = refl
front-twice octets more (Some last) = ap Some (sym (append_assoc octets more last))

pub step-decoded : (all rest after : Option (List ℕ)) (octets more now : List ℕ) → all ≡ all_in_front octets rest → rest ≡ all_in_front more after → now ≡ octets ++ more
    → all ≡ all_in_front now after
step-decoded all rest after octets more now h e is =
    h ∙ ap (all_in_front octets) e ∙ front-twice octets more after ∙ ap (λ (xs : List ℕ). all_in_front xs after) (sym is)

-- before the first step
pub none-decoded : (all : Option (List ℕ)) (octets : List ℕ) → octets ≡ [] → all ≡ all_in_front octets all
none-decoded None octets e = refl
none-decoded (Some more) octets e = ap (λ (xs : List ℕ). Some (xs ++ more)) (sym e)

-- after the last one
pub end-some : (all : Option (List ℕ)) (rest : List ℕ) → is_some all ≡ is_some (body_of rest) → rest ≡ [] → is_some all ≡ true
end-some all rest h e = h ∙ ap (λ (xs : List ℕ). is_some (body_of xs)) e ∙ ap (λ (o : Option (List ℕ)). is_some o) no-digits

pub end-decoded : (all : Option (List ℕ)) (octets rest : List ℕ) → all ≡ all_in_front octets (octets_spelled rest) → rest ≡ [] → all ≡ Some octets
end-decoded all octets rest h e =
    h ∙ ap (λ (xs : List ℕ). all_in_front octets (octets_spelled xs)) e ∙ ap (all_in_front octets) no-digits ∙ ap Some (append-nil octets)

-- where a block is refused
pub refused-some : (all rest : Option (List ℕ)) → is_some all ≡ is_some rest → rest ≡ None → is_some all ≡ false
refused-some all rest h e = h ∙ ap (λ (o : Option (List ℕ)). is_some o) e

pub refused-decoded : (all rest : Option (List ℕ)) (octets : List ℕ) → all ≡ all_in_front octets rest → rest ≡ None → all ≡ None
refused-decoded all rest octets h e = h ∙ ap (all_in_front octets) e

-- the digits of a block are an even number, or the last ones
pub last-or-even : (digits : List ℕ) (count : ℕ) → count ≡ min (length digits) most_digits → (count ≡ length digits) ⊎ (length (take count digits) % 2 ≡ 0)
last-or-even digits count e =
    elim (cases_lt (length digits) most_digits) [
      | inl short ↦ inl (omega (arith, e, short))
      | inr long ↦
          let full : count ≡ most_digits = omega (arith, e, long) in
          let is : length (take count digits) ≡ count = length-take-le count digits (omega (arith, e)) in
          inr (omega (arith, full, is))
    ]

pub ruleset spaces = (spaces-passed)

pub ruleset spelled = (plain-decoded, spaced-decoded, spaced-refused)

pub ruleset blocks = (block-decoded, block-refused, last-or-even, step-some, end-some, refused-some)

pub ruleset texts = (step-some, end-some, refused-some, step-decoded, none-decoded, end-decoded, refused-decoded)
