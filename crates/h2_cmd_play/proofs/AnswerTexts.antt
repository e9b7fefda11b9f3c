-- The words of an answer cut at their signs, and the fields that parts say one after another.
use Rattle.std.proofs.Common.{◌≡◌, ◌∙◌, ◌+◌, ◌≤◌, ℕ, suc, Bool, true, false, cond, List, [], ◌∷◌, ◌++◌, Option, Some, None, length, take, drop, refl, sym, ap, arith, option_map, append_assoc, nat_lt, ltb-false}
use Rattle.std.specs.List.{list_any, position_or_len, before_first, after_first}
use Rattle.std.specs.Prelude.{codes, position}
use Rattle.std.proofs.lemmas.Slice.Eq.{bytes_eq-Decides}
use Rattle.std.proofs.lemmas.List.{drop_all, take_all}
use Rattle.std.proofs.lemmas.Bool.Decides.{nat_tests}
use Rattle.h2_spec.specs.Requests.AnswerWords.{entry_with, field_of, fields_of, is_bar, is_early_word, is_equals_sign, parts_of, with_field}
use Rattle.h2_spec.specs.Hpack.Field.{Field, field}
use Rattle.h2_cmd_play.specs.AnswerParts.{parts_behind}

-- ---- parts

-- the parts of a text: what ends at the first bar, and those after it
parts-first : (text : List ℕ) → parts_of text ≡ before_first is_bar text ∷ parts_behind (drop (position_or_len is_bar text) text)
parts-first [] = refl
parts-first (c ∷ cs) = step (is_bar c) refl (parts-first cs)
  where
    step : (t : Bool) → is_bar c ≡ t → parts_of cs ≡ before_first is_bar cs ∷ parts_behind (drop (position_or_len is_bar cs) cs)
        → parts_of (c ∷ cs) ≡ before_first is_bar (c ∷ cs) ∷ parts_behind (drop (position_or_len is_bar (c ∷ cs)) (c ∷ cs))
    step true e rest = rw (rest, e) (ap (λ (ps : List (List ℕ)). [] ∷ ps) (sym rest))
    step false e rest =
        let more : 1 + position_or_len is_bar cs ≡ suc (position_or_len is_bar cs) = omega arith in
        rw (rest, e, more) refl

-- a text cut at its first bar, where it has one
abbrev pub parts_cut : Option ℕ → List ℕ → List (List ℕ)
parts_cut None text = text ∷ []
parts_cut (Some at) text = take at text ∷ parts_behind (drop at text)

pub parts-cut : (text : List ℕ) → parts_of text ≡ parts_cut (position is_bar text) text
parts-cut text = parts-first text ∙ go (nat_lt (position_or_len is_bar text) (length text)) refl
  where
    go : (t : Bool) → nat_lt (position_or_len is_bar text) (length text) ≡ t
        → before_first is_bar text ∷ parts_behind (drop (position_or_len is_bar text) text) ≡ parts_cut (cond t (Some (position_or_len is_bar text)) None) text
    go true e = refl
    go false e =
        let far : length text ≤ position_or_len is_bar text = ltb-false _ _ e in
        rw (take_all (position_or_len is_bar text) text far, drop_all (position_or_len is_bar text) text far) refl

-- ---- fields

-- a text has a sign where its first one is inside
any-inside : (p : ℕ → Bool) (xs : List ℕ) → list_any p xs ≡ nat_lt (position_or_len p xs) (length xs)
any-inside p [] = refl
any-inside p (x ∷ xs) = step (p x) refl (any-inside p xs)
  where
    step : (t : Bool) → p x ≡ t → list_any p xs ≡ nat_lt (position_or_len p xs) (length xs) → list_any p (x ∷ xs) ≡ nat_lt (position_or_len p (x ∷ xs)) (length (x ∷ xs))
    step true e rest = rw e (grind (arith, nat_tests))
    step false e rest = rw e (rest ∙ grind (arith, nat_tests))

-- a part cut at its first sign, where it has one
abbrev pub field_cut : Option ℕ → List ℕ → Option Field
field_cut None part = None
field_cut (Some at) part = Some (field (take at part) (drop (at + 1) part))

pub field-cut : (part : List ℕ) → field_of part ≡ field_cut (position is_equals_sign part) part
field-cut part = rw (any-inside is_equals_sign part) (go (nat_lt (position_or_len is_equals_sign part) (length part)))
  where
    go : (t : Bool) → cond t (Some (field (before_first is_equals_sign part) (after_first is_equals_sign part))) None
        ≡ field_cut (cond t (Some (position_or_len is_equals_sign part)) None) part
    go true = refl
    go false = refl

-- the fields so far, before those that parts say
abbrev pub fields_after : List Field → List (List ℕ) → Option (List Field)
fields_after fields parts = option_map (λ fs. fields ++ fs) (fields_of parts)

-- the word of an early answer is no field: it has no sign
word-no-field : (part : List ℕ) → is_early_word part ≡ true → field_of part ≡ None
word-no-field part e = ap field_of ((bytes_eq-Decides part (codes "early")).0 e)

pub field-no-word : (part : List ℕ) (f : Field) → Some f ≡ field_of part → is_early_word part ≡ false
field-no-word part f e = at (is_early_word part) refl
  where
    at : (t : Bool) → is_early_word part ≡ t → t ≡ false
    at false w = refl
    at true w = let none : Some f ≡ None = e ∙ word-no-field part w in cc

pub fields-next : (fields : List Field) (part : List ℕ) (parts : List (List ℕ)) (f : Field) → Some f ≡ field_of part
    → fields_after fields (part ∷ parts) ≡ fields_after (fields ++ f ∷ []) parts
fields-next fields part parts f e = rw (field-no-word part f e, ← e) (go (fields_of parts))
  where
    go : (o : Option (List Field)) → option_map (λ fs. fields ++ fs) (with_field (Some f) o) ≡ option_map (λ fs. (fields ++ f ∷ []) ++ fs) o
    go None = refl
    go (Some fs) = ap Some (sym (append_assoc fields (f ∷ []) fs))

-- ---- the word of an early answer

-- words with two of them are no entry, whatever the other parts are
pub entry-twice-early : (method path : List ℕ) (status : Option ℕ) (body : Option (List ℕ)) (fields : Option (List Field)) → entry_with method path status body fields None ≡ None
entry-twice-early method path None body fields = refl
entry-twice-early method path (Some status) None fields = refl
entry-twice-early method path (Some status) (Some body) None = refl
entry-twice-early method path (Some status) (Some body) (Some fields) = refl
