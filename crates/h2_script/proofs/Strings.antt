-- The octets of a string, one after another.
use Rattle.std.proofs.Common.{◌≡◌, ◌∙◌, ◌+◌, ◌/◌, ◌%◌, ◌++◌, ◌==◌, ◌<◌, ◌≤◌, ℕ, Bool, true, false, List, [], ◌∷◌, Option, Some, None, length, drop, refl, sym, ap, arith, cond, option_map, append_assoc, append-nil, eqb-true, drop_of_length-le, slice_index}
use Rattle.std.proofs.lemmas.List.{drop-drop}
use Rattle.hex.specs.Hex.{encode_lower, encode_with, lower_digits}
use Rattle.h2_spec.specs.Texts.Assemble.{octet_at, unescaped, with_octet}
use Rattle.h2_spec.specs.Texts.Script.{is_plain}
use Rattle.h2_script.specs.Characters.{character_at, escaped_at}

-- the octets after those that were written
abbrev pub Follows : List ℕ → List ℕ → Option (List ℕ) → Type 0
Follows written text all = option_map (λ cs. written ++ cs) (unescaped text) ≡ all

plain_step : (c : ℕ) (cs : List ℕ) → is_plain c ≡ true → unescaped (c ∷ cs) ≡ option_map (λ ds. c ∷ ds) (unescaped cs)
unfolding unescaped
plain_step c [] h = rw h refl
plain_step c (a ∷ []) h = rw h refl
plain_step c (a ∷ b ∷ cs) h = rw h refl

same_both : (a b x y : ℕ) → ◌≡◌ {A = Option (ℕ × ℕ)} (Some (a, b)) (Some (x, y)) → (a ≡ x) × (b ≡ y)
same_both a b x y e = let pairs : ◌≡◌ {A = ℕ × ℕ} (a, b) (x, y) = cc in (ap (λ (p : ℕ × ℕ). p.0) pairs, ap (λ (p : ℕ × ℕ). p.1) pairs)

escape_step : (cs : List ℕ) (octet used : ℕ) → Some (octet, used) ≡ escaped_at cs → unescaped (92 ∷ cs) ≡ option_map (λ ds. octet ∷ ds) (unescaped (drop used (92 ∷ cs)))
unfolding unescaped
escape_step [] octet used e = absurd (cc)
escape_step (a ∷ []) octet used e = absurd (cc)
escape_step (a ∷ b ∷ cs) octet used e = go (octet_at (a ∷ b ∷ [])) e
  where
    go : (o : Option ℕ) → Some (octet, used) ≡ option_map {U = ℕ × ℕ} (λ c. (c, 3)) o → with_octet o (unescaped cs) ≡ option_map (λ ds. octet ∷ ds) (unescaped (drop used (92 ∷ a ∷ b ∷ cs)))
    go None k = absurd (cc)
    go (Some c) k = let same = same_both octet used c 3 k in rw (same.0, same.1) refl

-- the first octet, and those after it
one_character : (text : List ℕ) (octet used : ℕ) → Some (octet, used) ≡ character_at text → unescaped text ≡ option_map (λ ds. octet ∷ ds) (unescaped (drop used text))
one_character [] octet used e = absurd (cc)
one_character (c ∷ cs) octet used e = go (is_plain c) refl e
  where
    escape : (t : Bool) → (c == 92) ≡ t → Some (octet, used) ≡ cond t (escaped_at cs) None → unescaped (c ∷ cs) ≡ option_map (λ ds. octet ∷ ds) (unescaped (drop used (c ∷ cs)))
    escape true is k = let same : c ≡ 92 = eqb-true c 92 is in rw same (escape_step cs octet used k)
    escape false is k = absurd (cc)

    go : (t : Bool) → is_plain c ≡ t → ◌≡◌ {A = Option (ℕ × ℕ)} (Some (octet, used)) (cond t (Some (c, 1)) (cond (c == 92) (escaped_at cs) None)) → unescaped (c ∷ cs) ≡ option_map (λ ds. octet ∷ ds) (unescaped (drop used (c ∷ cs)))
    go true is k = let same = same_both octet used c 1 k in plain_step c cs is ∙ rw (same.0, same.1) refl
    go false is k = escape (c == 92) refl k

no_character : (text : List ℕ) → 0 < length text → None ≡ character_at text → unescaped text ≡ None
unfolding unescaped
no_character [] some e = absurd (omega arith)
no_character (c ∷ []) some e = go (is_plain c) e
  where
    go : (t : Bool) → ◌≡◌ {A = Option (ℕ × ℕ)} None (cond t (Some (c, 1)) (cond (c == 92) None None)) → cond t (Some (c ∷ [])) None ≡ None
    go true k = absurd (cc)
    go false k = refl
no_character (c ∷ a ∷ []) some e = go (is_plain c) e
  where
    go : (t : Bool) → ◌≡◌ {A = Option (ℕ × ℕ)} None (cond t (Some (c, 1)) (cond (c == 92) None None)) → cond t (option_map (λ cs. c ∷ cs) (unescaped (a ∷ []))) None ≡ None
    go true k = absurd (cc)
    go false k = refl
no_character (c ∷ a ∷ b ∷ cs) some e = go (is_plain c) e
  where
    octet : (o : Option ℕ) → None ≡ option_map {U = ℕ × ℕ} (λ x. (x, 3)) o → with_octet o (unescaped cs) ≡ None
    octet None k = refl
    octet (Some x) k = absurd (cc)

    escape : (t : Bool) → None ≡ cond t (option_map {U = ℕ × ℕ} (λ x. (x, 3)) (octet_at (a ∷ b ∷ []))) None → cond t (with_octet (octet_at (a ∷ b ∷ [])) (unescaped cs)) None ≡ None
    escape true k = octet (octet_at (a ∷ b ∷ [])) k
    escape false k = refl

    go : (t : Bool) → ◌≡◌ {A = Option (ℕ × ℕ)} None (cond t (Some (c, 1)) (cond (c == 92) (option_map {U = ℕ × ℕ} (λ x. (x, 3)) (octet_at (a ∷ b ∷ []))) None))
        → cond t (option_map (λ ds. c ∷ ds) (unescaped (a ∷ b ∷ cs))) (cond (c == 92) (with_octet (octet_at (a ∷ b ∷ [])) (unescaped cs)) None) ≡ None
    go true k = absurd (cc)
    go false k = escape (c == 92) k

pub follows_next : (written new text : List ℕ) (octet used : ℕ) (all : Option (List ℕ)) → Some (octet, used) ≡ character_at text → new ≡ written ++ octet ∷ [] → Follows written text all → Follows new (drop used text) all
follows_next written new text octet used all e is h = go (unescaped (drop used text)) ∙ sym (ap (option_map (λ cs. written ++ cs)) (one_character text octet used e)) ∙ h
  where
    go : (o : Option (List ℕ)) → option_map (λ cs. new ++ cs) o ≡ option_map (λ cs. written ++ cs) (option_map (λ ds. octet ∷ ds) o)
    go None = refl
    go (Some cs) = ap (λ (x : List ℕ). Some (x ++ cs)) is ∙ ap (λ (x : List ℕ). Some x) (append_assoc written (octet ∷ []) cs)

pub follows_none : (written text : List ℕ) (all : Option (List ℕ)) → 0 < length text → None ≡ character_at text → Follows written text all → None ≡ all
follows_none written text all some e h = sym (ap (option_map (λ cs. written ++ cs)) (no_character text some e)) ∙ h

pub follows_end : (written text : List ℕ) (i : ℕ) (all : Option (List ℕ)) → length text ≤ i → Follows written (drop i text) all → Some written ≡ all
unfolding unescaped
follows_end written text i all past h =
    let none : drop i text ≡ [] = drop_of_length-le text past in
    ap (λ (x : List ℕ). Some x) (sym (append-nil written)) ∙ ap (λ (x : List ℕ). option_map (λ cs. written ++ cs) (unescaped x)) (sym none) ∙ h

pub drop-twice : (i n : ℕ) (text : List ℕ) → drop (i + n) text ≡ drop n (drop i text)
drop-twice i n text = sym (drop-drop n i text)

-- two digits after a text
pub two_digits : (old mid new : List ℕ) (high low octet : ℕ) → mid ≡ old ++ high ∷ [] → new ≡ mid ++ low ∷ [] → high ≡ slice_index lower_digits (octet / 16) → low ≡ slice_index lower_digits (octet % 16)
    → new ≡ old ++ encode_lower (octet ∷ [])
unfolding encode_with
two_digits old mid new high low octet a b c d =
    b ∙ ap (λ (x : List ℕ). x ++ low ∷ []) a ∙ append_assoc old (high ∷ []) (low ∷ []) ∙ ap (λ (x : ℕ). old ++ high ∷ x ∷ []) d ∙ ap (λ (x : ℕ). old ++ x ∷ slice_index lower_digits (octet % 16) ∷ []) c
