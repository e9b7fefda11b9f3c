-- A line that is read octet by octet, up to an octet and after it.
use Rattle.std.proofs.Common.{◌≡◌, ◌∙◌, ◌+◌, ◌<◌, ◌++◌, ℕ, Bool, true, false, List, [], ◌∷◌, Option, Some, None, length, get_or, drop, refl, sym, ap, drop-cons, add-one}
use Rattle.std.specs.Option.{option_and_then}
use Rattle.std.proofs.lemmas.Str.{IsUtf8-from_is_utf8, is_utf8-from_IsUtf8}
use Rattle.std.specs.Str.{IsUtf8, is_utf8}
use Rattle.h2_cmd_cases.specs.Shell.{Reading, behind_octet, with_word, words_behind}

next : (r : Reading) (line : List ℕ) (i : ℕ) → i < length line
    → words_behind r (drop i line) ≡ option_and_then (λ s. words_behind s (drop (i + 1) line)) (behind_octet r (get_or line i 0))
next r line i h = rw (add-one, drop-cons line i 0) refl

pub read_on : (r s : Reading) (line : List ℕ) (i c : ℕ) → i < length line → c ≡ get_or line i 0 → behind_octet r c ≡ Some s
    → words_behind r (drop i line) ≡ words_behind s (drop (i + 1) line)
read_on r s line i c h is e =
    next r line i h ∙ ap (λ (x : Option Reading). option_and_then (λ t. words_behind t (drop (i + 1) line)) x) (ap (behind_octet r) (sym is) ∙ e)

pub read_none : (r : Reading) (line : List ℕ) (i c : ℕ) → i < length line → c ≡ get_or line i 0 → behind_octet r c ≡ None
    → words_behind r (drop i line) ≡ None
read_none r line i c h is e =
    next r line i h ∙ ap (λ (x : Option Reading). option_and_then (λ t. words_behind t (drop (i + 1) line)) x) (ap (behind_octet r) (sym is) ∙ e)

-- a word after others, where it is UTF-8
pub word_added : (words : List (List ℕ)) (word text : List ℕ) (after : List (List ℕ)) → text ≡ word → IsUtf8 word → after ≡ words ++ text ∷ [] → with_word words word ≡ Some after
word_added words word text after same well e = rw (is_utf8-from_IsUtf8 word well, e, same) refl

pub word_refused : (words : List (List ℕ)) (word : List ℕ) → (IsUtf8 word → ⊥) → with_word words word ≡ None
word_refused words word isnt = rw (at (is_utf8 word) refl) refl
  where
    at : (b : Bool) → is_utf8 word ≡ b → is_utf8 word ≡ false
    at true e = absurd (isnt (IsUtf8-from_is_utf8 word e))
    at false e = e
