-- A row of a table of rules, from its columns.
use Rattle.std.proofs.Common.{◌≡◌, ◌∙◌, ap, sym, ℕ, Bool, List, [], ◌∷◌, map, Some, refl}
use Rattle.std.specs.Prelude.{option_map, slice_get}
use Rattle.std.specs.Borrow.{Bor}
use Rattle.std.specs.List.{list_any}
use Rattle.std.proofs.lemmas.Option.{slice_get-map}
use Rattle.h2_spec.specs.declared.rules.Duties.{Duties}
use Rattle.h2_spec.specs.declared.rules.Row as lent
use Rattle.h2_spec.specs.Causes.Rules.{Row, duties_of, row_shown, text_of}

pub at_place : {A B : Type 0} (all : List A) (word : A → B) (column : List B) (place : ℕ) (a : A) → column ≡ map word all → slice_get all place ≡ Some a → slice_get column place ≡ Some (word a)
at_place all word column place a same at = ap (λ xs. slice_get xs place) same ∙ slice_get-map word all place ∙ ap (option_map word) at

-- a row of these texts and duties
abbrev row_with : (name section client_section sentence : List ℕ) → Duties → Row
row_with name section client_section sentence duties = record { name = name; section = section; client = duties.client; client_section = client_section; server = duties.server; conforming = duties.conforming; sentence = sentence }

pub row-whole : (shown : lent.Row) (row : Row) → shown.name.now ≡ row.name → shown.section.now ≡ row.section → shown.client_section.now ≡ row.client_section → shown.sentence.now ≡ row.sentence → shown.duties ≡ duties_of row → row_shown shown ≡ row
row-whole shown row name section client_section sentence duties =
    let whole : row_with shown.name.now shown.section.now shown.client_section.now shown.sentence.now shown.duties ≡ row = rw (name, section, client_section, sentence, duties) refl in
    whole

list_any-map : {A B : Type 0} (test : B → Bool) (word : A → B) (all : List A) → list_any test (map word all) ≡ list_any (λ a. test (word a)) all
list_any-map test word [] = refl
list_any-map test word (a ∷ rest) = rw (list_any-map test word rest) refl

-- a test of the words of a list, by the list
pub any_word : {A : Type 0} (test : List ℕ → Bool) (word : A → List ℕ) (all : List A) (texts : List (Bor (List ℕ))) → map text_of texts ≡ map word all → list_any (λ t. test t.now) texts ≡ list_any (λ a. test (word a)) all
any_word test word all texts same = sym (list_any-map test text_of texts) ∙ ap (list_any test) same ∙ list_any-map test word all
