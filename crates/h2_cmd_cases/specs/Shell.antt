-- The words of a line, octet by octet, by a shell's rules of blanks and quotes (POSIX.1-2024, Shell Command Language, 2.2).
use Rattle.std.specs.Prelude.{ℕ, ◌==◌, ◌&&◌, ◌||◌, not, Bool, true, false, List, [], ◌∷◌, ◌++◌, if◌then◌else◌, Option, Some, None}
use Rattle.std.specs.Option.{option_and_then}
use Rattle.std.specs.Str.{is_utf8}
use Rattle.h2_cmd_cases.specs.declared.shell.WordPlace.{WordPlace}
use Rattle.h2_cmd_cases.specs.declared.shell.WordPlace.TheVariants as place

-- a blank or a tab, which separates words; a backslash, a single quote, a double quote
abbrev pub is_blank : ℕ → Bool
is_blank c = c == 32 || c == 9

abbrev pub is_backslash : ℕ → Bool
is_backslash c = c == 92

abbrev pub is_single : ℕ → Bool
is_single c = c == 39

abbrev pub is_double : ℕ → Bool
is_double c = c == 34

-- where the next octet is, after this one outside quotes
abbrev pub outside : ℕ → WordPlace
outside c =
    if is_blank c then place.Between
    else if is_backslash c then place.Escaped
    else if is_single c then place.Single
    else if is_double c then place.Double else place.Plain

-- where the next octet is, after this one
abbrev pub next_place : WordPlace → ℕ → WordPlace
next_place place.Between c = outside c
next_place place.Plain c = outside c
next_place place.Escaped c = place.Plain
next_place place.Single c = if is_single c then place.Plain else place.Single
next_place place.Double c = if is_backslash c then place.DoubleEscaped else if is_double c then place.Plain else place.Double
next_place place.DoubleEscaped c = place.Double

-- whether an octet is part of the word, at its place
abbrev pub is_part : WordPlace → ℕ → Bool
is_part place.Between c = not (is_blank c || is_backslash c || is_single c || is_double c)
is_part place.Plain c = not (is_blank c || is_backslash c || is_single c || is_double c)
is_part place.Escaped c = true
is_part place.Single c = not (is_single c)
is_part place.Double c = not (is_backslash c || is_double c)
is_part place.DoubleEscaped c = true

-- whether the backslash before it is: between double quotes, before any octet but a backslash, a double quote, `$` and a
-- backquote
abbrev pub keeps_backslash : WordPlace → ℕ → Bool
keeps_backslash place.Between c = false
keeps_backslash place.Plain c = false
keeps_backslash place.Escaped c = false
keeps_backslash place.Single c = false
keeps_backslash place.Double c = false
keeps_backslash place.DoubleEscaped c = not (is_backslash c || is_double c || c == 36 || c == 96)

-- a word is done where its next place is between two words
abbrev pub is_between : WordPlace → Bool
is_between place.Between = true
is_between place.Plain = false
is_between place.Escaped = false
is_between place.Single = false
is_between place.Double = false
is_between place.DoubleEscaped = false

-- how far a line was read: where its next octet is, what its last word has so far, the words before it
pub record Reading : Type 0 where
  pub place : WordPlace
  pub word : List ℕ
  pub words : List (List ℕ)

-- the words with one more, which has to be UTF-8
abbrev pub with_word : List (List ℕ) → List ℕ → Option (List (List ℕ))
with_word words word = if is_utf8 word then Some (words ++ word ∷ []) else None

abbrev pub between : Option (List (List ℕ)) → Option Reading
between None = None
between (Some words) = Some (record { place = place.Between; word = []; words = words })

-- what an octet adds to the word
abbrev pub gained : WordPlace → ℕ → List ℕ
gained p c = (if keeps_backslash p c then 92 ∷ [] else []) ++ (if is_part p c then c ∷ [] else [])

-- the reading after one more octet
abbrev pub behind_octet : Reading → ℕ → Option Reading
behind_octet r c =
    if not (is_between r.place) && is_between (next_place r.place c) then between (with_word r.words r.word)
    else Some (record { place = next_place r.place c; word = r.word ++ gained r.place c; words = r.words })

-- the words at the end of a line; none where a quote is open or nothing is after a backslash
abbrev pub words_ended : WordPlace → (word : List ℕ) → (words : List (List ℕ)) → Option (List (List ℕ))
words_ended place.Between word words = Some words
words_ended place.Plain word words = with_word words word
words_ended place.Escaped word words = None
words_ended place.Single word words = None
words_ended place.Double word words = None
words_ended place.DoubleEscaped word words = None

-- the words after the rest of a line
abbrev pub words_behind : Reading → List ℕ → Option (List (List ℕ))
words_behind r [] = words_ended r.place r.word r.words
words_behind r (c ∷ cs) = option_and_then (λ next. words_behind next cs) (behind_octet r c)

-- before the first octet of a line, with these words before it
abbrev pub line_begins : List (List ℕ) → Reading
line_begins words = record { place = place.Between; word = []; words = words }

-- words, and after them those of a line, if it has words
abbrev pub with_words : List (List ℕ) → List ℕ → Option (List (List ℕ))
with_words words line = words_behind (line_begins words) line
