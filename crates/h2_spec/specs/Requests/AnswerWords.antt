-- The words of an answer: METHOD|PATH|STATUS|BODYHEX, and any number of parts |NAME=VALUE, and at most one part |early.
use Rattle.std.specs.Prelude.{ℕ, ◌+◌, Bool, ◌&&◌, ◌==◌, List, [], ◌∷◌, length, nat_lt, codes, bytes_eq, if◌then◌else◌, Option, Some, None, Result, Ok, Err}
use Rattle.std.specs.List.{list_any, list_all, before_first, after_first}
use Rattle.hex.specs.Hex.{decode_of, decode_pairs}
use Rattle.hex.specs.declared.error.FromHexError.{FromHexError}
use Rattle.h2_spec.specs.Hpack.Field.{Field, field}
use Rattle.h2_spec.specs.Requests.Request.{is_between, decimal_value}
use Rattle.h2_spec.specs.Requests.Answer.{Entry, answer}

-- the sign between parts
abbrev pub is_bar : ℕ → Bool
is_bar c = c == 124

-- the sign between a name and its value
abbrev pub is_equals_sign : ℕ → Bool
is_equals_sign c = c == 61

-- an octet before parts: a bar begins a part of its own, any other octet is in the first part
abbrev pub with_octet : ℕ → List (List ℕ) → List (List ℕ)
with_octet c [] = []
with_octet c (part ∷ parts) = if is_bar c then [] ∷ part ∷ parts else (c ∷ part) ∷ parts

-- the parts between the bars of a text, one more than it has bars
abbrev pub parts_of : List ℕ → List (List ℕ)
parts_of [] = [] ∷ []
parts_of (c ∷ cs) = with_octet c (parts_of cs)

-- STATUS: three decimal digits
abbrev pub status_of : List ℕ → Option ℕ
status_of digits = if length digits == 3 && list_all (is_between 48 57) digits then Some (decimal_value digits) else None

-- what was decoded, if it was
abbrev pub ok_or_none : Result (List ℕ) FromHexError → Option (List ℕ)
ok_or_none (Ok octets) = Some octets
ok_or_none (Err e) = None

-- BODYHEX: pairs of hex digits in either case, or none
abbrev pub body_of : List ℕ → Option (List ℕ)
body_of digits = ok_or_none (decode_of digits)

-- NAME=VALUE, cut at the first sign
abbrev pub field_of : List ℕ → Option Field
field_of part = if list_any is_equals_sign part then Some (field (before_first is_equals_sign part) (after_first is_equals_sign part)) else None

-- a field more, where it and those after it are fields
abbrev pub with_field : Option Field → Option (List Field) → Option (List Field)
with_field (Some f) (Some fs) = Some (f ∷ fs)
with_field (Some f) None = None
with_field None fs = None

-- the word of an early answer
abbrev pub is_early_word : List ℕ → Bool
is_early_word part = bytes_eq part (codes "early")

-- how many of the parts are that word
abbrev pub early_words : List (List ℕ) → ℕ
early_words [] = 0
early_words (part ∷ parts) = if is_early_word part then early_words parts + 1 else early_words parts

-- whether the answer is early, by how many parts are the word: at most one may be
abbrev pub early_of : ℕ → Option Bool
early_of count = if nat_lt 1 count then None else Some (count == 1)

-- the fields that the other parts say, if each says one
abbrev pub fields_of : List (List ℕ) → Option (List Field)
fields_of [] = Some []
fields_of (part ∷ parts) = if is_early_word part then fields_of parts else with_field (field_of part) (fields_of parts)

-- the entry, where each part is what it has to be
abbrev pub entry_with : List ℕ → List ℕ → Option ℕ → Option (List ℕ) → Option (List Field) → Option Bool → Option Entry
entry_with method path (Some status) (Some body) (Some fields) (Some early) =
    Some (record { method = method; path = path; answer = record (answer status fields body) { early = early } })
entry_with method path (Some status) (Some body) (Some fields) None = None
entry_with method path (Some status) (Some body) None early = None
entry_with method path (Some status) None fields early = None
entry_with method path None body fields early = None

-- the entry that these parts make: there are four or more
abbrev pub entry_of_parts : List (List ℕ) → Option Entry
entry_of_parts [] = None
entry_of_parts (method ∷ []) = None
entry_of_parts (method ∷ path ∷ []) = None
entry_of_parts (method ∷ path ∷ status ∷ []) = None
entry_of_parts (method ∷ path ∷ status ∷ body ∷ parts) = entry_with method path (status_of status) (body_of body) (fields_of parts) (early_of (early_words parts))

-- the entry that a text says, if it says one
unfoldable pub entry_of : List ℕ → Option Entry
unfolding decode_pairs
entry_of text = entry_of_parts (parts_of text)
