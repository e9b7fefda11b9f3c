-- What the fields of a block are, as far as special cases of malformed requests and trailers depend on it (RFC 9113, 8.2 and
-- 8.3).
use Rattle.std.specs.Prelude.{ℕ, ◌-◌, Bool, true, ◌&&◌, ◌||◌, not, List, [], ◌∷◌, length, take, drop, ◌==◌, if◌then◌else◌, codes, bytes_eq, map, Option, Some, None}
use Rattle.std.specs.Char.{is_ascii_whitespace, to_ascii_lowercase}
use Rattle.std.specs.List.{list_any, list_all, prefix_len, suffix_len}
use Rattle.h2_spec.specs.Hpack.Field.{Field}
use Rattle.h2_spec.specs.Requests.Request.{has_bad_name, is_between, is_content_length, is_digits, is_named}
use Rattle.h2_explain_item.specs.declared.diagnosis.field_facts.FieldFacts.{FieldFacts}

-- whether a value is this word, in any case of its letters
abbrev pub is_word : List ℕ → List ℕ → Bool
is_word word value = bytes_eq (map to_ascii_lowercase value) word

-- octets without the blanks around them
abbrev pub trimmed_end : List ℕ → List ℕ
trimmed_end xs = take (length xs - suffix_len is_ascii_whitespace xs) xs

abbrev pub trimmed : List ℕ → List ℕ
trimmed xs = trimmed_end (drop (prefix_len is_ascii_whitespace xs) xs)

-- an octet more in front of the first member
abbrev pub with_octet : ℕ → List (List ℕ) → List (List ℕ)
with_octet c [] = (c ∷ []) ∷ []
with_octet c (m ∷ ms) = (c ∷ m) ∷ ms

-- the members of a list, by its commas (RFC 9110, 5.6.1)
abbrev pub members : List ℕ → List (List ℕ)
members [] = [] ∷ []
members (c ∷ cs) = if c == 44 then [] ∷ members cs else with_octet c (members cs)

-- whether a member is empty, or `trailers` (RFC 9110, 10.1.4)
abbrev pub is_trailers_member : List ℕ → Bool
is_trailers_member member = length (trimmed member) == 0 || is_word (codes "trailers") (trimmed member)

-- whether a list has no member but `trailers`
abbrev pub is_trailers_alone : List ℕ → Bool
is_trailers_alone value = list_all is_trailers_member (members value)

-- whether a field is no te, or one with no member but `trailers` (8.2.2)
abbrev pub has_trailers_alone : Field → Bool
has_trailers_alone f = not (is_named (codes "te") f) || is_trailers_alone f.value

-- whether a scheme is neither http nor https
abbrev pub has_other_scheme : Field → Bool
has_other_scheme f = is_named (codes ":scheme") f && not (is_word (codes "http") f.value || is_word (codes "https") f.value)

-- whether a field is the method CONNECT (8.5)
abbrev pub has_connect : Field → Bool
has_connect f = is_named (codes ":method") f && bytes_eq f.value (codes "CONNECT")

-- whether a field is a path that is empty (8.3.1)
abbrev pub has_empty_path : Field → Bool
has_empty_path f = is_named (codes ":path") f && length f.value == 0

-- whether the name of a field is taken, or is empty (8.2.1)
abbrev pub has_taken_or_empty_name : Field → Bool
has_taken_or_empty_name f = length f.name == 0 || not (has_bad_name f)

-- whether a field is no content-length, or a number of at most 18 digits, or of any number of them (8.1.1)
abbrev pub has_short_length : Field → Bool
has_short_length f = not (is_content_length f) || is_digits f.value

abbrev pub is_no_digit : ℕ → Bool
is_no_digit octet = not (is_between 48 57 octet)

abbrev pub is_number : List ℕ → Bool
is_number value = not (length value == 0) && not (list_any is_no_digit value)

abbrev pub has_length : Field → Bool
has_length f = not (is_content_length f) || is_number f.value

-- the facts of the fields of a block
unfoldable pub field_facts : List Field → FieldFacts
field_facts fields = record {
  empty_names = list_all has_taken_or_empty_name fields;
  method = list_any (is_named (codes ":method")) fields;
  connect = list_any has_connect fields;
  scheme = list_any (is_named (codes ":scheme")) fields;
  other_scheme = list_any has_other_scheme fields;
  empty_path = list_any has_empty_path fields;
  trailers_alone = list_all has_trailers_alone fields;
  short_lengths = list_all has_short_length fields;
  numeric_lengths = list_all has_length fields;
}

-- with one field more
abbrev pub with_field : FieldFacts → Field → FieldFacts
with_field x f = record {
  empty_names = x.empty_names && has_taken_or_empty_name f;
  method = x.method || is_named (codes ":method") f;
  connect = x.connect || has_connect f;
  scheme = x.scheme || is_named (codes ":scheme") f;
  other_scheme = x.other_scheme || has_other_scheme f;
  empty_path = x.empty_path || has_empty_path f;
  trailers_alone = x.trailers_alone && has_trailers_alone f;
  short_lengths = x.short_lengths && has_short_length f;
  numeric_lengths = x.numeric_lengths && has_length f;
}

abbrev pub facts_with : FieldFacts → Option Field → FieldFacts
facts_with x None = x
facts_with x (Some f) = with_field x f
