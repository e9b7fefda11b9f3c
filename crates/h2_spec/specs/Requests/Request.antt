-- Which fields make a request or trailers, and what a request asks for (RFC 9113, 8.1 to 8.5).
use Rattle.std.specs.Prelude.{ℕ, ◌+◌, ◌-◌, ◌*◌, Bool, false, ◌&&◌, ◌||◌, not, List, [], ◌∷◌, length, drop, nat_le, ◌==◌, if◌then◌else◌, codes, bytes_eq, Option, Some, None, is_some, is_none, unwrap_or, map, fold}
use Rattle.std.specs.Option.{option_map}
use Rattle.std.specs.Char.{to_ascii_lowercase}
use Rattle.std.specs.List.{list_any, list_all}
use Rattle.h2_spec.specs.declared.causes.Cause.{Cause}
use Rattle.h2_spec.specs.declared.causes.Cause.TheVariants.{BadName, BadValue, LatePseudoField, UnknownPseudoField, DoublePseudoField, LackingPseudoField, ConnectionField, BadTe, BadContentLength, TrailersBadName, TrailersBadValue, TrailersPseudoField, TrailersConnectionField, TrailersBadTe}
use Rattle.h2_spec.specs.Hpack.Field.{Field}

-- ---- one field

-- whether a number lies between two others, or is one of them
abbrev pub is_between : ℕ → ℕ → ℕ → Bool
is_between low high c = nat_le low c && nat_le c high

-- the first octet, if there is one, passes the test
abbrev pub first_is : (ℕ → Bool) → List ℕ → Bool
first_is test [] = false
first_is test (x ∷ xs) = test x

-- and the last one
abbrev pub last_is : (ℕ → Bool) → List ℕ → Bool
last_is test [] = false
last_is test (x ∷ []) = test x
last_is test (x ∷ y ∷ ys) = last_is test (y ∷ ys)

-- the sign before the name of a pseudo-field
abbrev pub is_colon : ℕ → Bool
is_colon c = c == 58

-- the name begins with a colon (8.3)
abbrev pub is_pseudo : Field → Bool
is_pseudo f = first_is is_colon f.name

-- whether the field has this name
abbrev pub is_named : List ℕ → Field → Bool
is_named name f = bytes_eq f.name name

-- the name is one of these
abbrev pub is_among : List (List ℕ) → Field → Bool
is_among names f = list_any (λ name. is_named name f) names

-- an octet that no name has: a control, a space, a capital letter, or one from 7f on (8.2.1)
abbrev pub is_outside_names : ℕ → Bool
is_outside_names c = nat_le c 0x20 || is_between 0x41 0x5a c || nat_le 0x7f c

-- 1: a name is empty, has an octet outside names, or a colon that isn't its first octet (8.2.1)
abbrev pub has_bad_name : Field → Bool
has_bad_name f = length f.name == 0 || list_any is_outside_names f.name || list_any is_colon (drop 1 f.name)

-- an octet that no value has: NUL, LF or CR (8.2.1)
abbrev pub is_outside_values : ℕ → Bool
is_outside_values c = c == 0x00 || c == 0x0a || c == 0x0d

-- a space or a tab
abbrev pub is_blank : ℕ → Bool
is_blank c = c == 0x20 || c == 0x09

-- 2: a value has an octet outside values, or begins or ends with a blank (8.2.1)
abbrev pub has_bad_value : Field → Bool
has_bad_value f = list_any is_outside_values f.value || first_is is_blank f.value || last_is is_blank f.value

-- the pseudo-fields of a request (8.3.1)
abbrev pub request_pseudo : List (List ℕ)
request_pseudo = codes ":method" ∷ codes ":scheme" ∷ codes ":path" ∷ codes ":authority" ∷ []

-- 4: a pseudo-field is none of a request's (8.3)
abbrev pub is_unknown_pseudo : Field → Bool
is_unknown_pseudo f = is_pseudo f && not (is_among request_pseudo f)

-- the fields of an HTTP/1.1 connection (8.2.2)
abbrev pub connection_names : List (List ℕ)
connection_names = codes "connection" ∷ codes "proxy-connection" ∷ codes "keep-alive" ∷ codes "transfer-encoding" ∷ codes "upgrade" ∷ []

-- 7: a field of an HTTP/1.1 connection (8.2.2)
abbrev pub is_of_connection : Field → Bool
is_of_connection f = is_among connection_names f

-- 8: a te field that isn't trailers, in any case of letters (8.2.2)
abbrev pub has_bad_te : Field → Bool
has_bad_te f = is_named (codes "te") f && not (bytes_eq (map to_ascii_lowercase f.value) (codes "trailers"))

-- ---- several fields

-- two fields pass the test, the one before the other
abbrev pub any_two : (Field → Field → Bool) → List Field → Bool
any_two test [] = false
any_two test (f ∷ fs) = list_any (test f) fs || any_two test fs

-- 3: a pseudo-field after a regular field (8.3)
abbrev pub is_late_pseudo : Field → Field → Bool
is_late_pseudo f g = not (is_pseudo f) && is_pseudo g

-- 5: a pseudo-field that was there before (8.3)
abbrev pub is_double_pseudo : Field → Field → Bool
is_double_pseudo f g = is_pseudo f && is_named f.name g

-- the value of the first field of this name
abbrev pub value_named : List ℕ → List Field → Option (List ℕ)
value_named name [] = None
value_named name (f ∷ fs) = if is_named name f then Some f.value else value_named name fs

-- there is a value, and it is these octets
abbrev pub is_value : List ℕ → Option (List ℕ) → Bool
is_value octets None = false
is_value octets (Some value) = bytes_eq value octets

-- the method is CONNECT (8.5)
abbrev pub is_connect : List Field → Bool
is_connect fields = is_value (codes "CONNECT") (value_named (codes ":method") fields)

-- CONNECT has an authority alone (8.5)
abbrev pub lacks_for_connect : List Field → Bool
lacks_for_connect fields =
    is_none (value_named (codes ":authority") fields) || is_some (value_named (codes ":scheme") fields) || is_some (value_named (codes ":path") fields)

-- any other method has a scheme, and a path that isn't empty (8.3.1)
abbrev pub lacks_for_others : List Field → Bool
lacks_for_others fields =
    is_none (value_named (codes ":scheme") fields) || length (unwrap_or (value_named (codes ":path") fields) []) == 0

-- 6: a pseudo-field that has to be there is not, or one is there that may not be (8.3.1, 8.5)
abbrev pub lacks_pseudo : List Field → Bool
lacks_pseudo fields =
    is_none (value_named (codes ":method") fields) || (if is_connect fields then lacks_for_connect fields else lacks_for_others fields)

-- the number that decimal digits write
abbrev pub decimal_value : List ℕ → ℕ
decimal_value ds = fold (λ n d. 10 * n + (d - 48)) 0 ds

-- 1 to 18 decimal digits
abbrev pub is_digits : List ℕ → Bool
is_digits ds = is_between 1 18 (length ds) && list_all (is_between 48 57) ds

-- whether the field is content-length
abbrev pub is_content_length : Field → Bool
is_content_length f = is_named (codes "content-length") f

-- 9: a content-length isn't 1 to 18 digits (8.1.1)
abbrev pub has_bad_length : Field → Bool
has_bad_length f = is_content_length f && not (is_digits f.value)

-- 9: two content-lengths are different numbers (8.1.1)
abbrev pub is_other_length : Field → Field → Bool
is_other_length f g = is_content_length f && is_content_length g && not (decimal_value g.value == decimal_value f.value)

-- ---- the reasons

-- the first number whose test holds
abbrev pub least_holding : List (ℕ × Bool) → Option ℕ
least_holding [] = None
least_holding (row ∷ rows) = if row.1 then Some row.0 else least_holding rows

-- why the fields make no request: the least reason that holds
unfoldable pub malformed : List Field → Option ℕ
malformed fields = least_holding (
    (1, list_any has_bad_name fields) ∷
    (2, list_any has_bad_value fields) ∷
    (3, any_two is_late_pseudo fields) ∷
    (4, list_any is_unknown_pseudo fields) ∷
    (5, any_two is_double_pseudo fields) ∷
    (6, lacks_pseudo fields) ∷
    (7, list_any is_of_connection fields) ∷
    (8, list_any has_bad_te fields) ∷
    (9, list_any has_bad_length fields || any_two is_other_length fields) ∷ [])

-- why the fields make no trailers, by the same numbers (8.1); trailers have no pseudo-field
unfoldable pub malformed_trailers : List Field → Option ℕ
malformed_trailers fields = least_holding (
    (1, list_any has_bad_name fields) ∷
    (2, list_any has_bad_value fields) ∷
    (4, list_any is_pseudo fields) ∷
    (7, list_any is_of_connection fields) ∷
    (8, list_any has_bad_te fields) ∷ [])

-- the cause by a reason's number, of a request
abbrev pub request_cause : ℕ → Cause
request_cause n =
    if n == 1 then BadName
    else if n == 2 then BadValue
    else if n == 3 then LatePseudoField
    else if n == 4 then UnknownPseudoField
    else if n == 5 then DoublePseudoField
    else if n == 6 then LackingPseudoField
    else if n == 7 then ConnectionField
    else if n == 8 then BadTe
    else BadContentLength

-- the cause by a reason's number, of trailers
abbrev pub trailers_cause : ℕ → Cause
trailers_cause n =
    if n == 1 then TrailersBadName
    else if n == 2 then TrailersBadValue
    else if n == 4 then TrailersPseudoField
    else if n == 7 then TrailersConnectionField
    else TrailersBadTe

-- why fields make no request
abbrev pub request_fault : List Field → Option Cause
request_fault fields = option_map request_cause (malformed fields)

-- why fields make no trailers
abbrev pub trailers_fault : List Field → Option Cause
trailers_fault fields = option_map trailers_cause (malformed_trailers fields)

-- ---- what is asked for

-- the number of the content-length, if there is one (8.1.1)
unfoldable pub declared_length : List Field → Option ℕ
declared_length fields = option_map decimal_value (value_named (codes "content-length") fields)

-- what a request asks for (8.3.1)
pub record Request : Type 0 where
  -- whether the method is CONNECT
  pub connect : Bool
  pub method : List ℕ
  -- empty for CONNECT
  pub path : List ℕ
  -- the number of the content-length, if there is one
  pub declared : Option ℕ

-- the value of the first field of this name, or no octets
abbrev pub octets_named : List ℕ → List Field → List ℕ
octets_named name fields = unwrap_or (value_named name fields) []

-- what well-formed fields ask for (8.3.1, 8.5)
unfoldable pub request_of : List Field → Request
unfolding declared_length
request_of fields = record {
  connect = is_connect fields;
  method = octets_named (codes ":method") fields;
  path = if is_connect fields then [] else octets_named (codes ":path") fields;
  declared = declared_length fields;
}
