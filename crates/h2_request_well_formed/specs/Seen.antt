-- What a walk has noted once it has seen a list of fields: the tests of the definitions, of the whole list.
use Rattle.std.specs.Prelude.{◌≡◌, ℕ, Bool, false, ◌||◌, not, ◌==◌, List, [], ◌∷◌, length, codes, if◌then◌else◌, Option, is_some, is_none, unwrap_or}
use Rattle.std.specs.Option.{option_map}
use Rattle.std.specs.List.{list_any}
use Rattle.h2_spec.specs.Hpack.Field.{Field}
use Rattle.h2_spec.specs.Requests.Request.{is_pseudo, has_bad_name, has_bad_value, is_unknown_pseudo, is_of_connection, has_bad_te, decimal_value, has_bad_length, is_other_length, is_late_pseudo, is_double_pseudo, value_named, any_two, is_value, least_holding}
use Rattle.h2_request_well_formed.specs.Walk.{Pseudo, pseudo_of}
use Rattle.h2_request_well_formed.specs.declared.walk.ListMark.{ListMark}
use Rattle.h2_request_well_formed.specs.declared.walk.ContentLength.{ContentLength}
use Rattle.h2_request_well_formed.specs.declared.walk.FieldScan.{FieldScan}

-- what is marked of these fields
pub record AreMarks (fields : List Field) (m : ListMark) : Type 0 where
  pub bad_name : m.bad_name ≡ list_any has_bad_name fields
  pub bad_value : m.bad_value ≡ list_any has_bad_value fields
  pub pseudo : m.pseudo ≡ list_any is_pseudo fields
  pub of_connection : m.of_connection ≡ list_any is_of_connection fields
  pub bad_te : m.bad_te ≡ list_any has_bad_te fields

-- what is noted of these fields; whether one is there twice is known where each is one of a request's
pub record ArePseudo (fields : List Field) (p : Pseudo) : Type 0 where
  pub regular : p.regular ≡ list_any (λ f. not (is_pseudo f)) fields
  pub late : p.late ≡ any_two is_late_pseudo fields
  pub unknown : p.unknown ≡ list_any is_unknown_pseudo fields
  pub double : p.unknown ≡ false → p.double ≡ any_two is_double_pseudo fields
  pub method : p.method ≡ value_named (codes ":method") fields
  pub scheme : p.scheme ≡ value_named (codes ":scheme") fields
  pub path : p.path ≡ value_named (codes ":path") fields
  pub authority : p.authority ≡ value_named (codes ":authority") fields

-- what is measured of these fields; the number is known where no content-length is bad
pub record IsLength (fields : List Field) (l : ContentLength) : Type 0 where
  pub bad : l.bad ≡ (list_any has_bad_length fields || any_two is_other_length fields)
  pub declared : l.bad ≡ false → l.declared ≡ option_map decimal_value (value_named (codes "content-length") fields)

-- what is seen of these fields
pub record AreSeen (fields : List Field) (seen : FieldScan) : Type 0 where
  pub marks : AreMarks fields seen.marks
  pub pseudo : ArePseudo fields (pseudo_of seen.pseudo)
  pub length : IsLength fields seen.length

-- whether something lacks, by the values of the pseudo-fields
abbrev pub is_lacking : Pseudo → Bool
is_lacking p =
    is_none p.method || (if is_value (codes "CONNECT") p.method then is_none p.authority || is_some p.scheme || is_some p.path
    else is_none p.scheme || length (unwrap_or p.path []) == 0)

-- the least reason against a request of which this is seen
abbrev pub seen_reason : ListMark → Pseudo → ContentLength → Option ℕ
seen_reason m p l = least_holding (
    (1, m.bad_name) ∷
    (2, m.bad_value) ∷
    (3, p.late) ∷
    (4, p.unknown) ∷
    (5, p.double) ∷
    (6, is_lacking p) ∷
    (7, m.of_connection) ∷
    (8, m.bad_te) ∷
    (9, l.bad) ∷ [])

-- the least reason against trailers
abbrev pub seen_trailers_reason : ListMark → Option ℕ
seen_trailers_reason m = least_holding ((1, m.bad_name) ∷ (2, m.bad_value) ∷ (4, m.pseudo) ∷ (7, m.of_connection) ∷ (8, m.bad_te) ∷ [])
