-- What a walk over fields has seen so far, and how one field more changes it.
use Rattle.std.specs.Prelude.{ℕ, Bool, true, ◌||◌, not, ◌==◌, List, codes, if◌then◌else◌, Option, Some, None, is_some, unwrap_or}
use Rattle.h2_spec.specs.Hpack.Field.{Field}
use Rattle.h2_spec.specs.Requests.Request.{is_pseudo, is_named, has_bad_name, has_bad_value, is_of_connection, has_bad_te, is_content_length, is_digits, decimal_value}
use Rattle.h2_request_well_formed.specs.declared.walk.ListMark.{ListMark}
use Rattle.h2_request_well_formed.specs.declared.walk.ContentLength.{ContentLength}
use Rattle.h2_request_well_formed.specs.declared.walk.PseudoFields.{PseudoFields}
use Rattle.std.specs.Option.{option_copied}

-- ---- fields alone

abbrev pub marked : ListMark → Field → ListMark
marked m f = record {
  bad_name = m.bad_name || has_bad_name f;
  bad_value = m.bad_value || has_bad_value f;
  pseudo = m.pseudo || is_pseudo f;
  of_connection = m.of_connection || is_of_connection f;
  bad_te = m.bad_te || has_bad_te f;
}

-- ---- pseudo-fields

-- whether there was a regular field, a pseudo-field after one, one that is none of a request's, one of these twice; and
-- their first values
pub record Pseudo : Type 0 where
  pub regular : Bool
  pub late : Bool
  pub unknown : Bool
  pub double : Bool
  pub method : Option (List ℕ)
  pub scheme : Option (List ℕ)
  pub path : Option (List ℕ)
  pub authority : Option (List ℕ)

-- what contracts see of the pseudo-fields
abbrev pub pseudo_of : PseudoFields → Pseudo
pseudo_of p = record {
  regular = p.regular;
  late = p.late;
  unknown = p.unknown;
  double = p.double;
  method = option_copied p.method;
  scheme = option_copied p.scheme;
  path = option_copied p.path;
  authority = option_copied p.authority;
}

-- a pseudo-field more
abbrev pub with_pseudo : Pseudo → Field → Pseudo
with_pseudo p f =
    if is_named (codes ":method") f then record p { double = p.double || is_some p.method; method = Some (unwrap_or p.method f.value) }
    else if is_named (codes ":scheme") f then record p { double = p.double || is_some p.scheme; scheme = Some (unwrap_or p.scheme f.value) }
    else if is_named (codes ":path") f then record p { double = p.double || is_some p.path; path = Some (unwrap_or p.path f.value) }
    else if is_named (codes ":authority") f then record p { double = p.double || is_some p.authority; authority = Some (unwrap_or p.authority f.value) }
    else record p { unknown = true }

abbrev pub noted : Pseudo → Field → Pseudo
noted p f = if is_pseudo f then with_pseudo (record p { late = p.late || p.regular }) f else record p { regular = true }

-- ---- content-length

-- another number: it is the first, or has to be the same
abbrev pub with_number : Option ℕ → Bool → ℕ → ContentLength
with_number None bad n = record { declared = Some n; bad = bad }
with_number (Some first) bad n = record { declared = Some first; bad = bad || not (n == first) }

abbrev pub measured : ContentLength → Field → ContentLength
measured l f =
    if is_content_length f then (if is_digits f.value then with_number l.declared l.bad (decimal_value f.value) else record l { bad = true })
    else l
