-- What the mark of a field adds to what a walk over fields has seen.
use Rattle.std.specs.Prelude.{ℕ, ◌||◌, List, if◌then◌else◌, true, Some, is_some, unwrap_or}
use Rattle.h2_spec.specs.Requests.Request.{is_digits, decimal_value}
use Rattle.h2_hpack_validity.specs.Mark.{begins_with_colon, is_connection}
use Rattle.h2_hpack_validity.specs.declared.mark.KnownName.{KnownName}
use Rattle.h2_hpack_validity.specs.declared.mark.KnownName.TheVariants.{Method, Scheme, Path, Authority, OtherPseudo, ContentLength, Te, OfConnection, Other}
use Rattle.h2_hpack_validity.specs.declared.mark.FieldMark.{FieldMark}
use Rattle.h2_request_well_formed.specs.Walk.{Pseudo, with_number}
use Rattle.h2_request_well_formed.specs.declared.walk.ListMark.{ListMark}
use Rattle.h2_request_well_formed.specs.declared.walk.ContentLength as walk

abbrev pub marked_by : ListMark → FieldMark → ListMark
marked_by m k = record {
  bad_name = m.bad_name || k.bad_name;
  bad_value = m.bad_value || k.bad_value;
  pseudo = m.pseudo || begins_with_colon k.known;
  of_connection = m.of_connection || is_connection k.known;
  bad_te = m.bad_te || k.bad_te;
}

abbrev pub noted_by : Pseudo → KnownName → List ℕ → Pseudo
noted_by p Method v = record p { late = p.late || p.regular; double = p.double || is_some p.method; method = Some (unwrap_or p.method v) }
noted_by p Scheme v = record p { late = p.late || p.regular; double = p.double || is_some p.scheme; scheme = Some (unwrap_or p.scheme v) }
noted_by p Path v = record p { late = p.late || p.regular; double = p.double || is_some p.path; path = Some (unwrap_or p.path v) }
noted_by p Authority v = record p { late = p.late || p.regular; double = p.double || is_some p.authority; authority = Some (unwrap_or p.authority v) }
noted_by p OtherPseudo v = record p { late = p.late || p.regular; unknown = true }
noted_by p ContentLength v = record p { regular = true }
noted_by p Te v = record p { regular = true }
noted_by p OfConnection v = record p { regular = true }
noted_by p Other v = record p { regular = true }

-- a content-length more
abbrev pub counted : walk.ContentLength → List ℕ → walk.ContentLength
counted l v = if is_digits v then with_number l.declared l.bad (decimal_value v) else record l { bad = true }

abbrev pub measured_by : walk.ContentLength → KnownName → List ℕ → walk.ContentLength
measured_by l Method v = l
measured_by l Scheme v = l
measured_by l Path v = l
measured_by l Authority v = l
measured_by l OtherPseudo v = l
measured_by l ContentLength v = counted l v
measured_by l Te v = l
measured_by l OfConnection v = l
measured_by l Other v = l
