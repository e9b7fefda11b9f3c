-- Marks of fields, computed (RFC 9113, 8.2 and 8.3).
use Rattle.std.specs.Prelude.{◌≡◌, Bool, true, false, List, [], ◌∷◌, map, codes, refl}
use Prim.Native.String.{String}
use Rattle.h2_spec.specs.Hpack.Field.{field}
use Rattle.h2_hpack_validity.specs.declared.mark.KnownName.{KnownName}
use Rattle.h2_hpack_validity.specs.declared.mark.KnownName.TheVariants.{Path, OtherPseudo, Te, OfConnection, Other}
use Rattle.h2_hpack_validity.specs.declared.mark.FieldMark.{FieldMark}
use Rattle.h2_hpack_validity.specs.Mark.{mark_of, known_of}

-- a name and a value, which of the known names it is, and whether the name, the value or te is bad
abbrev Row : Type 0
Row = String × String × KnownName × Bool × Bool × Bool

abbrev marked : List Row
marked =
    (":path", "/", Path, false, false, false) ∷
    (":status", "200", OtherPseudo, false, false, false) ∷
    ("accept", "*/*", Other, false, false, false) ∷
    ("Accept", "*/*", Other, true, false, false) ∷
    ("a:b", "", Other, true, false, false) ∷
    ("", "", Other, true, false, false) ∷
    ("cookie", "a=b ", Other, false, true, false) ∷
    ("cookie", "a\r", Other, false, true, false) ∷
    ("upgrade", "h2c", OfConnection, false, false, false) ∷
    ("te", "Trailers", Te, false, false, false) ∷
    ("te", "gzip", Te, false, false, true) ∷ []

abbrev mark : Row → FieldMark
mark row = record { known = row.2; bad_name = row.3; bad_value = row.4; bad_te = row.5 }

fields_have_marks : map (λ (row : Row). mark_of (field (codes row.0) (codes row.1))) marked ≡ map mark marked
unfolding mark_of known_of
fields_have_marks = refl
