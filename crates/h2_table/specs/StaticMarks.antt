-- The marks of the static table's entries.
use Rattle.std.specs.Prelude.{false}
use Rattle.h2_hpack_validity.specs.declared.mark.KnownName.{KnownName}
use Rattle.h2_hpack_validity.specs.declared.mark.FieldMark.{FieldMark}

-- the mark of an entry with this name: none of them is malformed
abbrev pub mark_with : KnownName → FieldMark
mark_with known = record { known = known; bad_name = false; bad_value = false; bad_te = false }
