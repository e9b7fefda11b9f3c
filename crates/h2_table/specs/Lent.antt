-- Fields that a table lends.
use Rattle.std.specs.Prelude.{◌≡◌}
use Rattle.h2_spec.specs.Hpack.Field.{Field, field}
use Rattle.h2_hpack_validity.specs.Mark.{mark_of}
use Rattle.h2_table.specs.declared.lent.LentField.{LentField}

-- the field that is lent with its mark
abbrev pub field_lent : LentField → Field
field_lent l = field l.name.now l.value.now

-- the mark that is beside a lent field is the field's
abbrev pub IsMarked : LentField → Type 0
IsMarked l = l.mark ≡ mark_of (field_lent l)
