-- Lists of fields in either form.
use Rattle.std.specs.Prelude.{List}
use Rattle.h2_spec.specs.Hpack.Field.{Field}
use Rattle.h2_request_well_formed.specs.declared.fields.Fields.{Fields}
use Rattle.h2_request_well_formed.specs.declared.fields.Fields.TheVariants.{Slice, Block}

abbrev pub fields_in : {A : Type 0} → Fields A → List Field
fields_in (Slice fields) = fields.now
fields_in (Block fields) = fields.now.fields
