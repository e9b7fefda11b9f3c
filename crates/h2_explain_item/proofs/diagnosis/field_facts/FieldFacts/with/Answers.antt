use Rattle.std.proofs.Common.{refl}
use Rattle.h2_explain_item.proofs.diagnosis.field_facts.FieldFacts.with.Goals as goal

pub returns : goal.returns
returns c =
    rw (c.has_taken_or_empty_name.ensures, c.same.ensures, c.has_connect.ensures, c.same-2.ensures, c.has_other_scheme.ensures, c.has_empty_path.ensures, c.has_trailers_alone.ensures, c.has_short_length.ensures, c.has_length.ensures) refl
