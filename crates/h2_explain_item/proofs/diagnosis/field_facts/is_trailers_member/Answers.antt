use Rattle.std.proofs.Common.{◌≡◌, refl, rules, sym}
use Rattle.std.proofs.lemmas.Str.Ascii.{trim_ascii_is}
use Rattle.h2_explain_item.specs.FieldFacts.{trimmed}
use Rattle.h2_explain_item.proofs.diagnosis.field_facts.is_trailers_member.Goals as goal

pub returns-then-is_empty : goal.returns-then-is_empty
returns-then-is_empty c =
    let is : trimmed c.args.member.now ≡ c.trim_ascii-member.result.now = sym (trim_ascii_is _ _ _ refl c.trim_ascii-member.ensures.value) in
    rw is (search rules)

pub returns-else-is_empty : goal.returns-else-is_empty
returns-else-is_empty c =
    let is : trimmed c.args.member.now ≡ c.trim_ascii-member.result.now = sym (trim_ascii_is _ _ _ refl c.trim_ascii-member.ensures.value) in
    rw is (search rules)
