use Rattle.std.proofs.Common.{◌∙◌, rules, sym}
use Rattle.h2_explain_item.proofs.FieldLaws.{alone-next, alone-not, alone-only, member-within}
use Rattle.h2_explain_item.proofs.diagnosis.field_facts.is_trailers_alone.Goals as goal

pub octets_up_to-requires : goal.octets_up_to-requires
octets_up_to-requires c = member-within c.members.rest.now _ c.end_of_member-end.ensures

pub returns-then-not-is_trailers_member : goal.returns-then-not-is_trailers_member
returns-then-not-is_trailers_member c =
    sym (c.members.invariant ∙ alone-not c.members.rest.now _ _ _ c.end_of_member-end.ensures c.octets_up_to.ensures c.is_trailers_member.ensures (search rules))

pub returns-then-end-rest : goal.returns-then-end-rest
returns-then-end-rest c =
    sym (c.members.invariant ∙ alone-only c.members.rest.now _ _ _ c.end_of_member-end.ensures c.octets_up_to.ensures c.is_trailers_member.ensures (search rules) (search rules))

pub members-preserved : goal.members-preserved
members-preserved c =
    rw c.octets_from-rest.ensures
    (c.members.invariant ∙ alone-next c.members.rest.now _ _ _ c.end_of_member-end.ensures c.octets_up_to.ensures c.is_trailers_member.ensures (search rules) (search rules))
