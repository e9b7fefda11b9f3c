use Rattle.std.proofs.Common.{◌≡◌, ◌++◌, ◌∷◌, [], ap, ◌∙◌}
use Rattle.h2_hpack_list.specs.Listed.{Listed}
use Rattle.h2_table.specs.Lent.{field_lent}
use Rattle.h2_fields.proofs.Applying.{marks-added, size-behind}
use Rattle.h2_fields.proofs.collected.Collected.add_like.Goals as goal

pub invariant_of-self-2 : goal.invariant_of-self-2
invariant_of-self-2 g c =
    let l = c.self.inside.list.fields in
    let f = field_lent c.args.added in
    let fields : c.append_like.new.self.fields ≡ l ++ f ∷ [] = ap (λ (l : Listed). l.fields) c.in_ok-append_like.ensures.ok in (
      c.saturating_add-self-inside.ensures ∙ size-behind c.self.inside.shared l _ f c.self.inside.size c.size_of-size.result c.self.invariant.0 c.size_of-size.ensures fields,
      c.push_reserved.ensures.items ∙ ap (λ ms. ms ++ c.args.added.mark ∷ []) c.in_ok-reserve.ensures.items ∙ marks-added c.self.inside.marks.items l _ f c.args.added.mark c.self.invariant.1 c.requires.marked fields,
    )
