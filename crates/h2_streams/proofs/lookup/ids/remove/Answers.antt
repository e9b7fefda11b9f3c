use Rattle.std.proofs.Common.{◌≡◌, ◌<◌, length, get_or, ◌∙◌, ap, sym, subst, Err, nat_cmp}
use Rattle.std.proofs.lemmas.Map.Lookups.{exact_unsigned}
use Rattle.std.specs.List.Sorted.{IsBinarySearchResult}
use Rattle.h2_streams.proofs.IdsLaws.{without-at, without-searched}
use Rattle.h2_streams.proofs.lookup.ids.remove.Goals as goal

pub returns-in-Ok-clause-items : goal.returns-in-Ok-clause-items
returns-in-Ok-clause-items g c =
    let ids = c.args.ids.now.items in
    let i = c.in-Ok.place in
    let within : i < length ids = subst (λ xs. i < length xs) c.deref.ensures.value c.in-Ok.ensures.bound in
    let here : get_or ids i 0 ≡ c.args.id = ap (λ xs. get_or xs i 0) (sym c.deref.ensures.value) ∙ exact_unsigned _ _ (c.in-Ok.ensures.ok 0) in
    c.remove.ensures.items ∙ without-at 0 ids i c.args.id c.requires within here

pub returns-in_default-clause-items : goal.returns-in_default-clause-items
returns-in_default-clause-items g c =
    sym (without-searched c.args.ids.now.items c.args.id c.in_default.field-0 c.requires
    (subst (λ xs. IsBinarySearchResult (λ y. nat_cmp y c.args.id) xs (Err c.in_default.field-0)) c.deref.ensures.value c.in_default.ensures.position))
