use Rattle.std.proofs.Common.{◌≡◌, ◌<◌, ◌≤◌, Bool, cond, length, get_or, ◌∙◌, ap, sym, subst, Err, nat_cmp, arith}
use Rattle.std.proofs.lemmas.Map.Lookups.{exact_unsigned}
use Rattle.std.specs.List.{insert}
use Rattle.std.specs.List.Sorted.{IsBinarySearchResult}
use Rattle.h2_streams.proofs.IdsLaws.{placed-at, placed-searched, length-insert}
use Rattle.h2_streams.proofs.lookup.ids.place.Goals as goal

pub returns-in_default-clause-items : goal.returns-in_default-clause-items
returns-in_default-clause-items g c =
    let ids = c.args.ids.now.items in
    let i = c.in_default.field-0 in
    let within : i < length ids = subst (λ xs. i < length xs) c.deref.ensures.value c.in_default.ensures.bound in
    let here : get_or ids i 0 ≡ c.args.id = ap (λ xs. get_or xs i 0) (sym c.deref.ensures.value) ∙ exact_unsigned _ _ (c.in_default.ensures.ok 0) in
    sym (placed-at 0 ids i c.args.id c.requires.rising within here)

pub returns-in-Err-clause-items : goal.returns-in-Err-clause-items
returns-in-Err-clause-items g c =
    let ids = c.args.ids.now.items in
    let i = c.in-Err.place in
    let id = c.args.id in
    let found = placed-searched ids id i c.requires.rising (subst (λ xs. IsBinarySearchResult (λ y. nat_cmp y id) xs (Err i)) c.deref.ensures.value c.in-Err.ensures.position) in
    let within : i ≤ length ids = subst (λ xs. i ≤ length xs) c.deref.ensures.value c.in-Err.ensures.bound in
    let longer = ap length found ∙ length-insert ids i id within in
    let enough = c.requires.enough in
    let len = ap length (sym c.deref.ensures.value) ∙ c.deref.ensures.len in
    let done = c.insert.ensures.succeeds (omega (arith, longer, enough, len)) in
    c.insert.ensures.items ∙ ap (λ (t : Bool). cond t (insert ids i id) ids) done ∙ sym found
