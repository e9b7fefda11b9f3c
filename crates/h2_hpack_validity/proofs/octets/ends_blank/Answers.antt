use Rattle.std.proofs.Common.{◌≡◌, ◌∙◌, ℕ, suc, ◌-◌, Bool, List, [], ◌∷◌, Some, length, ap, sym, subst, arith}
use Rattle.std.specs.Prelude.{slice_get}
use Rattle.h2_spec.specs.Requests.Request.{last_is, is_blank}
use Rattle.h2_hpack_validity.proofs.octets.ends_blank.Goals as goal

-- the last octet decides
last_is-slice_get : (test : ℕ → Bool) (xs : List ℕ) (x : ℕ) → slice_get xs (length xs - 1) ≡ Some x → last_is test xs ≡ test x
last_is-slice_get test [] x at = absurd cc
last_is-slice_get test (y ∷ []) x at = let same : y ≡ x = cc in ap test same
last_is-slice_get test (y ∷ z ∷ zs) x at =
    let before : length (y ∷ z ∷ zs) - 1 ≡ suc (length (z ∷ zs) - 1) = omega arith in
    last_is-slice_get test (z ∷ zs) x (subst (λ n. slice_get (y ∷ z ∷ zs) n ≡ Some x) before at)

pub returns-in-Some : goal.returns-in-Some
returns-in-Some c = c.is_space_or_tab.ensures ∙ sym (last_is-slice_get is_blank c.args.value.now c.in-Some.last.now (sym c.in-Some.ensures.value))
