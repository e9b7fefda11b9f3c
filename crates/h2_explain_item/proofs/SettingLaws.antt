-- Settings of a frame, one after another.
use Rattle.std.proofs.Common.{◌≡◌, ◌∙◌, ◌+◌, ◌||◌, ℕ, Bool, false, List, Some, ap, sym, take}
use Rattle.std.specs.List.{list_any, slice_get}
use Rattle.std.proofs.lemmas.List.Folds.{list_any_more}
use Rattle.std.proofs.lemmas.Option.{get_or_from_slice_get, slice_get_within}
use Rattle.std.proofs.lemmas.List.Sums.{fold_more}
use Rattle.h2_explain_item.specs.CaseFacts.{ends_lawful, lawful_with}
use Rattle.h2_explain_item.specs.FrameFacts.{is_bad_connect}

-- whether one of the first settings is bad, with one more
pub any-more : (pairs : List (ℕ × ℕ)) (n : ℕ) (pair : ℕ × ℕ) (found bad : Bool) → slice_get pairs n ≡ Some pair → found ≡ list_any is_bad_connect (take n pairs) → bad ≡ is_bad_connect pair
    → (found || bad) ≡ list_any is_bad_connect (take (n + 1) pairs)
any-more pairs n pair found bad at before is =
    ap (λ (b : Bool). b || bad) before ∙ ap (λ (b : Bool). list_any is_bad_connect (take n pairs) || b) (is ∙ ap is_bad_connect (sym (get_or_from_slice_get pairs n pair (0, 0) at)))
    ∙ sym (list_any_more is_bad_connect pairs n (0, 0) (slice_get_within pairs n pair at))

-- whether the last window of the first settings is lawful, with one more
pub lawful-more : (pairs : List (ℕ × ℕ)) (n : ℕ) (pair : ℕ × ℕ) (before now : Bool) → slice_get pairs n ≡ Some pair → before ≡ ends_lawful (take n pairs) → now ≡ lawful_with before pair
    → now ≡ ends_lawful (take (n + 1) pairs)
lawful-more pairs n pair before now at is step =
    step ∙ ap (λ (b : Bool). lawful_with b pair) is ∙ ap (λ (p : ℕ × ℕ). lawful_with (ends_lawful (take n pairs)) p) (sym (get_or_from_slice_get pairs n pair (0, 0) at))
    ∙ sym (fold_more lawful_with false pairs n (0, 0) (slice_get_within pairs n pair at))
