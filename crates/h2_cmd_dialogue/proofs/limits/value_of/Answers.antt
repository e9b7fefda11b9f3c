use Rattle.std.proofs.Common.{◌≡◌, ◌∙◌, ◌+◌, ℕ, List, ◌∷◌, drop, ap, sym, Some, Option}
use Rattle.std.specs.List.{slice_get}
use Rattle.std.proofs.lemmas.List.{drop_more}
use Rattle.std.proofs.lemmas.Option.{get_or_from_slice_get, slice_get_within}
use Rattle.h2_frame.specs.Parts.{settings_in}
use Rattle.h2_cmd_dialogue.specs.Limits.{value_of}
use Rattle.h2_cmd_dialogue.proofs.limits.value_of.Goals as goal

drop-at : (n : ℕ) (ps : List (ℕ × ℕ)) (p : ℕ × ℕ) → slice_get ps n ≡ Some p → drop n ps ≡ p ∷ drop (n + 1) ps
drop-at n ps p e = drop_more ps n p (slice_get_within ps n p e) ∙ ap (λ (q : ℕ × ℕ). q ∷ drop (n + 1) ps) (get_or_from_slice_get ps n p p e)

pub loop-place-preserved : goal.loop-place-preserved
loop-place-preserved c =
    let pairs : List (ℕ × ℕ) = settings_in c.args.settings in
    ap (λ (v : Option ℕ). value_of c.args.id v (drop (c.loop-place.place + 1) pairs)) c.with_first-value.ensures
    ∙ ap (λ (xs : List (ℕ × ℕ)). value_of c.args.id c.loop-place.value xs) (sym (drop-at c.loop-place.place pairs c.pair_at.result c.pair_at.ensures))
    ∙ c.loop-place.invariant
