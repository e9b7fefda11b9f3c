-- Tests of which none holds.
use Rattle.std.proofs.Common.{◌≡◌, ℕ, Bool, true, false, ◌||◌, cond, Option, Some, None, refl}

pub neither : (a b : Bool) → (a || b) ≡ false → (a ≡ false) × (b ≡ false)
neither true b e = absurd (true_is e)
  where
    true_is : true ≡ false → ⊥
    true_is k = cc
neither false b e = (refl, e)

-- where no row holds, the first doesn't, and none of the others
pub past : (t : Bool) (n : ℕ) (o : Option ℕ) → cond t (Some n) o ≡ None → (t ≡ false) × (o ≡ None)
past true n o e = absurd (some_is e)
  where
    some_is : Some n ≡ None → ⊥
    some_is k = cc
past false n o e = (refl, e)
