-- What an output has after one text and then another.
use Rattle.std.proofs.Common.{◌≡◌, ℕ, List, ◌++◌, Option, subst}
use Rattle.std.proofs.KnownBytes.{Appends-trans}
use Rattle.std.specs.Io.KnownBytes.{Appends}

pub both : (old mid new : Option (List ℕ)) (xs ys : List ℕ) → Appends old mid xs → Appends mid new ys → Appends old new (xs ++ ys)
both old mid new xs ys x y = Appends-trans old mid new xs ys x y

-- the same text, said in another way
pub appends-same : (old new : Option (List ℕ)) (xs ys : List ℕ) → xs ≡ ys → Appends old new xs → Appends old new ys
appends-same old new xs ys e x = subst (λ (t : List ℕ). Appends old new t) e x
