-- Octets in hex, part after part.
use Rattle.std.proofs.Common.{◌≡◌, ◌∙◌, ℕ, List, [], ◌∷◌, ◌++◌, refl, sym, ap, append_assoc, append-nil}
use Rattle.hex.specs.Hex.{encode_lower, encode_with}

-- a part more is done
pub text-next : (done part rest more all : List ℕ) → rest ≡ part ++ more → done ++ rest ≡ all → (done ++ part) ++ more ≡ all
text-next done part rest more all e q = append_assoc done part more ∙ ap (λ (t : List ℕ). done ++ t) (sym e) ∙ q

-- all is done
pub text-end : (done rest all : List ℕ) → rest ≡ [] → done ++ rest ≡ all → done ≡ all
text-end done rest all e q = sym (append-nil done) ∙ ap (λ (t : List ℕ). done ++ t) (sym e) ∙ q

pub hex-none : encode_lower [] ≡ []
unfolding encode_with
hex-none = refl

pub hex-append : (xs ys : List ℕ) → encode_lower (xs ++ ys) ≡ encode_lower xs ++ encode_lower ys
unfolding encode_with
hex-append [] ys = refl
hex-append (x ∷ xs) ys = ap (λ (t : List ℕ). encode_lower (x ∷ []) ++ t) (hex-append xs ys)
