-- Octets cut into DATA.
use Rattle.std.proofs.Common.{◌≡◌, ℕ, zero, suc, ◌+◌, ◌-◌, ◌<◌, ◌≤◌, Bool, true, false, List, [], ◌∷◌, ◌++◌, length, take, drop, cond, refl, ap, ◌∙◌, arith, length-drop, nat_le}
use Rattle.h2_spec.specs.SendPending.{data_upto, data_frames, piece}
use Rattle.std.proofs.lemmas.List.{append-nil, drop-drop}
use Rattle.h2_spec.specs.Frames.Frame.{frame_octets, frames_octets}

same : (n k id : ℕ) (ends : Bool) (size : ℕ) (xs : List ℕ) → 0 < size → length xs ≤ n → length xs ≤ k → data_upto n id ends size xs ≡ data_upto k id ends size xs
unfolding data_upto
same zero zero id ends size [] z h g = refl
same zero (suc k) id ends size [] z h g = refl
same (suc n) zero id ends size [] z h g = refl
same (suc n) (suc k) id ends size [] z h g = refl
same zero k id ends size (x ∷ xs) z h g = absurd (omega arith)
same (suc n) zero id ends size (x ∷ xs) z h g = absurd (omega arith)
same (suc n) (suc k) id ends size (x ∷ xs) z h g =
    let shorter : length (drop size (x ∷ xs)) ≤ length xs = omega (arith, length-drop size (x ∷ xs)) in
    ap (λ fs. cond (nat_le (length (x ∷ xs)) size) (piece id ends (x ∷ xs) ∷ []) (piece id false (take size (x ∷ xs)) ∷ fs)) (same n k id ends size (drop size (x ∷ xs)) z (omega arith) (omega arith))

pub piece_more : (id : ℕ) (ends : Bool) (size : ℕ) (xs : List ℕ) → 0 < size → size < length xs → data_frames id ends size xs ≡ piece id false (take size xs) ∷ data_frames id ends size (drop size xs)
unfolding data_frames
piece_more id ends size [] z h = absurd (omega arith)
piece_more id ends size (x ∷ xs) z h =
    let long : nat_le (length (x ∷ xs)) size ≡ false = grind (arith, h) in
    let shorter : length (drop size (x ∷ xs)) ≤ length xs = omega (arith, length-drop size (x ∷ xs)) in
    ap (λ t. cond t (piece id ends (x ∷ xs) ∷ []) (piece id false (take size (x ∷ xs)) ∷ data_upto (length xs) id ends size (drop size (x ∷ xs)))) long
    ∙ ap (λ fs. piece id false (take size (x ∷ xs)) ∷ fs) (same (length xs) (length (drop size (x ∷ xs))) id ends size (drop size (x ∷ xs)) z shorter (omega arith))

pub piece_last : (id : ℕ) (ends : Bool) (size : ℕ) (xs : List ℕ) → 0 < length xs → length xs ≤ size → data_frames id ends size xs ≡ piece id ends xs ∷ []
unfolding data_frames
piece_last id ends size [] z h = absurd (omega arith)
piece_last id ends size (x ∷ xs) z h =
    let short : nat_le (length (x ∷ xs)) size ≡ true = grind (arith, h) in
    ap (λ t. cond t (piece id ends (x ∷ xs) ∷ []) (piece id false (take size (x ∷ xs)) ∷ data_upto (length xs) id ends size (drop size (x ∷ xs)))) short

-- the same of their octets, after a place
pub octets_more : (id : ℕ) (ends : Bool) (size i : ℕ) (xs : List ℕ) → 0 < size → size < length xs - i
    → frames_octets (data_frames id ends size (drop i xs)) ≡ frame_octets (piece id false (take size (drop i xs))) ++ frames_octets (data_frames id ends size (drop (i + size) xs))
octets_more id ends size i xs z h =
    ap frames_octets (piece_more id ends size (drop i xs) z (omega (arith, length-drop i xs, h)))
    ∙ ap (λ ys. frame_octets (piece id false (take size (drop i xs))) ++ frames_octets (data_frames id ends size ys)) (drop-drop size i xs)

pub octets_last : (id : ℕ) (ends : Bool) (size i : ℕ) (xs : List ℕ) → i < length xs → length xs - i ≤ size
    → frames_octets (data_frames id ends size (drop i xs)) ≡ frame_octets (piece id ends (drop i xs))
octets_last id ends size i xs l h =
    ap frames_octets (piece_last id ends size (drop i xs) (omega (arith, length-drop i xs)) (omega (arith, length-drop i xs, h))) ∙ append-nil (frame_octets (piece id ends (drop i xs)))
