-- The settings of a frame by their places.
use Rattle.std.proofs.Common.{◌≡◌, ℕ, zero, suc, ◌+◌, ◌*◌, ◌/◌, ◌<◌, ◌≤◌, List, [], ◌∷◌, length, drop, Some, refl, arith, length-drop}
use Rattle.std.specs.Prelude.{slice_get}
use Rattle.h2_spec.specs.Octets.{two_octets, four_octets}
use Rattle.h2_spec.specs.Frames.Payload.{setting_pairs}

-- six octets make a setting
pub length-setting_pairs : (p : List ℕ) → length (setting_pairs p) ≡ length p / 6
length-setting_pairs [] = refl
length-setting_pairs (a ∷ []) = refl
length-setting_pairs (a ∷ b ∷ []) = refl
length-setting_pairs (a ∷ b ∷ c ∷ []) = refl
length-setting_pairs (a ∷ b ∷ c ∷ d ∷ []) = refl
length-setting_pairs (a ∷ b ∷ c ∷ d ∷ e ∷ []) = refl
length-setting_pairs (a ∷ b ∷ c ∷ d ∷ e ∷ f ∷ rest) = let more = length-setting_pairs rest in omega arith

-- the setting at a place
pub slice_get-setting_pairs : (k : ℕ) (p : List ℕ) → 6 * k + 6 ≤ length p → slice_get (setting_pairs p) k ≡ Some (two_octets (drop (6 * k) p) 0, four_octets (drop (6 * k) p) 2)
slice_get-setting_pairs k [] h = absurd (omega arith)
slice_get-setting_pairs k (a ∷ []) h = absurd (omega arith)
slice_get-setting_pairs k (a ∷ b ∷ []) h = absurd (omega arith)
slice_get-setting_pairs k (a ∷ b ∷ c ∷ []) h = absurd (omega arith)
slice_get-setting_pairs k (a ∷ b ∷ c ∷ d ∷ []) h = absurd (omega arith)
slice_get-setting_pairs k (a ∷ b ∷ c ∷ d ∷ e ∷ []) h = absurd (omega arith)
slice_get-setting_pairs zero (a ∷ b ∷ c ∷ d ∷ e ∷ f ∷ rest) h = refl
slice_get-setting_pairs (suc k) (a ∷ b ∷ c ∷ d ∷ e ∷ f ∷ rest) h =
    let more = slice_get-setting_pairs k rest (omega arith) in
    let six : 6 * suc k ≡ suc (suc (suc (suc (suc (suc (6 * k)))))) = omega arith in
    rw six more

-- there are six octets at the place of each setting
pub length-drop-setting : (p : List ℕ) (k : ℕ) → k < length (setting_pairs p) → 6 ≤ length (drop (6 * k) p)
length-drop-setting p k h = let count = length-setting_pairs p in let left = length-drop (6 * k) p in omega arith

pub ruleset counted = (length-setting_pairs)

pub ruleset found = (length-setting_pairs, slice_get-setting_pairs, length-drop-setting)
