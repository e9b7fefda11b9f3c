-- What is said one after another: the step from one to the next.
use Rattle.std.proofs.Common.{◌≡◌, ◌∙◌, ◌++◌, ◌==◌, ◌+◌, ◌-◌, ◌<◌, ℕ, Bool, true, false, suc, List, [], ◌∷◌, Option, Some, None, length, refl, sym, ap, arith, cond, option_map, option_and_then, flat_map, append_assoc, append-nil}
use Rattle.h2_spec.specs.Texts.Assemble.{behind, each_at}
use Rattle.h2_script.specs.Each.{behind_each}

-- a turn is left
pub turn : (n k : ℕ) → k < n → n - k ≡ suc (n - (k + 1))
turn n k h = omega (arith, h)

-- nothing is left, or something
pub none_left : (e : Bool) (n : ℕ) → e ≡ (n == 0) → e ≡ true → n ≡ 0
none_left e n is h = grind (arith, is, h)

pub some_left : (e : Bool) (n : ℕ) → e ≡ (n == 0) → e ≡ false → 0 < n
some_left e n is h = grind (arith, is, h)

module _ {A : Type 0} (next : List ℕ → Option (A × List ℕ)) (octets : A → List ℕ) (written : List ℕ) (n : ℕ) (text : List ℕ) where
  pub each_none : None ≡ next text → behind_each next octets written (suc n) text ≡ None
  each_none e = rw (← e) refl

  pub each_last : (x : A) (left : List ℕ) → Some (x, left) ≡ next text → length left ≡ 0 → behind_each next octets written (suc n) text ≡ Some (written ++ octets x)
  each_last x [] e none = rw (← e) (ap (λ (o : List ℕ). Some (written ++ o)) (append-nil (octets x)))
  each_last x (c ∷ left) e none = absurd (omega arith)

  more_or : (x : A) (c : ℕ) (left : List ℕ) → (t : Bool) → (c == 44) ≡ t → (more : Option (List ℕ)) → cond t (Some left) None ≡ more
      → option_map (λ xs. written ++ flat_map octets xs) (cond t (option_map (λ xs. x ∷ xs) (each_at next n left)) None)
      ≡ option_and_then (λ rest. behind_each next octets (written ++ octets x) n rest) more
  more_or x c left false e more is = ap (option_and_then (λ rest. behind_each next octets (written ++ octets x) n rest)) is
  more_or x c left true e more is = joined (each_at next n left) ∙ ap (option_and_then (λ rest. behind_each next octets (written ++ octets x) n rest)) is
    where
      joined : (o : Option (List A)) → option_map (λ xs. written ++ flat_map octets xs) (option_map (λ xs. x ∷ xs) o) ≡ option_map (λ xs. (written ++ octets x) ++ flat_map octets xs) o
      joined None = refl
      joined (Some xs) = ap (λ (o : List ℕ). Some o) (sym (append_assoc written (octets x) (flat_map octets xs)))

  pub each_more : (x : A) (left more : List ℕ) → Some (x, left) ≡ next text → 0 < length left → Some more ≡ behind 44 left → behind_each next octets written (suc n) text ≡ behind_each next octets (written ++ octets x) n more
  each_more x [] more e some is = absurd (omega arith)
  each_more x (c ∷ left) more e some is = rw (← e) (more_or x c left (c == 44) refl (Some more) (sym is))

  pub each_other : (x : A) (left : List ℕ) → Some (x, left) ≡ next text → 0 < length left → None ≡ behind 44 left → behind_each next octets written (suc n) text ≡ None
  each_other x [] e some is = absurd (omega arith)
  each_other x (c ∷ left) e some is = rw (← e) (more_or x c left (c == 44) refl None (sym is))
