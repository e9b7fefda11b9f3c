-- The codes in a tree: none begins another.
use Rattle.std.proofs.Common.{◌≡◌, ℕ, zero, suc, ◌<◌, Bool, true, false, eqb, List, [], ◌∷◌, ◌++◌, Option, Some, None, refl, arith}
use Rattle.std.proofs.lemmas.Bool.Decides.{nat_tests}
use Rattle.h2_spec.proofs.Computed.{all_below, below-at}
use Rattle.h2_spec.specs.Hpack.HuffmanCode.{code}

pub data Tree : Type 0 where
  bare : Tree
  leaf : ℕ → Tree
  fork : Tree → Tree → Tree

put : List Bool → ℕ → Tree → Tree
put [] s t = leaf s
put (b ∷ bs) s t = elim t [
  | bare ↦ elim b [ true ↦ fork bare (put bs s bare) | false ↦ fork (put bs s bare) bare ]
  | leaf n ↦ leaf n
  | fork l r ↦ elim b [ true ↦ fork l (put bs s r) | false ↦ fork (put bs s l) r ]
]

grown : ℕ → Tree
grown zero = bare
grown (suc n) = put (code n) n (grown n)

-- the symbol whose bits these are
abbrev pub walk : Tree → List Bool → Option ℕ
walk bare bs = None
walk (leaf s) [] = Some s
walk (leaf s) (b ∷ bs) = None
walk (fork l r) [] = None
walk (fork l r) (b ∷ bs) = elim b [ true ↦ walk r bs | false ↦ walk l bs ]

found : ℕ → Option ℕ → Bool
found s None = false
found s (Some t) = eqb s t

pub code_tree : Tree
code_tree = grown 257

each_found : all_below (λ s. found s (walk code_tree (code s))) 257 ≡ true
unfolding code_tree grown put found code
each_found = refl

found-is : (s : ℕ) (o : Option ℕ) → found s o ≡ true → o ≡ Some s
unfolding found
found-is s None h = cc
found-is s (Some t) h = let e : s ≡ t = grind (arith, nat_tests) in cc

pub walks : (s : ℕ) → s < 257 → walk code_tree (code s) ≡ Some s
walks s h = found-is s (walk code_tree (code s)) (below-at (λ n. found n (walk code_tree (code n))) 257 s each_found h)

-- of two walks along one list both are the same
pub one_walk : (t : Tree) (a b : List Bool) (x y : ℕ) (p q : List Bool) → walk t a ≡ Some x → walk t b ≡ Some y → a ++ p ≡ b ++ q → (x ≡ y) × (p ≡ q)
one_walk bare a b x y p q f g e = cc
one_walk (leaf s) [] [] x y p q f g e = (cc, e)
one_walk (leaf s) [] (d ∷ b) x y p q f g e = cc
one_walk (leaf s) (c ∷ a) b x y p q f g e = cc
one_walk (fork l r) [] b x y p q f g e = cc
one_walk (fork l r) (c ∷ a) [] x y p q f g e = cc
one_walk (fork l r) (true ∷ a) (true ∷ b) x y p q f g e = one_walk r a b x y p q f g (cc)
one_walk (fork l r) (false ∷ a) (false ∷ b) x y p q f g e = one_walk l a b x y p q f g (cc)
one_walk (fork l r) (true ∷ a) (false ∷ b) x y p q f g e = cc
one_walk (fork l r) (false ∷ a) (true ∷ b) x y p q f g e = cc

-- no code begins another
pub one_code : (s t : ℕ) (p q : List Bool) → s < 257 → t < 257 → code s ++ p ≡ code t ++ q → (s ≡ t) × (p ≡ q)
one_code s t p q hs ht e = one_walk code_tree (code s) (code t) s t p q (walks s hs) (walks t ht) e
