-- The fields of a block with their spellings, and how many of them are shown.
use Rattle.std.proofs.Common.{◌≡◌, ◌∙◌, ◌⊎◌, inl, inr, ◌+◌, ◌^◌, ◌-◌, ◌<◌, ◌≤◌, ℕ, zero, suc, Bool, true, false, List, [], ◌∷◌, length, drop, get_or, map, take, min, nat_lt, Option, Some, None, refl, sym, ap, arith}
use Rattle.std.proofs.lemmas.Bool.{cases_lt}
use Rattle.std.proofs.lemmas.Bool.Decides.{nat_tests}
use Rattle.std.proofs.lemmas.List.{drop_all, drop_more, length-take, take-map}
use Rattle.std.proofs.lemmas.Option.{slice_get_cases}
use Rattle.std.specs.List.{slice_get}
use Rattle.h2_spec.specs.Hpack.Field.{Field}
use Rattle.h2_explain_words.specs.Spelled.{Spelling, spelling_seen}
use Rattle.h2_explain_words.specs.declared.spelled.Spelling as code
use Rattle.h2_explain_item.specs.ShownBlock.{Spelled, shown_of, size_with, spelled, up_to, up_to_64_bits, with_spelling}

-- ---- spellings

pub length-spelled : (fs : List Field) (ss : List Spelling) → length (spelled fs ss) ≡ min (length ss) (length fs)
length-spelled [] ss = omega arith
length-spelled (f ∷ fs) [] = omega arith
length-spelled (f ∷ fs) (s ∷ ss) = let rest = length-spelled fs ss in omega (arith, rest)

-- past the last spelling
pub spelled-past : (fs : List Field) (ss : List Spelling) (i : ℕ) → length ss ≤ i → slice_get (spelled fs ss) i ≡ None
spelled-past [] ss i h = refl
spelled-past (f ∷ fs) [] i h = refl
spelled-past (f ∷ fs) (s ∷ ss) zero h = absurd (omega (arith, h))
spelled-past (f ∷ fs) (s ∷ ss) (suc i) h = spelled-past fs ss i (omega (arith, h))

-- the field at a place that has a spelling
pub spelled-at : (fs : List Field) (ss : List Spelling) (i : ℕ) (s : Spelling) → slice_get ss i ≡ Some s → slice_get (spelled fs ss) i ≡ with_spelling (slice_get fs i) s
spelled-at [] ss i s e = refl
spelled-at (f ∷ fs) [] i s e = absurd cc
spelled-at (f ∷ fs) (t ∷ ss) zero s e = cc
spelled-at (f ∷ fs) (t ∷ ss) (suc i) s e = spelled-at fs ss i s e

-- the first of them
pub up_to-map : (m : Option ℕ) (gs : List code.Spelling) → map spelling_seen (up_to m gs) ≡ up_to m (map spelling_seen gs)
up_to-map None gs = refl
up_to-map (Some n) gs = sym (take-map spelling_seen n gs)

-- the fields and the spellings of what is shown
pub fields-spelled : (m : Option ℕ) (fs : List Field) (ss : List Spelling) → length ss ≡ length fs → map (λ (x : Spelled). x.field) (spelled fs (up_to m ss)) ≡ up_to m fs
fields-spelled None fs ss e = all fs ss e
  where
    all : (fs : List Field) (ss : List Spelling) → length ss ≡ length fs → map (λ (x : Spelled). x.field) (spelled fs ss) ≡ fs
    all [] ss e = refl
    all (f ∷ fs) [] e = absurd (omega (arith, e))
    all (f ∷ fs) (s ∷ ss) e = ap (λ (xs : List Field). f ∷ xs) (all fs ss (omega (arith, e)))
fields-spelled (Some n) fs ss e = first n fs ss e
  where
    first : (n : ℕ) (fs : List Field) (ss : List Spelling) → length ss ≡ length fs → map (λ (x : Spelled). x.field) (spelled fs (take n ss)) ≡ take n fs
    first zero [] ss e = refl
    first zero (f ∷ fs) ss e = refl
    first (suc n) [] ss e = refl
    first (suc n) (f ∷ fs) [] e = absurd (omega (arith, e))
    first (suc n) (f ∷ fs) (s ∷ ss) e = ap (λ (xs : List Field). f ∷ xs) (first n fs ss (omega (arith, e)))

pub spellings-spelled : (m : Option ℕ) (fs : List Field) (ss : List Spelling) → length ss ≡ length fs → map (λ (x : Spelled). x.spelling) (spelled fs (up_to m ss)) ≡ up_to m ss
spellings-spelled m fs ss e = all fs (up_to m ss) (by m)
  where
    by : (m : Option ℕ) → length (up_to m ss) ≤ length fs
    by None = omega (arith, e)
    by (Some n) = let least = length-take n ss in omega (arith, e, least)

    all : (fs : List Field) (ss : List Spelling) → length ss ≤ length fs → map (λ (x : Spelled). x.spelling) (spelled fs ss) ≡ ss
    all [] [] h = refl
    all [] (s ∷ ss) h = absurd (omega (arith, h))
    all (f ∷ fs) [] h = refl
    all (f ∷ fs) (s ∷ ss) h = ap (λ (xs : List Spelling). s ∷ xs) (all fs ss (omega (arith, h)))

-- ---- how many are shown

-- a count above 65,536 is none that another count above it is not
shown-counted : (n : ℕ) (fs : List Field) → shown_of (up_to_64_bits n) fs ≡ shown_of n fs
shown-counted n [] = refl
shown-counted n (f ∷ fs) = by (cases_lt (2 ^ 64 - 1) n)
  where
    by : (2 ^ 64 - 1 < n) ⊎ (n ≤ 2 ^ 64 - 1) → shown_of (up_to_64_bits n) (f ∷ fs) ≡ shown_of n (f ∷ fs)
    by (inl more) =
        let cut : up_to_64_bits n ≡ 2 ^ 64 - 1 = omega (arith, more) in
        let large : nat_lt 65536 n ≡ true = grind (arith, nat_tests, more) in
        rw (cut, large) refl
    by (inr all) = let same : up_to_64_bits n ≡ n = omega (arith, all) in ap (λ (m : ℕ). shown_of m (f ∷ fs)) same

-- one more
pub shown-next : (fs : List Field) (i size next : ℕ) (f : Option Field) → i < length fs → size ≤ 65536 → f ≡ slice_get fs i → next ≡ size_with size f → i + shown_of size (drop i fs) ≡ i + 1 + shown_of next (drop (i + 1) fs)
shown-next fs i size next f less within at is = by (slice_get_cases fs i).1
  where
    small : nat_lt 65536 size ≡ false
    small = grind (arith, nat_tests, within)

    by : ((x : Field) × (i < length fs) × (slice_get fs i ≡ Some x) × (get_or fs i x ≡ x)) ⊎ ((length fs ≤ i) × (slice_get fs i ≡ None)) → i + shown_of size (drop i fs) ≡ i + 1 + shown_of next (drop (i + 1) fs)
    by (inl x) =
        let rest : drop i fs ≡ x.0 ∷ drop (i + 1) fs = drop_more fs i x.0 less ∙ ap (λ (y : Field). y ∷ drop (i + 1) fs) x.3 in
        let one : shown_of size (drop i fs) ≡ suc (shown_of next (drop (i + 1) fs)) =
        ap (shown_of size) rest ∙ (rw (small, is, at, x.2) (ap suc (sym (shown-counted _ (drop (i + 1) fs))))) in
        omega (arith, one)
    by (inr x) = absurd (omega (arith, less, x.0))

-- no more
pub shown-none : (fs : List Field) (i size : ℕ) → 65536 < size → shown_of size (drop i fs) ≡ 0
shown-none fs i size more = by (drop i fs)
  where
    large : nat_lt 65536 size ≡ true
    large = grind (arith, nat_tests, more)

    by : (xs : List Field) → shown_of size xs ≡ 0
    by [] = refl
    by (x ∷ xs) = rw large refl

-- at the end
pub shown-end : (fs : List Field) (i size : ℕ) → length fs ≤ i → shown_of size (drop i fs) ≡ 0
shown-end fs i size all = ap (shown_of size) (drop_all i fs all)
