-- A script that has a first bad line is read as that line's number and its least kind of fault.
use Rattle.std.proofs.Common.{◌≡◌, ◌∙◌, ◌+◌, ◌==◌, ◌++◌, if◌then◌else◌, ℕ, Bool, true, false, suc, List, [], ◌∷◌, Result, Ok, Err, length, refl, sym, ap, ap₂, subst, arith, nat_lt, ltb-true, ltb-false}
use Rattle.std.specs.List.{AllByRecursion}
use Rattle.h2_spec.specs.Texts.Assemble.{assembled}
use Rattle.h2_spec.specs.Texts.Script.{AreLines, Bad, IsLeastFault, IsReadingOf, Line, kind_number}
use Rattle.h2_spec.specs.declared.scripts.SyntaxKind.{SyntaxKind}
use Rattle.h2_spec.specs.declared.scripts.SyntaxKind.TheVariants as kind
use Rattle.h2_spec.proofs.ReadingLines.{script_read}

-- ---- the first of its sort in a list

first_same : (P : List ℕ → Type 0) (fs gs : List (List ℕ)) (a b : List ℕ) (cs ds : List (List ℕ)) → fs ++ a ∷ cs ≡ gs ++ b ∷ ds → AllByRecursion P fs → AllByRecursion P gs
    → ¬ P a → ¬ P b → (length fs ≡ length gs) × (a ≡ b)
first_same P [] [] a b cs ds e h k bad bad' = (refl, cc)
first_same P [] (y ∷ ys) a b cs ds e h k bad bad' = let same : a ≡ y = cc in absurd (bad (subst P (sym same) k.0))
first_same P (x ∷ xs) [] a b cs ds e h k bad bad' = let same : x ≡ b = cc in absurd (bad' (subst P same h.0))
first_same P (x ∷ xs) (y ∷ ys) a b cs ds e h k bad bad' =
    let more : xs ++ a ∷ cs ≡ ys ++ b ∷ ds = cc in
    let rest = first_same P xs ys a b cs ds more h.1 k.1 bad bad' in
    (ap suc rest.0, rest.1)

-- ---- the least kind of fault

abbrev kind_numbered : ℕ → SyntaxKind
kind_numbered n =
    if n == 1 then kind.Parts
    else if n == 2 then kind.Name
    else if n == 3 then kind.Flags
    else if n == 4 then kind.Stream
    else if n == 5 then kind.Payload
    else kind.Size

kind_back : (k : SyntaxKind) → kind_numbered (kind_number k) ≡ k
kind_back kind.Parts = refl
kind_back kind.Name = refl
kind_back kind.Flags = refl
kind_back kind.Stream = refl
kind_back kind.Payload = refl
kind_back kind.Size = refl

least_same : (line : List ℕ) (j k : SyntaxKind) → IsLeastFault j line → IsLeastFault k line → j ≡ k
least_same line j k h i = go (nat_lt (kind_number j) (kind_number k)) (nat_lt (kind_number k) (kind_number j)) refl refl
  where
    go : (s t : Bool) → nat_lt (kind_number j) (kind_number k) ≡ s → nat_lt (kind_number k) (kind_number j) ≡ t → j ≡ k
    go true t d e = absurd (i.1 j (ltb-true _ _ d) h.0)
    go false true d e = absurd (h.1 k (ltb-true _ _ e) i.0)
    go false false d e =
        let above = ltb-false (kind_number j) (kind_number k) d in
        let below = ltb-false (kind_number k) (kind_number j) e in
        let same : kind_number j ≡ kind_number k = omega arith in
        sym (kind_back j) ∙ ap kind_numbered same ∙ kind_back k

-- ---- bad lines

line_assembles : (above : List (List ℕ)) (line : List ℕ) (below : List (List ℕ)) (octets : List ℕ) → AreLines (above ++ line ∷ below) octets → (o : List ℕ) × Line line o
line_assembles [] line below octets h = (h.0, h.2)
line_assembles (x ∷ xs) line below octets h = line_assembles xs line below h.1 h.3

pub bad_read : (text : List ℕ) (n : ℕ) (k : SyntaxKind) → Bad text n k → assembled text ≡ Err (n, k)
bad_read text n k bad = go (assembled text) (script_read text)
  where
    go : (r : Result (List ℕ) (ℕ × SyntaxKind)) → IsReadingOf text r → r ≡ Err (n, k)
    go (Ok octets) h = let assembles = line_assembles bad.above bad.line bad.below octets (subst (λ (ls : List (List ℕ)). AreLines ls octets) bad.lines h) in absurd (bad.nothing assembles.0 assembles.1)
    go (Err (m, j)) h =
        let same = first_same (λ l. (octets : List ℕ) × Line l octets) h.above bad.above h.line bad.line h.below bad.below (sym h.lines ∙ bad.lines) h.first bad.first (λ s. h.nothing s.0 s.1) (λ s. bad.nothing s.0 s.1) in
        let number : m ≡ n = h.number ∙ ap (λ (i : ℕ). i + 1) same.0 ∙ sym bad.number in
        let kinds : j ≡ k = least_same bad.line j k (subst (IsLeastFault j) same.1 h.least) bad.least in
        ap₂ (λ (i : ℕ) (s : SyntaxKind). let e : Result (List ℕ) (ℕ × SyntaxKind) = Err (i, s) in e) number kinds
