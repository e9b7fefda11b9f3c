-- Own octets with others, which are lent, at places among them.
use Rattle.std.specs.Prelude.{◌≡◌, ℕ, ◌-◌, ◌<◌, ◌≤◌, List, [], ◌∷◌, ◌++◌, length, take, drop, Option, Some, None}
use Rattle.h2_frame.specs.declared.lending.Loan.{Loan}

-- the own octets from a place on, each loan in front of the one at its place
unfoldable pub spread : ℕ → List ℕ → List Loan → List ℕ
spread i own [] = drop i own
spread i own (p ∷ ps) = drop i (take p.at own) ++ (p.octets.now ++ spread p.at own ps)

-- loans of at least one octet, in the order of their places, which are between these two
abbrev pub AreLoans : ℕ → ℕ → List Loan → Type 0
AreLoans i n [] = i ≤ n
AreLoans i n (p ∷ ps) = (i ≤ p.at) × (0 < length p.octets.now) × AreLoans p.at n ps

abbrev pub first_loan : List Loan → Option Loan
first_loan [] = None
first_loan (p ∷ ps) = Some p

-- the first loan has fewer octets, these, where this many fewer are some; else it is gone
abbrev pub IsShortened : (List ℕ → List ℕ) → ℕ → List Loan → List Loan → Type 0
IsShortened f n [] qs = qs ≡ []
IsShortened f n (p ∷ ps) qs = (n < length p.octets.now → (q : Loan) × (qs ≡ q ∷ ps) × (q.at ≡ p.at) × (q.octets.now ≡ f p.octets.now)) × (length p.octets.now ≤ n → qs ≡ ps)

-- the last loan was taken out, if there was one
abbrev pub IsTaken : List Loan → Option Loan → List Loan → Type 0
IsTaken ps None qs = (ps ≡ []) × (qs ≡ [])
IsTaken ps (Some p) qs = ps ≡ qs ++ p ∷ []

-- a loan was put last, without this many of its last octets, where it has more
abbrev pub IsPutShorter : List Loan → Loan → ℕ → List Loan → Type 0
IsPutShorter ps p n qs = (n < length p.octets.now → (q : Loan) × (qs ≡ ps ++ q ∷ []) × (q.at ≡ p.at) × (q.octets.now ≡ take (length p.octets.now - n) p.octets.now)) × (length p.octets.now ≤ n → qs ≡ ps)
