-- Integers with a prefix of some bits of an octet (RFC 7541, 5.1).
use Rattle.std.specs.Prelude.{◌≡◌, ℕ, zero, suc, ◌+◌, ◌-◌, ◌*◌, ◌/◌, ◌%◌, ◌^◌, ◌<◌, ◌≤◌, List, [], ◌∷◌, length, take, nat_lt, if◌then◌else◌}
use Rattle.std.specs.List.{AllByRecursion}
use Rattle.h2_spec.specs.Read.{Read, Whole, More, TooLong}

-- the number that groups of seven bits write, the lowest first
abbrev pub groups : List ℕ → ℕ
groups [] = 0
groups (c ∷ cs) = c % 128 + 128 * groups cs

-- octets with the top bit set, and then one without it
abbrev pub IsContinuation : List ℕ → Type 0
IsContinuation [] = ⊥
IsContinuation (c ∷ []) = c < 128
IsContinuation (c ∷ d ∷ cs) = (128 ≤ c) × IsContinuation (d ∷ cs)

-- the octets spell the number v with a prefix of n bits
abbrev pub IsInt : ℕ → ℕ → List ℕ → Type 0
IsInt n v [] = ⊥
IsInt n v (o ∷ []) = (o % 2 ^ n ≡ v) × (v < 2 ^ n - 1)
IsInt n v (o ∷ c ∷ cs) = (o % 2 ^ n ≡ 2 ^ n - 1) × IsContinuation (c ∷ cs) × (length cs < 5) × (v ≡ 2 ^ n - 1 + groups (c ∷ cs))

-- the octets are the beginning of an integer that goes on
abbrev pub IsUnfinished : ℕ → List ℕ → Type 0
IsUnfinished n [] = Unit {0}
IsUnfinished n (o ∷ cs) = (o % 2 ^ n ≡ 2 ^ n - 1) × AllByRecursion (λ c. 128 ≤ c) cs × (length cs < 5)

-- the octets begin with a full prefix and five octets that each announce another
abbrev pub IsTooLong : ℕ → List ℕ → Type 0
IsTooLong n [] = ⊥
IsTooLong n (o ∷ cs) = (o % 2 ^ n ≡ 2 ^ n - 1) × (5 ≤ length cs) × AllByRecursion (λ c. 128 ≤ c) (take 5 cs)

-- the same number, base and scale times it, with some more octets before it
abbrev pub scaled : ℕ → ℕ → ℕ → Read ℕ → Read ℕ
scaled base scale used (Whole v more) = Whole (base + scale * v) (used + more)
scaled base scale used More = More
scaled base scale used TooLong = TooLong

-- the number that groups of seven bits write, the lowest first, in at most this many octets
abbrev pub groups_at : ℕ → List ℕ → Read ℕ
groups_at zero cs = TooLong
groups_at (suc most) [] = More
groups_at (suc most) (c ∷ cs) = if nat_lt c 128 then Whole c 1 else scaled (c % 128) 128 1 (groups_at most cs)

-- the integer with a prefix of n bits at the front of the octets
unfoldable pub int_at : ℕ → List ℕ → Read ℕ
int_at n [] = More
int_at n (o ∷ cs) = if nat_lt (o % 2 ^ n) (2 ^ n - 1) then Whole (o % 2 ^ n) 1 else scaled (2 ^ n - 1) 1 1 (groups_at 5 cs)

-- the groups of seven bits of a number below 128 ^ most, the lowest first
abbrev pub groups_of : ℕ → ℕ → List ℕ
groups_of zero v = []
groups_of (suc most) v = if nat_lt v 128 then v ∷ [] else (v % 128 + 128) ∷ groups_of most (v / 128)

-- the shortest spelling of a number below 2 ^ 35, with high in the bits above the prefix
unfoldable pub spell_int : ℕ → ℕ → ℕ → List ℕ
spell_int n high v = if nat_lt v (2 ^ n - 1) then (high + v) ∷ [] else (high + (2 ^ n - 1)) ∷ groups_of 5 (v - (2 ^ n - 1))

-- the octets spell the number, and no fewer do
pub record IsShortest (n v : ℕ) (o : List ℕ) : Type 0 where
  pub spelled : IsInt n v o
  pub shortest : (p : List ℕ) → IsInt n v p → length o ≤ length p

-- what is read at the front of octets is spelled there
abbrev pub IsReadOf : ℕ → List ℕ → Read ℕ → Type 0
IsReadOf n xs (Whole v used) = (used ≤ length xs) × IsInt n v (take used xs)
IsReadOf n xs More = IsUnfinished n xs
IsReadOf n xs TooLong = IsTooLong n xs
