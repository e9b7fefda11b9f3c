-- Which entry of a book is the first with a method and a path, as the book's map keeps it.
use Rattle.std.specs.Prelude.{◌≡◌, ℕ, ◌*◌, ◌%◌, ◌^◌, Bool, true, if◌then◌else◌, ◌&&◌, List, [], ◌∷◌, ◌++◌, Option, Some, None, bit_xor, bytes_eq, nat_lt, position}
use Rattle.std.specs.Cmp.{IsEquivalence, and_equiv, first_so, on_equiv, second_so}
use Rattle.std.specs.Cmp.Lexicographic.{nat_list_eq_equiv, bytes_decides}
use Rattle.std.specs.Map.{lookup}
use Rattle.std.specs.Option.{option_map_or}
use Rattle.h2_spec.specs.Requests.Answer.{Entry}
use Rattle.h2_request_book.specs.declared.firsts.Wanted as declared

-- a method and a path
abbrev pub Key : Type 0
Key = List ℕ × List ℕ

-- whether the methods are the same octets, and the paths too
abbrev pub same : Key → Key → Bool
same a b = bytes_eq a.0 b.0 && bytes_eq a.1 b.1

pub same_equiv : IsEquivalence same
same_equiv = and_equiv (on_equiv (λ (k : Key). k.0) nat_list_eq_equiv) (on_equiv (λ (k : Key). k.1) nat_list_eq_equiv)

-- the method and the path that are wanted
abbrev pub wanted : declared.Wanted → Key
wanted w = (w.method.now, w.path.now)

-- what is hashed: the method, then the path
abbrev pub inputs : Key → List (List ℕ)
inputs k = k.0 ∷ k.1 ∷ []

-- the same key is hashed alike
pub same_inputs : (a b : Key) → same a b ≡ true → inputs a ≡ inputs b
same_inputs a b h =
    let method = (bytes_decides a.0 b.0).0 (first_so (bytes_eq a.0 b.0) (bytes_eq a.1 b.1) h) in
    let path = (bytes_decides a.1 b.1).0 (second_so (bytes_eq a.0 b.0) (bytes_eq a.1 b.1) h) in
    λ i. method i ∷ path i ∷ []

-- one step of FNV-1a of 64 bits
abbrev pub mixed : ℕ → ℕ → ℕ
mixed hash octet = bit_xor hash octet * 1099511628211 % 2 ^ 64

-- the place under a method and a path
abbrev pub find : Key → List (Key × ℕ) → Option ℕ
find key places = lookup (same key) places

-- the places with this one under its key, unless there is one before it
abbrev pub with_first : Key → ℕ → List (Key × ℕ) → List (Key × ℕ)
with_first key place places = option_map_or (λ _. places) (find key places) (places ++ (key, place) ∷ [])

-- a place, if there is one and it is below this number
abbrev pub below : ℕ → Option ℕ → Option ℕ
below count None = None
below count (Some place) = if nat_lt place count then Some place else None

-- whether an entry has this method and this path
abbrev pub is_for : Key → Entry → Bool
is_for key e = bytes_eq e.method key.0 && bytes_eq e.path key.1

-- under each method and path there is the place of the first entry that has both
abbrev pub AreFirsts : List (Key × ℕ) → List Entry → Type 0
AreFirsts places entries = (key : Key) → find key places ≡ position (is_for key) entries
