-- What an entry shows whose name and value were put into one list.
use Rattle.std.proofs.Common.{◌≡◌, ◌≤◌, ℕ, List, [], ◌++◌, length, take, drop, refl, ap, arith, length-append}
use Rattle.std.proofs.Math.Seq.{take-append_seam, drop-append_seam}
use Rattle.std.proofs.lemmas.List.{append-nil, take_all, drop_all}
use Rattle.h2_spec.specs.Hpack.Field.{field}

pub joined-shown : (name value octets apart : List ℕ) → octets ≡ name ++ value → apart ≡ [] → field (take (length name) octets) (drop (length name) octets ++ apart) ≡ field name value
joined-shown name value octets apart e a = rw (e, a, take-append_seam name value, drop-append_seam name value, append-nil value) refl

pub joined-within : (name value octets : List ℕ) → octets ≡ name ++ value → length name ≤ length octets
joined-within name value octets e = let sum = length-append name value in omega (arith, ap length e, sum)

-- where the name has a list of its own
pub apart-shown : (name value : List ℕ) (n : ℕ) → n ≡ length name → field (take n name) (drop n name ++ value) ≡ field name value
apart-shown name value n e =
    let front = take_all n name (omega (arith, e)) in
    let back = drop_all n name (omega (arith, e)) in
    λ k. field (front k) (back k ++ value)
