-- What a capture of packets begins with.
use Rattle.std.specs.Prelude.{ℕ, Bool, List, [], ◌∷◌, nat_eq}
use Rattle.std.specs.List.{list_any, starts_with}

-- the first octets of a capture: those of pcap in both orders, in microseconds and in nanoseconds; those of pcapng
abbrev pub capture_fronts : List (List ℕ)
capture_fronts =
    (212 ∷ 195 ∷ 178 ∷ 161 ∷ [])
    ∷ (161 ∷ 178 ∷ 195 ∷ 212 ∷ [])
    ∷ (77 ∷ 60 ∷ 178 ∷ 161 ∷ [])
    ∷ (161 ∷ 178 ∷ 60 ∷ 77 ∷ [])
    ∷ (10 ∷ 13 ∷ 13 ∷ 10 ∷ [])
    ∷ []

-- whether octets begin as a capture does
abbrev pub is_capture : List ℕ → Bool
is_capture octets = list_any (λ front. starts_with nat_eq octets front) capture_fronts
