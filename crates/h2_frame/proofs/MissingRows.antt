-- How many octets the first item lacks at the least, computed, with frames of at most 16384 octets (RFC 9113, 3.4, 4.1
-- and 4.2).
use Rattle.std.specs.Prelude.{◌≡◌, ℕ, Bool, true, false, List, [], ◌∷◌, map, codes, refl}
use Rattle.h2_spec.specs.Frames.Frame.{next, head_of}
use Rattle.h2_frame.specs.Items.{missing}

-- whether the preface is expected, octets, and how many are missing
abbrev Row : Type 0
Row = Bool × List ℕ × ℕ

abbrev rows : List Row
rows =
    -- any octet of the preface may be one that differs; one differs
    (true, codes "PRI * HTTP/2.0", 1) ∷
    (true, codes "PRI / HTTP/2.0", 0) ∷
    -- nothing, the length of a frame, and the head of a PING
    (false, [], 9) ∷
    (false, 0 ∷ 0 ∷ 8 ∷ [], 6) ∷
    (false, 0 ∷ 0 ∷ 8 ∷ 6 ∷ 0 ∷ 0 ∷ 0 ∷ 0 ∷ 0 ∷ [], 8) ∷
    -- a PING without its last octets, and whole
    (false, 0 ∷ 0 ∷ 8 ∷ 6 ∷ 0 ∷ 0 ∷ 0 ∷ 0 ∷ 0 ∷ 1 ∷ 2 ∷ 3 ∷ 4 ∷ 5 ∷ [], 3) ∷
    (false, 0 ∷ 0 ∷ 8 ∷ 6 ∷ 0 ∷ 0 ∷ 0 ∷ 0 ∷ 0 ∷ 1 ∷ 2 ∷ 3 ∷ 4 ∷ 5 ∷ 6 ∷ 7 ∷ 8 ∷ [], 0) ∷
    -- a payload above the limit is not awaited
    (false, 0 ∷ 64 ∷ 1 ∷ 0 ∷ 0 ∷ 0 ∷ 0 ∷ 0 ∷ 1 ∷ [], 0) ∷ []

octets_are_missing : map (λ (row : Row). missing row.0 16384 row.1) rows ≡ map (λ (row : Row). row.2) rows
unfolding next head_of
octets_are_missing = refl
