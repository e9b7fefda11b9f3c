-- What lines say of octets that are sent.
use Rattle.std.specs.Prelude.{ℕ, ◌+◌, Bool, true, false, List, [], ◌∷◌, length, nat_eq, codes, is_some, if◌then◌else◌, Option, Some, None}
use Rattle.std.specs.List.{starts_with}
use Rattle.std.specs.Str.{bytes_eq}
use Rattle.h2_cmd_cases.specs.Frames.{octets_at, summed}

-- nothing is left
abbrev pub is_none : List ℕ → Bool
is_none [] = true
is_none (octet ∷ octets) = false

-- how many octets a frame has, if it is the next of those that are left
abbrev pub next_whole : List ℕ → List ℕ → Option ℕ
next_whole [] left = None
next_whole (octet ∷ octets) left = if starts_with nat_eq left (octet ∷ octets) then Some (length (octet ∷ octets)) else None

-- the same of the frame of a line of a script, or of the one that a line is the summary of
abbrev pub next_as : Option (List ℕ) → List ℕ → List ℕ → Option ℕ
next_as (Some octets) text left = next_whole octets left
next_as None text left = summed text left

abbrev pub next_of : List ℕ → List ℕ → Option ℕ
next_of text left = next_as (octets_at text) text left

-- what a line says of the octets that are left: any may follow, none is left, or this frame is next
abbrev pub sends : List ℕ → List ℕ → Bool
sends text left =
    if bytes_eq text (codes "...") then true
    else if bytes_eq text (codes "-") then is_none left
    else is_some (next_of text left)

-- that many octets, none where no frame is next
abbrev pub octets_next : Option ℕ → ℕ
octets_next None = 0
octets_next (Some count) = count

-- how many octets lines have spoken about after a line, if it holds, where these are left, there are that many, and that
-- many were spoken about
abbrev pub spoken_by : List ℕ → List ℕ → (all spoken : ℕ) → ℕ
spoken_by text left all spoken =
    if bytes_eq text (codes "...") then all
    else if bytes_eq text (codes "-") then spoken
    else spoken + octets_next (next_of text left)
