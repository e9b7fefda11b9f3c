-- The lines of an input.
use Rattle.std.specs.Prelude.{ℕ, ◌==◌, List, [], ◌∷◌, if◌then◌else◌}

-- an octet at the front of the first of some lines
abbrev pub onto_first : ℕ → List (List ℕ) → List (List ℕ)
onto_first octet [] = (octet ∷ []) ∷ []
onto_first octet (line ∷ lines) = (octet ∷ line) ∷ lines

-- the lines of a text: a line feed ends each, and the last may lack it
abbrev pub lines_of : List ℕ → List (List ℕ)
lines_of [] = []
lines_of (octet ∷ octets) = if octet == 10 then [] ∷ lines_of octets else onto_first octet (lines_of octets)

-- the same where a line without a line feed is dropped
abbrev pub onto_ended : ℕ → List (List ℕ) → List (List ℕ)
onto_ended octet [] = []
onto_ended octet (line ∷ lines) = (octet ∷ line) ∷ lines

abbrev pub ended_lines : List ℕ → List (List ℕ)
ended_lines [] = []
ended_lines (octet ∷ octets) = if octet == 10 then [] ∷ ended_lines octets else onto_ended octet (ended_lines octets)
