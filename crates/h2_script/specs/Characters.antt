-- One octet at the front of a text between quotes.
use Rattle.std.specs.Prelude.{ℕ, ◌==◌, List, [], ◌∷◌, Option, Some, None, option_map, if◌then◌else◌}
use Rattle.h2_spec.specs.Texts.Assemble.{octet_at}
use Rattle.h2_spec.specs.Texts.Script.{is_plain}

-- an octet of two hex digits after a backslash
abbrev pub escaped_at : List ℕ → Option (ℕ × ℕ)
escaped_at [] = None
escaped_at (a ∷ []) = None
escaped_at (a ∷ b ∷ cs) = option_map (λ c. (c, 3)) (octet_at (a ∷ b ∷ []))

-- the octet at the front, and how many octets of the text it takes
abbrev pub character_at : List ℕ → Option (ℕ × ℕ)
character_at [] = None
character_at (c ∷ cs) = if is_plain c then Some (c, 1) else if c == 92 then escaped_at cs else None
