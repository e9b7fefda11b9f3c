-- The pieces into which the octets of `play` are cut.
use Rattle.std.specs.Prelude.{ℕ, ◌==◌, ◌/◌, List, if◌then◌else◌, replicate}

-- how long a piece is: what was asked for, or 65,536 octets where nothing was; what is reported does not depend on it
abbrev pub piece_length : ℕ → ℕ
piece_length cut = if cut == 0 then 65536 else cut

-- the lengths of the whole pieces into which this many octets are cut
abbrev pub piece_lengths : (cut total : ℕ) → List ℕ
piece_lengths cut total = replicate (total / piece_length cut) (piece_length cut)
