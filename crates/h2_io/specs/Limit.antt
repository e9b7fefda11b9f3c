-- The one limit of what a program reads.
use Rattle.std.specs.Prelude.{ℕ}

-- the most octets that an input may have, or a file that is read instead of one
abbrev pub most : ℕ
most = 16777216
