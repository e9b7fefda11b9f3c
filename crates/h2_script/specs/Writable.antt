-- Instructions within what can be written out.
use Rattle.std.specs.Prelude.{ℕ, ◌&&◌, Bool, List, length, nat_le, nat_lt, Option, option_map, option_and_then}
use Rattle.h2_spec.specs.Texts.Assemble.{before, index_of, number_at, onwards}
use Rattle.h2_spec.specs.Hpack.Instruction.{Instruction, Indexed, Update, Literal, NameRef, Ref, Named, TextStr}

abbrev pub can_write_name : NameRef TextStr → Bool
can_write_name (Ref i) = nat_lt 0 i && nat_lt i 4294967296
can_write_name (Named s) = nat_le (length s.text) 33554432

-- numbers of 32 bits, an index above 0, texts of at most 33,554,432 octets
abbrev pub can_write : Instruction → Bool
can_write (Indexed i) = nat_lt i 4294967296
can_write (Update n) = nat_lt n 4294967296
can_write (Literal mode name value) = can_write_name name && nat_le (length value.text) 33554432

-- the name that is an index, before an equals sign, and what begins there
abbrev pub indexed_name : List ℕ → Option (NameRef TextStr × List ℕ)
indexed_name text = option_map (λ name. (name, onwards 61 text)) (option_and_then index_of (number_at 4294967295 (before 61 text)))
