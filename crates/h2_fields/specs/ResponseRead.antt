-- What a decoder holds that has read a response's field block.
use Rattle.std.specs.Prelude.{ℕ, false, List, [], codes}
use Rattle.h2_spec.specs.Requests.Answer.{status_digits}
use Rattle.h2_spec.specs.Hpack.Block.{Decoded, Unfinished}
use Rattle.h2_spec.specs.Hpack.DynamicTable.{Table}
use Rattle.h2_spec.specs.Hpack.Field.{Field, field}

-- the status as a field (RFC 9113, 8.3.2)
abbrev pub status_field : ℕ → Field
status_field status = field (codes ":status") (status_digits status)

-- a block that was read to its end, with these fields and this table
abbrev pub read_whole : List Field → Table → Decoded
read_whole fields table = record { progress = record { fields = fields; table = table; due = false }; outcome = Unfinished [] }
