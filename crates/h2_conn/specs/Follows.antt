-- What an item leaves of the records of streams (RFC 9113, 5.1): one that has ended stays as it is.
use Rattle.std.specs.Prelude.{◌≡◌, ℕ, Bool, true, false, ◌&&◌, ◌||◌, List, ◌++◌, map, ◌==◌, Option, Some, None}
use Rattle.h2_spec.specs.declared.connection.Purpose.{Purpose}
use Rattle.h2_spec.specs.declared.connection.Purpose.TheVariants.{Request, Trailers, Closed, TableOnly}
use Rattle.h2_spec.specs.declared.streams.Stream.{Stream}
use Rattle.h2_spec.specs.State.{Decoding, OpenBlock, State}
use Rattle.h2_spec.specs.Stream.{id_of, is_live, record_of}

-- whether a block ends with the reset of its stream, also where the stream has ended before
abbrev pub ends_in_reset : Purpose → Bool
ends_in_reset Request = false
ends_in_reset Trailers = false
ends_in_reset Closed = true
ends_in_reset TableOnly = false

abbrev pub resets_in : ℕ → ℕ → Option Decoding → Bool
resets_in id stream None = false
resets_in id stream (Some d) = ends_in_reset d.purpose && (stream == id)

-- whether the end of the open block resets this stream
abbrev pub is_reset_by : ℕ → Option OpenBlock → Bool
is_reset_by id None = false
is_reset_by id (Some b) = resets_in id b.shown.stream b.decoding

-- whether a record can still change, where this block is open
abbrev pub can_change : Option OpenBlock → Stream → Bool
can_change block st = is_live st.kind || is_reset_by st.id block

-- the records of one list are all in another, in the same places, and those that can't change are the same
pub record Keeps (block : Option OpenBlock) (before after : List Stream) : Type 0 where
  pub more : List ℕ
  pub ids : map id_of after ≡ map id_of before ++ more
  pub same : (id : ℕ) (st : Stream) → record_of before id ≡ Some st → can_change block st ≡ false → record_of after id ≡ Some st

-- what one state leaves of another: the book, the limits and its records, and what can't change in it never will
pub record Follows (before after : State) : Type 0 where
  pub book : after.book ≡ before.book
  pub config : after.config ≡ before.config
  pub records : Keeps before.block before.streams after.streams
  pub settled : (id : ℕ) (st : Stream) → record_of before.streams id ≡ Some st → can_change before.block st ≡ false → can_change after.block st ≡ false
