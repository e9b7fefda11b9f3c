-- What a client may send in one read: what it was granted before that read (RFC 9113, 6.9). What is granted for the octets of
-- a read is written after the read, so a client that has sent more has not waited for it.
use Rattle.std.specs.Prelude.{ℕ, ◌-◌, Bool, false, ◌&&◌, ◌||◌, ◌==◌, if◌then◌else◌, nat_lt, Option, Some, None}
use Rattle.std.specs.BTreeMap.{get}
use Rattle.std.specs.Ordering.{nat_cmp}
use Rattle.h2_spec.specs.Frames.FrameType.{DATA}
use Rattle.h2_spec.specs.Stream.{is_live}
use Rattle.h2_spec.specs.Window.{sendable}
use Rattle.h2_spec.specs.declared.frames.ItemHead.{ItemHead}
use Rattle.h2_spec.specs.declared.frames.ItemHead.TheVariants as head
use Rattle.h2_spec.specs.declared.streams.Stream.{Stream}
use Rattle.h2_explain_item.specs.declared.change.granted.Granted.{Granted}
use Rattle.h2_explain_item.specs.declared.item.Explained.{Explained}

-- the octets that flow control counts of an item: the payload of DATA with its padding (6.9)
abbrev pub counted_octets : ItemHead → ℕ
counted_octets head.Preface = 0
counted_octets head.BadPreface = 0
counted_octets (head.Oversize h) = 0
counted_octets (head.Frame h) = if h.kind == DATA then h.length else 0

-- the rest for a stream: its receive window, where none of its DATA came in the read yet
abbrev pub left_or : Option ℕ → Stream → ℕ
left_or None st = sendable st.numbers.recv
left_or (Some left) st = left

abbrev pub left_on : {A : Type 0} → Granted A → Stream → ℕ
left_on g st = left_or (get nat_cmp g.streams st.id) st

-- whether an item is DATA beyond the rest for the connection, where it is known what came in one read, or beyond the rest for its
-- stream, where that is live
abbrev pub is_beyond : Option ℕ → ℕ → Explained → Bool
is_beyond None stream x = false
is_beyond (Some connection) stream x =
    nat_lt connection (counted_octets x.what) || (is_live x.before.stream.kind && nat_lt stream (counted_octets x.what))

abbrev pub is_early : {A : Type 0} → Granted A → Explained → Bool
is_early g x = is_beyond g.connection (left_on g x.before.stream) x

-- the rest for the connection after an item
abbrev pub left_after : Option ℕ → ℕ → Option ℕ
left_after None n = None
left_after (Some left) n = Some (left - n)
