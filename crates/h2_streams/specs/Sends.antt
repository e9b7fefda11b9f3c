-- Send windows apart from the records of their streams: one SETTINGS moves all of them (RFC 9113, 6.9.2).
use Rattle.std.specs.Prelude.{List, [], ◌∷◌, ℤ, pos}
use Rattle.h2_spec.specs.declared.streams.Stream.{Stream}
use Rattle.h2_spec.specs.Change.{with_send}

-- the send window of a record
abbrev pub send_of : Stream → ℤ
send_of st = st.numbers.send

-- a record without its send window
abbrev pub without_send : Stream → Stream
without_send st = with_send st (pos 0)

-- records with these send windows
abbrev pub with_sends : List Stream → List ℤ → List Stream
with_sends [] sends = []
with_sends (st ∷ sts) [] = []
with_sends (st ∷ sts) (send ∷ sends) = with_send st send ∷ with_sends sts sends
