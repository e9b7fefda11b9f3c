-- Records of streams, and windows that settings move (RFC 9113, 5.1, 6.4 and 6.9.2).
use Rattle.std.specs.Prelude.{◌≡◌, ℕ, Bool, true, false, List, [], ◌∷◌, map, refl, Option, Some, None, ℤ, pos, negsuc}
use Rattle.std.specs.Option.{option_map}
use Rattle.h2_spec.specs.declared.streams.StreamState.{StreamState}
use Rattle.h2_spec.specs.declared.streams.StreamState.TheVariants.{Idle, Skipped, BothOpen, HalfRemote, HalfLocal, Ended, PeerReset, WeReset}
use Rattle.h2_spec.specs.declared.streams.Numbers.{Numbers}
use Rattle.h2_spec.specs.declared.streams.Pick.TheVariants.{NotFound}
use Rattle.h2_spec.specs.declared.streams.Stream.{Stream}
use Rattle.h2_spec.specs.Stream.{Records, no_records, added, changed, with_record, requested, reset_as, with_numbers, peer_closed, not_live, stream_at, kind_of, record_of, live_count, id_of, next_waiting, octets_waiting}
use Rattle.h2_spec.specs.Requests.StreamEnds.{server_ended}
use Rattle.h2_spec.specs.Change.{shifted, overflows, received}

-- a stream with this send window and this much of its answer left
abbrev numbers : ℤ → Option ℕ → Numbers
numbers send left = record { recv = pos 65535; owed = 0; send = send; content_received = 0; declared = None; body_remaining = left }

-- a stream opens above the others, with no window and this much of its answer left; its peer may have ended it
abbrev opened : ℕ → Option ℕ → Bool → Records → Records
opened id left ends r = added (requested id (numbers (pos 0) left) NotFound ends) r

-- the last stream that was opened, and the number of live ones
abbrev counts : Records → ℕ × ℕ
counts r = (r.last, live_count r.streams)

at : Records → ℕ → Stream
unfolding stream_at
at r id = stream_at r.last r.streams id

kinds : Records → List ℕ → List StreamState
unfolding stream_at
kinds r ids = map (λ (id : ℕ). kind_of r.last r.streams id) ids

-- ---- states (5.1 and 5.1.1)

five : Records
five = opened 5 None false no_records

streams_are_idle_at_first : kinds no_records (1 ∷ []) ≡ Idle ∷ []
unfolding kinds
streams_are_idle_at_first = refl

-- streams below it that were not used are closed; even ones are the server's, which opens none
stream_opens : kinds five (1 ∷ 2 ∷ 3 ∷ 5 ∷ 7 ∷ []) ≡ Skipped ∷ Idle ∷ Skipped ∷ BothOpen ∷ Idle ∷ []
unfolding kinds five
stream_opens = refl

peer_ends_its_side : kinds (changed 5 peer_closed five) (5 ∷ []) ≡ HalfRemote ∷ []
unfolding kinds five stream_at
peer_ends_its_side = refl

-- both sides end, the peer's first
abbrev both_ended : Records → Records
both_ended r = changed 5 server_ended (changed 5 peer_closed r)

stream_that_has_ended_keeps_no_numbers : at (both_ended five) 5 ≡ not_live 5 Ended
unfolding at five stream_at server_ended
stream_that_has_ended_keeps_no_numbers = refl

-- ---- the order of records

-- a stream 7 besides that the server resets at once
five_and_seven : Records
unfolding five
five_and_seven = added (not_live 7 WeReset) five

stream_that_is_reset_at_once_has_a_record : kinds five_and_seven (7 ∷ []) ≡ WeReset ∷ []
unfolding kinds five_and_seven
stream_that_is_reset_at_once_has_a_record = refl

records_are_in_the_order_of_opening : map id_of five_and_seven.streams ≡ 5 ∷ 7 ∷ []
unfolding five_and_seven
records_are_in_the_order_of_opening = refl

skipped_stream_has_no_record : record_of five_and_seven.streams 3 ≡ None
unfolding five_and_seven
skipped_stream_has_no_record = refl

open_streams_are_live : counts five_and_seven ≡ (7, 1)
unfolding five_and_seven
open_streams_are_live = refl

ended_streams_are_not_live : counts (both_ended five_and_seven) ≡ (7, 0)
unfolding five_and_seven stream_at server_ended
ended_streams_are_not_live = refl

-- ---- identifiers as a peer may choose them: the least, the greatest, and wide gaps between some

abbrev chosen : List ℕ
chosen = 1 ∷ 3 ∷ 611 ∷ 65537 ∷ 536870913 ∷ 1073741825 ∷ 2147483645 ∷ 2147483647 ∷ []

abbrev opened_all : List ℕ → Records → Records
opened_all [] r = r
opened_all (id ∷ ids) r = opened_all ids (opened id None false r)

with_chosen : Records
with_chosen = opened_all chosen no_records

found : List ℕ → List (Option ℕ)
unfolding with_chosen
found ids = map (λ (id : ℕ). option_map id_of (record_of with_chosen.streams id)) ids

chosen_records_are_found : found chosen ≡ map (λ (id : ℕ). Some id) chosen
unfolding found
chosen_records_are_found = refl

no_other_record_is_found : found (0 ∷ 2 ∷ 5 ∷ 609 ∷ 613 ∷ 65535 ∷ 1073741823 ∷ 2147483643 ∷ []) ≡ None ∷ None ∷ None ∷ None ∷ None ∷ None ∷ None ∷ None ∷ []
unfolding found
no_other_record_is_found = refl

-- ---- send windows that the peer's settings move (6.9.2)

abbrev sends : List Stream → List ℤ
sends streams = map (λ (st : Stream). st.numbers.send) streams

-- a stream 1 without a window and a stream 3 with this one, whose peer has ended it
abbrev two : ℤ → List Stream
two window = requested 1 (numbers (pos 0) None) NotFound false ∷ requested 3 (numbers window None) NotFound true ∷ []

-- the window of stream 3, by how much windows move, whether that is refused, and the windows if it is not
abbrev moves : List (ℤ × ℤ × Bool × List ℤ)
moves =
    -- 65,535 octets, of which 60 KB are sent, and then an initial window of 16 KB: -44 KB
    (pos 4095, negsuc 49150, false, negsuc 49150 ∷ negsuc 45055 ∷ []) ∷
    (pos 0, negsuc 2147483646, false, negsuc 2147483646 ∷ negsuc 2147483646 ∷ []) ∷
    (pos 0, pos 2147483647, false, pos 2147483647 ∷ pos 2147483647 ∷ []) ∷
    (pos 2147483646, pos 1, false, pos 1 ∷ pos 2147483647 ∷ []) ∷
    (pos 2147483647, pos 1, true, pos 1 ∷ pos 2147483648 ∷ []) ∷
    (pos 1, pos 2147483647, true, pos 2147483647 ∷ pos 2147483648 ∷ []) ∷ []

moved : ℤ → List Stream → Bool × List ℤ
unfolding overflows shifted
moved delta streams = (overflows delta streams, sends (shifted delta streams))

abbrev wanted : ℤ × ℤ × Bool × List ℤ → Bool × List ℤ
wanted row = (row.2, row.3)

settings_move_windows_to_their_limits : map (λ (row : ℤ × ℤ × Bool × List ℤ). moved row.1 (two row.0)) moves ≡ map wanted moves
unfolding moved
settings_move_windows_to_their_limits = refl

-- a stream 1 with a window of 10 beside a stream 3 with a full one, in this state
abbrev beside_full : StreamState → List Stream
beside_full kind = requested 1 (numbers (pos 10) None) NotFound false ∷ (record { id = 3; kind = kind; numbers = numbers (pos 2147483647) None; pick = NotFound }) ∷ []

-- a window that is not moved, since the server has ended its side, refuses nothing
full_window_refuses_for_all : map (λ (kind : StreamState). overflows (pos 1) (beside_full kind)) (BothOpen ∷ HalfRemote ∷ HalfLocal ∷ []) ≡ true ∷ true ∷ false ∷ []
unfolding overflows
full_window_refuses_for_all = refl

window_of_a_stream_that_sends_no_more_is_not_moved : sends (shifted (pos 1) (beside_full HalfLocal)) ≡ pos 11 ∷ pos 2147483647 ∷ []
unfolding shifted
window_of_a_stream_that_sends_no_more_is_not_moved = refl

-- ---- receive windows that the server's own settings move (6.5.3 and 6.9.2)

-- a stream 1, a stream 3 whose peer has ended it, and a stream 5 that the server has reset
abbrev three : List Stream
three = requested 1 (numbers (pos 0) None) NotFound false ∷ requested 3 (numbers (pos 0) None) NotFound true ∷ not_live 5 WeReset ∷ []

-- by how much windows move from 65,535 octets, and where: to 10, to none, below it, and to the largest
abbrev receipts : List (ℤ × ℤ)
receipts =
    (negsuc 65524, pos 10) ∷
    (negsuc 65534, pos 0) ∷
    (negsuc 65535, negsuc 0) ∷
    (pos 2147418112, pos 2147483647) ∷ []

receive_windows_of_live_streams_are_moved : map (λ (row : ℤ × ℤ). map (λ (st : Stream). st.numbers.recv) (received row.0 three)) receipts ≡ map (λ (row : ℤ × ℤ). row.1 ∷ row.1 ∷ pos 0 ∷ []) receipts
unfolding received
receive_windows_of_live_streams_are_moved = refl

-- ---- records that change

-- five streams whose requests have ended; 1, 7 and 11 have octets left to send
before : Records
before = opened 11 (Some 2) true (opened 7 (Some 1) true (opened 5 (Some 0) true (opened 3 None true (opened 1 (Some 5) true no_records))))

-- the peer resets stream 7, stream 3 gets 9 octets to send, the server resets stream 1 and a new stream 13
after : Records
unfolding before stream_at
after = with_record (not_live 13 WeReset) (with_record (not_live 1 WeReset) (changed 3 (with_numbers (numbers (pos 0) (Some 9))) (changed 7 (reset_as true) before)))

octets_of_an_answer_wait : octets_waiting (at before 11) ≡ 2
unfolding octets_waiting at before
octets_of_an_answer_wait = refl

reset_streams_keep_no_numbers : at after 7 ∷ at after 1 ∷ [] ≡ not_live 7 PeerReset ∷ not_live 1 WeReset ∷ []
unfolding at after
reset_streams_keep_no_numbers = refl

new_stream_is_the_last : counts after ≡ (13, 3)
unfolding after
new_stream_is_the_last = refl

-- above these identifiers
abbrev places : List ℕ
places = 0 ∷ 1 ∷ 3 ∷ 10 ∷ 11 ∷ []

streams_wait_by_rising_identifier : map (λ (id : ℕ). next_waiting id before.streams) places ≡ Some 1 ∷ Some 7 ∷ Some 7 ∷ Some 11 ∷ None ∷ []
unfolding next_waiting before octets_waiting
streams_wait_by_rising_identifier = refl

streams_wait_as_their_records_say : map (λ (id : ℕ). next_waiting id after.streams) places ≡ Some 3 ∷ Some 3 ∷ Some 11 ∷ Some 11 ∷ None ∷ []
unfolding next_waiting after octets_waiting
streams_wait_as_their_records_say = refl
