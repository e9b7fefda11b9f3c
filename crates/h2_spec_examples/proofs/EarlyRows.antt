-- Answers that begin before their requests have ended, computed: octets that come after the preface and the first
-- SETTINGS, what is sent for them, and what is shown then.
use Rattle.std.specs.Prelude.{◌≡◌, ℕ, List, [], ◌∷◌, true, refl, codes}
use Prim.Native.String.{String}
use Rattle.h2_spec.specs.Requests.Answer.{Entry, answer}
use Rattle.h2_spec_examples.proofs.Hex.{hex}
use Rattle.h2_spec_examples.proofs.Runs.{default, replies, shown}
use Rattle.h2_spec.specs.State.{limits}

-- a book of one early answer
abbrev early : String → ℕ → List ℕ → List Entry
early method status body = record { method = codes method; path = codes "/"; answer = record (answer status [] body) { early = true } } ∷ []

begins_while_the_request_is_open : replies (early "GET" 200 (codes "hi")) default "000003010400000001828684" ≡ hex (codes "000001010400000001880000020001000000016869")
unfolding replies
begins_while_the_request_is_open = refl

ends_the_server_side : shown (early "GET" 200 (codes "hi")) default "000003010400000001828684" ≡ codes "phase running last 1\nwindow recv 65535 owed 0 send 65533\npeer table 4096 push 1 streams - window 65535 frame 16384 list - signal 0\nacked 0 goaway -\nown table 4096 window 65535 frame 16384 due 0\nblock -\ntable 0 0 4096\nstream 1 half-local recv 65535 owed 0 send 65533 got 0 of - left -\n"
unfolding shown
ends_the_server_side = refl

data_behind_the_answer_is_taken : replies (early "GET" 200 (codes "hi")) default "000003010400000001828684000003000000000001616263" ≡ hex (codes "000001010400000001880000020001000000016869")
unfolding replies
data_behind_the_answer_is_taken = refl

data_behind_the_answer_is_counted : shown (early "GET" 200 (codes "hi")) default "000003010400000001828684000003000000000001616263" ≡ codes "phase running last 1\nwindow recv 65532 owed 3 send 65533\npeer table 4096 push 1 streams - window 65535 frame 16384 list - signal 0\nacked 0 goaway -\nown table 4096 window 65535 frame 16384 due 0\nblock -\ntable 0 0 4096\nstream 1 half-local recv 65532 owed 3 send 65533 got 3 of - left -\n"
unfolding shown
data_behind_the_answer_is_counted = refl

nothing_is_sent_at_the_end_of_the_request : replies (early "GET" 200 (codes "hi")) default "000003010400000001828684000003000000000001616263000000000100000001" ≡ hex (codes "000001010400000001880000020001000000016869")
unfolding replies
nothing_is_sent_at_the_end_of_the_request = refl

both_sides_have_ended : shown (early "GET" 200 (codes "hi")) default "000003010400000001828684000003000000000001616263000000000100000001" ≡ codes "phase running last 1\nwindow recv 65532 owed 3 send 65533\npeer table 4096 push 1 streams - window 65535 frame 16384 list - signal 0\nacked 0 goaway -\nown table 4096 window 65535 frame 16384 due 0\nblock -\ntable 0 0 4096\nstream 1 ended\n"
unfolding shown
both_sides_have_ended = refl

data_behind_both_ends : replies (early "GET" 200 (codes "hi")) default "000003010400000001828684000003000000000001616263000000000100000001000000000100000001" ≡ hex (codes "0000010104000000018800000200010000000168690000080700000000000000000100000005")
unfolding replies
data_behind_both_ends = refl

headers_alone_where_no_octet_may_be_sent : replies (early "GET" 200 (codes "hi")) default "000006040000000000000400000000000003010400000001828684" ≡ hex (codes "00000004010000000000000101040000000188")
unfolding replies
headers_alone_where_no_octet_may_be_sent = refl

body_waits_on_the_open_stream : shown (early "GET" 200 (codes "hi")) default "000006040000000000000400000000000003010400000001828684" ≡ codes "phase running last 1\nwindow recv 65535 owed 0 send 65535\npeer table 4096 push 1 streams - window 0 frame 16384 list - signal 0\nacked 0 goaway -\nown table 4096 window 65535 frame 16384 due 0\nblock -\ntable 0 0 4096\nstream 1 open recv 65535 owed 0 send 0 got 0 of - left 2\n"
unfolding shown
body_waits_on_the_open_stream = refl

begun_answer_does_not_begin_again : replies (early "GET" 200 (codes "hi")) default "000006040000000000000400000000000003010400000001828684000000000100000001" ≡ hex (codes "00000004010000000000000101040000000188")
unfolding replies
begun_answer_does_not_begin_again = refl

body_waits_behind_the_end_of_the_request : shown (early "GET" 200 (codes "hi")) default "000006040000000000000400000000000003010400000001828684000000000100000001" ≡ codes "phase running last 1\nwindow recv 65535 owed 0 send 65535\npeer table 4096 push 1 streams - window 0 frame 16384 list - signal 0\nacked 0 goaway -\nown table 4096 window 65535 frame 16384 due 0\nblock -\ntable 0 0 4096\nstream 1 half-remote recv 65535 owed 0 send 0 got 0 of - left 2\n"
unfolding shown
body_waits_behind_the_end_of_the_request = refl

body_is_sent_behind_the_end_of_the_request : replies (early "GET" 200 (codes "hi")) default "00000604000000000000040000000000000301040000000182868400000000010000000100000408000000000100000002" ≡ hex (codes "000000040100000000000001010400000001880000020001000000016869")
unfolding replies
body_is_sent_behind_the_end_of_the_request = refl

body_sent_behind_the_end_of_the_request_ends_the_stream : shown (early "GET" 200 (codes "hi")) default "00000604000000000000040000000000000301040000000182868400000000010000000100000408000000000100000002" ≡ codes "phase running last 1\nwindow recv 65535 owed 0 send 65533\npeer table 4096 push 1 streams - window 0 frame 16384 list - signal 0\nacked 0 goaway -\nown table 4096 window 65535 frame 16384 due 0\nblock -\ntable 0 0 4096\nstream 1 ended\n"
unfolding shown
body_sent_behind_the_end_of_the_request_ends_the_stream = refl

body_is_sent_while_the_request_is_open : replies (early "GET" 200 (codes "hi")) default "00000604000000000000040000000000000301040000000182868400000408000000000100000002" ≡ hex (codes "000000040100000000000001010400000001880000020001000000016869")
unfolding replies
body_is_sent_while_the_request_is_open = refl

body_sent_while_the_request_is_open_ends_the_server_side : shown (early "GET" 200 (codes "hi")) default "00000604000000000000040000000000000301040000000182868400000408000000000100000002" ≡ codes "phase running last 1\nwindow recv 65535 owed 0 send 65533\npeer table 4096 push 1 streams - window 0 frame 16384 list - signal 0\nacked 0 goaway -\nown table 4096 window 65535 frame 16384 due 0\nblock -\ntable 0 0 4096\nstream 1 half-local recv 65535 owed 0 send 0 got 0 of - left -\n"
unfolding shown
body_sent_while_the_request_is_open_ends_the_server_side = refl

empty_answer_ends_with_its_headers : replies (early "GET" 204 []) default "000003010400000001828684" ≡ hex (codes "00000101050000000189")
unfolding replies
empty_answer_ends_with_its_headers = refl

trailers_behind_an_empty_answer : replies (early "GET" 204 []) default "000003010400000001828684000000010500000001" ≡ hex (codes "00000101050000000189")
unfolding replies
trailers_behind_an_empty_answer = refl

trailers_behind_an_empty_answer_end_the_stream : shown (early "GET" 204 []) default "000003010400000001828684000000010500000001" ≡ codes "phase running last 1\nwindow recv 65535 owed 0 send 65535\npeer table 4096 push 1 streams - window 65535 frame 16384 list - signal 0\nacked 0 goaway -\nown table 4096 window 65535 frame 16384 due 0\nblock -\ntable 0 0 4096\nstream 1 ended\n"
unfolding shown
trailers_behind_an_empty_answer_end_the_stream = refl

trailers_without_end_stream_behind_an_empty_answer : replies (early "GET" 204 []) default "000003010400000001828684000000010400000001" ≡ hex (codes "0000010105000000018900000403000000000100000001")
unfolding replies
trailers_without_end_stream_behind_an_empty_answer = refl

credit_is_given_back_behind_an_empty_answer : replies (early "GET" 204 []) (limits 100 4) "00000301040000000182868400000400000000000161626364" ≡ hex (codes "000001010500000001890000040800000000000000000400000408000000000100000004")
unfolding replies
credit_is_given_back_behind_an_empty_answer = refl

content_past_the_declared_length_behind_an_answer : replies (early "POST" 200 (codes "hi")) default "0000070104000000018386840f0d013300000400010000000161626364" ≡ hex (codes "00000101040000000188000002000100000001686900000403000000000100000001")
unfolding replies
content_past_the_declared_length_behind_an_answer = refl

content_past_the_declared_length_resets_the_stream : shown (early "POST" 200 (codes "hi")) default "0000070104000000018386840f0d013300000400010000000161626364" ≡ codes "phase running last 1\nwindow recv 65531 owed 4 send 65533\npeer table 4096 push 1 streams - window 65535 frame 16384 list - signal 0\nacked 0 goaway -\nown table 4096 window 65535 frame 16384 due 0\nblock -\ntable 0 0 4096\nstream 1 we-reset\n"
unfolding shown
content_past_the_declared_length_resets_the_stream = refl

request_that_has_ended_is_answered_alike : replies (early "GET" 200 (codes "hi")) default "000003010500000001828684" ≡ hex (codes "000001010400000001880000020001000000016869")
unfolding replies
request_that_has_ended_is_answered_alike = refl

not_found_is_not_early : replies (early "GET" 200 (codes "hi")) default "000003010400000001838684" ≡ hex (codes "")
unfolding replies
not_found_is_not_early = refl

not_found_begins_at_the_end_of_the_request : replies (early "GET" 200 (codes "hi")) default "000003010400000001838684000000000100000001" ≡ hex (codes "0000010105000000018d")
unfolding replies
not_found_begins_at_the_end_of_the_request = refl

connect_is_not_answered_early : replies (early "GET" 200 (codes "hi")) default "00000c0104000000014207434f4e4e454354410161" ≡ hex (codes "")
unfolding replies
connect_is_not_answered_early = refl

half_closed_streams_are_live : replies (early "GET" 204 []) (limits 1 32768) "000003010400000001828684000003010400000003828684000000000100000001000003010400000005828684" ≡ hex (codes "000001010500000001890000040300000000030000000700000101050000000589")
unfolding replies
half_closed_streams_are_live = refl

-- a window that the peer lowers by settings is not lowered on a half-closed (local) stream, so an increment that is right
-- by the peer's count is refused
increment_right_for_the_peer_is_refused : replies (early "GET" 200 (codes "hi")) default "0000030104000000018286840000060400000000000004000000000000040800000000017fffffff" ≡ hex (codes "00000101040000000188000002000100000001686900000004010000000000000403000000000100000003")
unfolding replies
increment_right_for_the_peer_is_refused = refl
