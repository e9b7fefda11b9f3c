-- Whole runs, computed: what is sent for octets that come after the preface and the first SETTINGS, and what is shown
-- then.
use Rattle.std.specs.Prelude.{◌≡◌, ℕ, ◌++◌, List, [], ◌∷◌, refl, codes, replicate}
use Rattle.std.specs.Fmt.{digits}
use Rattle.hex.specs.Hex.{encode_with}
use Prim.Native.String.{String}
use Rattle.h2_spec.specs.declared.connection.Config.{Config}
use Rattle.h2_spec.specs.Requests.Answer.{Entry, answer}
use Rattle.h2_spec.specs.Opening.{opening_octets}
use Rattle.h2_spec.specs.State.{State, limits, opening}
use Rattle.h2_spec.specs.Trace.{trace, sent_octets}
use Rattle.h2_spec.specs.Texts.View.{view}
use Rattle.h2_spec.specs.Texts.Show.{show}
use Rattle.h2_spec_examples.proofs.Hex.{hex}

abbrev pub default : Config
default = limits 100 32768

-- an entry without fields
abbrev pub entry_of : String → ℕ → List ℕ → Entry
entry_of method status body = record { method = codes method; path = codes "/"; answer = answer status [] body }

-- a book of one answer: 200 to GET of /
abbrev pub get : List ℕ → List Entry
get body = entry_of "GET" 200 body ∷ []

-- the preface and an empty SETTINGS
abbrev beginning : List ℕ
beginning = hex (codes "505249202a20485454502f322e300d0a0d0a534d0d0a0d0a000000040000000000")

-- what is sent for all octets, from the beginning
sent : List Entry → Config → List ℕ → List ℕ
unfolding trace sent_octets
sent book config octets = sent_octets (trace (opening book config) octets).events

-- the state after the beginning
unfoldable pub ready : List Entry → Config → State
unfolding trace
ready book config = (trace (opening book config) beginning).state

-- what is sent for octets after the beginning
unfoldable pub replies_to : List Entry → Config → List ℕ → List ℕ
unfolding ready sent_octets
replies_to book config octets = sent_octets (trace (ready book config) octets).events

unfoldable pub replies : List Entry → Config → String → List ℕ
unfolding replies_to
replies book config octets = replies_to book config (hex (codes octets))

-- the text of the state after them
shown_after : List Entry → Config → List ℕ → List ℕ
unfolding ready show view digits encode_with
shown_after book config octets = show (view (trace (ready book config) octets).state)

unfoldable pub shown : List Entry → Config → String → List ℕ
unfolding shown_after
shown book config octets = shown_after book config (hex (codes octets))

-- ---- the preface and the first SETTINGS (RFC 9113, 3.4)

opening_settings_are_sent : opening_octets default ≡ hex (codes "00000c040000000000000300000064000600010000")
unfolding opening_octets
opening_settings_are_sent = refl

-- 1000 streams and 65535 octets of credit are the largest limits
largest_limits_are_sent : opening_octets (limits 1000 65535) ≡ hex (codes "00000c0400000000000003000003e8000600010000")
unfolding opening_octets
largest_limits_are_sent = refl

nothing_comes : sent [] default [] ≡ []
unfolding sent
nothing_comes = refl

new_connection_is_shown : show (view (opening [] default)) ≡ codes "phase preface last 0\nwindow recv 65535 owed 0 send 65535\npeer table 4096 push 1 streams - window 65535 frame 16384 list - signal 0\nacked 0 goaway -\nown table 4096 window 65535 frame 16384 due 0\nblock -\ntable 0 0 4096\n"
unfolding show view digits encode_with
new_connection_is_shown = refl

first_settings_is_acknowledged : sent [] default beginning ≡ hex (codes "000000040100000000")
unfolding sent
first_settings_is_acknowledged = refl

bad_preface_ends_at_its_octet : sent [] default (hex (codes "505249202a20485454502f322e300d0a0d0a534d0d0a0d0b")) ≡ hex (codes "0000080700000000000000000000000001")
unfolding sent
bad_preface_ends_at_its_octet = refl

bad_first_octet_ends : sent [] default (hex (codes "47")) ≡ hex (codes "0000080700000000000000000000000001")
unfolding sent
bad_first_octet_ends = refl

octets_after_the_end_are_ignored : sent [] default (hex (codes "47505249202a20485454502f322e300d0a0d0a534d0d0a0d0a000000040000000000")) ≡ hex (codes "0000080700000000000000000000000001")
unfolding sent
octets_after_the_end_are_ignored = refl

-- SETTINGS on a stream
acknowledgement_is_no_first_frame : sent [] default (hex (codes "505249202a20485454502f322e300d0a0d0a534d0d0a0d0a000000040000000001")) ≡ hex (codes "0000080700000000000000000000000001")
unfolding sent
acknowledgement_is_no_first_frame = refl

first_frame_has_to_be_settings : sent [] default (hex (codes "505249202a20485454502f322e300d0a0d0a534d0d0a0d0a0000080600000000000102030405060708")) ≡ hex (codes "0000080700000000000000000000000001")
unfolding sent
first_frame_has_to_be_settings = refl

first_settings_with_ack : sent [] default (hex (codes "505249202a20485454502f322e300d0a0d0a534d0d0a0d0a000000040100000000")) ≡ hex (codes "0000080700000000000000000000000001")
unfolding sent
first_settings_with_ack = refl

-- ---- frames of the connection

settings_and_ping_are_answered : sent [] default (beginning ++ hex (codes "0000080600000000006465627567676572")) ≡ hex (codes "0000000401000000000000080601000000006465627567676572")
unfolding sent
settings_and_ping_are_answered = refl

ping_is_answered : replies [] default "0000080600000000000102030405060708" ≡ hex (codes "0000080601000000000102030405060708")
unfolding replies
ping_is_answered = refl

ping_changes_nothing : shown [] default "0000080600000000000102030405060708" ≡ codes "phase running last 0\nwindow recv 65535 owed 0 send 65535\npeer table 4096 push 1 streams - window 65535 frame 16384 list - signal 0\nacked 0 goaway -\nown table 4096 window 65535 frame 16384 due 0\nblock -\ntable 0 0 4096\n"
unfolding shown
ping_changes_nothing = refl

ping_of_seven_octets : replies [] default "00000706000000000001020304050607" ≡ hex (codes "0000080700000000000000000000000006")
unfolding replies
ping_of_seven_octets = refl

ping_on_a_stream : replies [] default "0000080600000000010102030405060708" ≡ hex (codes "0000080700000000000000000000000001")
unfolding replies
ping_on_a_stream = refl

ping_acknowledgement : replies [] default "0000080601000000000102030405060708" ≡ hex (codes "")
unfolding replies
ping_acknowledgement = refl

unknown_type_is_ignored : replies [] default "0000010a000000000000" ≡ hex (codes "")
unfolding replies
unknown_type_is_ignored = refl

settings_acknowledgement : replies [] default "000000040100000000" ≡ hex (codes "")
unfolding replies
settings_acknowledgement = refl

settings_acknowledgement_is_noted : shown [] default "000000040100000000" ≡ codes "phase running last 0\nwindow recv 65535 owed 0 send 65535\npeer table 4096 push 1 streams - window 65535 frame 16384 list - signal 0\nacked 1 goaway -\nown table 4096 window 65535 frame 16384 due 0\nblock -\ntable 0 0 4096\n"
unfolding shown
settings_acknowledgement_is_noted = refl

-- without the reserved bit
goaway_is_noted : shown [] default "0000080700000000008000000300000002" ≡ codes "phase running last 0\nwindow recv 65535 owed 0 send 65535\npeer table 4096 push 1 streams - window 65535 frame 16384 list - signal 0\nacked 0 goaway 3 2\nown table 4096 window 65535 frame 16384 due 0\nblock -\ntable 0 0 4096\n"
unfolding shown
goaway_is_noted = refl

push_promise : replies [] default "00000405040000000100000002" ≡ hex (codes "0000080700000000000000000000000001")
unfolding replies
push_promise = refl

oversized_head_is_not_awaited : replies [] default "004001000000000001" ≡ hex (codes "0000080700000000000000000000000006")
unfolding replies
oversized_head_is_not_awaited = refl

unknown_type_of_the_largest_size : replies_to [] default (hex (codes "0040000a0000000000") ++ replicate 16384 7) ≡ []
unfolding replies_to
unknown_type_of_the_largest_size = refl

headers_on_stream_zero : replies [] default "000003010400000000828684" ≡ hex (codes "0000080700000000000000000000000001")
unfolding replies
headers_on_stream_zero = refl

continuation_without_a_block : replies [] default "000000090400000001" ≡ hex (codes "0000080700000000000000000000000001")
unfolding replies
continuation_without_a_block = refl

-- ---- requests and answers (8.1)

get_is_answered : replies (get (codes "hi")) default "000014010500000001828684410f7777772e6578616d706c652e636f6d" ≡ hex (codes "000001010400000001880000020001000000016869")
unfolding replies
get_is_answered = refl

get_is_shown : shown (get (codes "hi")) default "000014010500000001828684410f7777772e6578616d706c652e636f6d" ≡ codes "phase running last 1\nwindow recv 65535 owed 0 send 65533\npeer table 4096 push 1 streams - window 65535 frame 16384 list - signal 0\nacked 0 goaway -\nown table 4096 window 65535 frame 16384 due 0\nblock -\ntable 1 57 4096\nentry 62 3a617574686f72697479 7777772e6578616d706c652e636f6d\nstream 1 ended\n"
unfolding shown
get_is_shown = refl

get_in_two_fragments : replies (get (codes "hi")) default "000007010100000001828684418cf1e300000a090400000001c2e5f23a6ba0ab90f4ff" ≡ hex (codes "000001010400000001880000020001000000016869")
unfolding replies
get_in_two_fragments = refl

-- three fields are whole, of 42, 43 and 38 octets
open_block_is_shown : shown (get (codes "hi")) default "000007010100000001828684418cf1e3" ≡ codes "phase running last 0\nwindow recv 65535 owed 0 send 65535\npeer table 4096 push 1 streams - window 65535 frame 16384 list - signal 0\nacked 0 goaway -\nown table 4096 window 65535 frame 16384 due 0\nblock stream 1 octets 7 list 123 ends 1\ntable 0 0 4096\n"
unfolding shown
open_block_is_shown = refl

ping_inside_a_block : replies (get (codes "hi")) default "000007010100000001828684418cf1e3000008060000000000010203040506070800000a090400000001c2e5f23a6ba0ab90f4ff" ≡ hex (codes "0000080700000000000000000000000001")
unfolding replies
ping_inside_a_block = refl

unknown_type_inside_a_block : replies (get (codes "hi")) default "000007010100000001828684418cf1e30000010a000000000000" ≡ hex (codes "0000080700000000000000000000000001")
unfolding replies
unknown_type_inside_a_block = refl

continuation_on_another_stream : replies (get (codes "hi")) default "000007010100000001828684418cf1e300000a090400000003c2e5f23a6ba0ab90f4ff" ≡ hex (codes "0000080700000000000000000000000001")
unfolding replies
continuation_on_another_stream = refl

-- a stream error (8.3.1)
request_of_a_method_alone : replies [] default "00000101050000000182" ≡ hex (codes "00000403000000000100000001")
unfolding replies
request_of_a_method_alone = refl

request_of_a_method_alone_is_shown : shown [] default "00000101050000000182" ≡ codes "phase running last 1\nwindow recv 65535 owed 0 send 65535\npeer table 4096 push 1 streams - window 65535 frame 16384 list - signal 0\nacked 0 goaway -\nown table 4096 window 65535 frame 16384 due 0\nblock -\ntable 0 0 4096\nstream 1 we-reset\n"
unfolding shown
request_of_a_method_alone_is_shown = refl

unknown_path : replies [] default "000014010500000001828684410f7777772e6578616d706c652e636f6d" ≡ hex (codes "0000010105000000018d")
unfolding replies
unknown_path = refl

connect_is_not_implemented : replies [] default "00000e0105000000010207434f4e4e4543540103612e62" ≡ hex (codes "0000050105000000010803353031")
unfolding replies
connect_is_not_implemented = refl

table_size_update_is_signalled : replies (get (codes "hi")) default "000006040000000000000100000000000014010500000001828684410f7777772e6578616d706c652e636f6d" ≡ hex (codes "00000004010000000000000201040000000120880000020001000000016869")
unfolding replies
table_size_update_is_signalled = refl

-- ---- faults of field blocks (4.3)

size_update_to_the_limit : replies [] default "0000060105000000013fe11f828684" ≡ hex (codes "0000010105000000018d")
unfolding replies
size_update_to_the_limit = refl

size_update_above_the_limit : replies [] default "0000030105000000013fe21f" ≡ hex (codes "0000080700000000000000000000000009")
unfolding replies
size_update_above_the_limit = refl

size_update_behind_a_field : replies [] default "0000020105000000018220" ≡ hex (codes "0000080700000000000000000000000009")
unfolding replies
size_update_behind_a_field = refl

index_zero : replies [] default "00000101050000000180" ≡ hex (codes "0000080700000000000000000000000009")
unfolding replies
index_zero = refl

index_past_both_tables : replies [] default "000001010500000001c0" ≡ hex (codes "0000080700000000000000000000000009")
unfolding replies
index_past_both_tables = refl

huffman_padding_of_eight_ones : replies [] default "0000040105000000014182ffff" ≡ hex (codes "0000080700000000000000000000000009")
unfolding replies
huffman_padding_of_eight_ones = refl

instruction_cut_off : replies [] default "00000101050000000141" ≡ hex (codes "0000080700000000000000000000000009")
unfolding replies
instruction_cut_off = refl

cut_instruction_waits_for_continuation : replies [] default "00000101010000000141" ≡ hex (codes "")
unfolding replies
cut_instruction_waits_for_continuation = refl

truncated_at_the_end_alone : replies [] default "00000101010000000141000000090400000001" ≡ hex (codes "0000080700000000000000000000000009")
unfolding replies
truncated_at_the_end_alone = refl

-- ---- closed streams, resets and limits (5.1)

data_on_half_closed : replies (get (codes "hi")) default "000006040000000000000400000000000014010500000001828684410f7777772e6578616d706c652e636f6d000003000000000001616263000003000000000001616263" ≡ hex (codes "0000000401000000000000010104000000018800000403000000000100000005")
unfolding replies
data_on_half_closed = refl

data_on_half_closed_is_counted : shown (get (codes "hi")) default "000006040000000000000400000000000014010500000001828684410f7777772e6578616d706c652e636f6d000003000000000001616263000003000000000001616263" ≡ codes "phase running last 1\nwindow recv 65529 owed 6 send 65535\npeer table 4096 push 1 streams - window 0 frame 16384 list - signal 0\nacked 0 goaway -\nown table 4096 window 65535 frame 16384 due 0\nblock -\ntable 1 57 4096\nentry 62 3a617574686f72697479 7777772e6578616d706c652e636f6d\nstream 1 we-reset\n"
unfolding shown
data_on_half_closed_is_counted = refl

second_request_below_last : replies [] default "000003010400000005828684000003010400000003828684" ≡ hex (codes "0000080700000000000000000500000001")
unfolding replies
second_request_below_last = refl

data_on_skipped : replies [] default "000003010400000005828684000003000000000003616263" ≡ hex (codes "0000080700000000000000000500000005")
unfolding replies
data_on_skipped = refl

priority_on_skipped : replies [] default "0000030104000000058286840000050200000000030000000010" ≡ hex (codes "")
unfolding replies
priority_on_skipped = refl

window_update_on_skipped : replies [] default "00000301040000000582868400000408000000000300000001" ≡ hex (codes "")
unfolding replies
window_update_on_skipped = refl

reset_on_skipped : replies [] default "00000301040000000582868400000403000000000300000008" ≡ hex (codes "")
unfolding replies
reset_on_skipped = refl

headers_on_even : replies [] default "000003010400000005828684000003010400000002828684" ≡ hex (codes "0000080700000000000000000500000001")
unfolding replies
headers_on_even = refl

data_on_idle : replies [] default "000003000000000001616263" ≡ hex (codes "0000080700000000000000000000000001")
unfolding replies
data_on_idle = refl

reset_on_idle : replies [] default "00000403000000000100000008" ≡ hex (codes "0000080700000000000000000000000001")
unfolding replies
reset_on_idle = refl

window_update_on_idle : replies [] default "00000408000000000100000001" ≡ hex (codes "0000080700000000000000000000000001")
unfolding replies
window_update_on_idle = refl

priority_on_idle : replies [] default "0000050200000000010000000010" ≡ hex (codes "")
unfolding replies
priority_on_idle = refl

empty_body_ends_the_stream : replies [] default "000003010400000001828684000000000100000001" ≡ hex (codes "0000010105000000018d")
unfolding replies
empty_body_ends_the_stream = refl

data_on_ended : replies [] default "000003010400000001828684000000000100000001000000000000000001" ≡ hex (codes "0000010105000000018d0000080700000000000000000100000005")
unfolding replies
data_on_ended = refl

headers_on_ended : replies [] default "000003010400000001828684000000000100000001000003010400000001828684" ≡ hex (codes "0000010105000000018d0000080700000000000000000100000005")
unfolding replies
headers_on_ended = refl

reset_on_ended : replies [] default "00000301040000000182868400000000010000000100000403000000000100000008" ≡ hex (codes "0000010105000000018d")
unfolding replies
reset_on_ended = refl

peer_reset_is_silent : replies [] default "00000301040000000182868400000403000000000100000008" ≡ hex (codes "")
unfolding replies
peer_reset_is_silent = refl

peer_reset_is_shown : shown [] default "00000301040000000182868400000403000000000100000008" ≡ codes "phase running last 1\nwindow recv 65535 owed 0 send 65535\npeer table 4096 push 1 streams - window 65535 frame 16384 list - signal 0\nacked 0 goaway -\nown table 4096 window 65535 frame 16384 due 0\nblock -\ntable 0 0 4096\nstream 1 peer-reset\n"
unfolding shown
peer_reset_is_shown = refl

data_on_peer_reset : replies [] default "00000301040000000182868400000403000000000100000008000003000000000001616263" ≡ hex (codes "0000080700000000000000000100000005")
unfolding replies
data_on_peer_reset = refl

headers_on_peer_reset : replies [] default "00000301040000000182868400000403000000000100000008000003010500000001828684" ≡ hex (codes "0000080700000000000000000100000005")
unfolding replies
headers_on_peer_reset = refl

reset_of_three_octets : replies [] default "000003010400000001828684000003030000000001000008" ≡ hex (codes "0000080700000000000000000100000006")
unfolding replies
reset_of_three_octets = refl

-- a refused stream's block changes the header table
refused_and_indexed : replies [] (limits 1 32768) "0000030104000000018286840000080105000000038286844001610162000000000100000001000004010500000005828684be" ≡ hex (codes "000004030000000003000000070000010105000000018d0000010105000000058d")
unfolding replies
refused_and_indexed = refl

refused_is_shown : shown [] (limits 1 32768) "0000030104000000018286840000080105000000038286844001610162000000000100000001000004010500000005828684be" ≡ codes "phase running last 5\nwindow recv 65535 owed 0 send 65535\npeer table 4096 push 1 streams - window 65535 frame 16384 list - signal 0\nacked 0 goaway -\nown table 4096 window 65535 frame 16384 due 0\nblock -\ntable 1 34 4096\nentry 62 61 62\nstream 1 ended\nstream 3 we-reset\nstream 5 ended\n"
unfolding shown
refused_is_shown = refl

-- the index is of the field that the refused block put into the table
block_on_reset_is_decoded : replies [] (limits 1 32768) "0000030104000000018286840000080104000000038286844001610162000001010500000003be" ≡ hex (codes "00000403000000000300000007")
unfolding replies
block_on_reset_is_decoded = refl

limit_is_announced : opening_octets (limits 1 32768) ≡ hex (codes "00000c040000000000000300000001000600010000")
unfolding opening_octets
limit_is_announced = refl

-- ---- windows and credit (5.2, 6.9)

connection_window_too_large : replies [] default "0000040800000000007fffffff" ≡ hex (codes "0000080700000000000000000000000003")
unfolding replies
connection_window_too_large = refl

stream_window_too_large : replies [] default "0000030104000000018286840000040800000000017fffffff" ≡ hex (codes "00000403000000000100000003")
unfolding replies
stream_window_too_large = refl

stream_increment_zero : replies [] default "00000301040000000182868400000408000000000100000000" ≡ hex (codes "00000403000000000100000001")
unfolding replies
stream_increment_zero = refl

increment_zero_on_ended : replies [] default "00000301040000000182868400000000010000000100000408000000000100000000" ≡ hex (codes "0000010105000000018d")
unfolding replies
increment_zero_on_ended = refl

connection_increment_zero : replies [] default "00000408000000000000000000" ≡ hex (codes "0000080700000000000000000000000001")
unfolding replies
connection_increment_zero = refl

reserved_bit_of_an_increment : replies [] default "00000301040000000182868400000408000000000180000001" ≡ hex (codes "")
unfolding replies
reserved_bit_of_an_increment = refl

padded_without_octets : replies [] default "000000000800000001" ≡ hex (codes "0000080700000000000000000000000006")
unfolding replies
padded_without_octets = refl

padding_is_counted : replies [] default "000003010400000001828684000003000800000001020000" ≡ hex (codes "")
unfolding replies
padding_is_counted = refl

padding_is_counted_and_shown : shown [] default "000003010400000001828684000003000800000001020000" ≡ codes "phase running last 1\nwindow recv 65532 owed 3 send 65535\npeer table 4096 push 1 streams - window 65535 frame 16384 list - signal 0\nacked 0 goaway -\nown table 4096 window 65535 frame 16384 due 0\nblock -\ntable 0 0 4096\nstream 1 open recv 65532 owed 3 send 65535 got 0 of - left -\n"
unfolding shown
padding_is_counted_and_shown = refl

padding_too_long : replies [] default "000003010400000001828684000003000800000001030000" ≡ hex (codes "0000080700000000000000000100000001")
unfolding replies
padding_too_long = refl

credit_is_given_back : replies [] (limits 100 4) "00000301040000000182868400000400000000000161626364" ≡ hex (codes "0000040800000000000000000400000408000000000100000004")
unfolding replies
credit_is_given_back = refl

ended_stream_returns_no_credit : replies [] (limits 100 4) "00000301040000000182868400000400010000000161626364" ≡ hex (codes "000004080000000000000000040000010105000000018d")
unfolding replies
ended_stream_returns_no_credit = refl

credit_below_the_threshold : replies [] (limits 100 4) "000003010400000001828684000003000000000001616263" ≡ hex (codes "")
unfolding replies
credit_below_the_threshold = refl

-- ---- settings (6.5)

settings_overflow_a_window : replies [] default "0000030104000000018286840000040800000000010000000100000604000000000000047fffffff" ≡ hex (codes "0000080700000000000000000100000003")
unfolding replies
settings_overflow_a_window = refl

refused_settings_change_nothing : shown [] default "0000030104000000018286840000040800000000010000000100000604000000000000047fffffff" ≡ codes "phase ended 3 last 1\nwindow recv 65535 owed 0 send 65535\npeer table 4096 push 1 streams - window 65535 frame 16384 list - signal 0\nacked 0 goaway -\nown table 4096 window 65535 frame 16384 due 0\nblock -\ntable 0 0 4096\nstream 1 open recv 65535 owed 0 send 65536 got 0 of - left -\n"
unfolding shown
refused_settings_change_nothing = refl

settings_overflow_in_the_middle : replies [] default "0000030104000000018286840000040800000000010000000100000c04000000000000047fffffff000400000000" ≡ hex (codes "0000080700000000000000000100000003")
unfolding replies
settings_overflow_in_the_middle = refl

push_of_two : replies [] default "000006040000000000000200000002" ≡ hex (codes "0000080700000000000000000000000001")
unfolding replies
push_of_two = refl

initial_window_too_large : replies [] default "000006040000000000000480000000" ≡ hex (codes "0000080700000000000000000000000003")
unfolding replies
initial_window_too_large = refl

frame_size_too_small : replies [] default "000006040000000000000500003fff" ≡ hex (codes "0000080700000000000000000000000001")
unfolding replies
frame_size_too_small = refl

settings_of_seven_octets : replies [] default "00000704000000000000040000ffff00" ≡ hex (codes "0000080700000000000000000000000006")
unfolding replies
settings_of_seven_octets = refl

settings_ack_with_octets : replies [] default "00000604010000000000040000ffff" ≡ hex (codes "0000080700000000000000000000000006")
unfolding replies
settings_ack_with_octets = refl

settings_are_shown : shown [] default "00002404000000000000010000006400020000000000030000000a00040000ffff0005000040000006000003e8" ≡ codes "phase running last 0\nwindow recv 65535 owed 0 send 65535\npeer table 100 push 0 streams 10 window 65535 frame 16384 list 1000 signal 1\nacked 0 goaway -\nown table 4096 window 65535 frame 16384 due 0\nblock -\ntable 0 0 4096\n"
unfolding shown
settings_are_shown = refl

-- ---- content (8.1.1) and trailers

content_longer_than_declared : replies [] default "0000070104000000018386840f0d013300000400010000000161626364" ≡ hex (codes "00000403000000000100000001")
unfolding replies
content_longer_than_declared = refl

content_as_declared : replies [] default "0000070104000000018386840f0d0133000003000100000001616263" ≡ hex (codes "0000010105000000018d")
unfolding replies
content_as_declared = refl

content_shorter_than_declared : replies [] default "0000070104000000018386840f0d01330000020001000000016162" ≡ hex (codes "00000403000000000100000001")
unfolding replies
content_shorter_than_declared = refl

trailers_need_end_stream : replies [] default "0000030104000000018286840000050104000000010001610162" ≡ hex (codes "00000403000000000100000001")
unfolding replies
trailers_need_end_stream = refl

trailers_end_the_request : replies [] default "0000030104000000018286840000050105000000010001610162" ≡ hex (codes "0000010105000000018d")
unfolding replies
trailers_end_the_request = refl

pseudo_field_in_trailers : replies [] default "00000301040000000182868400000101050000000182" ≡ hex (codes "00000403000000000100000001")
unfolding replies
pseudo_field_in_trailers = refl
