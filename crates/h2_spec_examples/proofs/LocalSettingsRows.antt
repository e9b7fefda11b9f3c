-- The server's own settings, computed: octets that come after the preface and the first SETTINGS, what is sent for
-- them, and what is shown then. The peer's acknowledgement is the frame 000000040100000000 (RFC 9113, 6.5.3).
use Rattle.std.specs.Prelude.{◌≡◌, ℕ, [], ◌∷◌, ◌++◌, map, true, false, refl, codes, replicate}
use Rattle.h2_spec.specs.declared.connection.Config.{Config}
use Rattle.h2_spec.specs.Opening.{opening_octets}
use Rattle.h2_spec.specs.State.{is_allowed, limits}
use Rattle.h2_spec_examples.proofs.Hex.{hex}
use Rattle.h2_spec_examples.proofs.Runs.{default, replies, replies_to, shown}

-- a limit of the header table, windows of new streams, and frames of this length
abbrev of_table : ℕ → Config
of_table n = record default { table = n }

abbrev of_window : ℕ → Config
of_window n = record default { window = n }

abbrev of_frame : ℕ → Config
of_frame n = record default { frame = n }

abbrev of_all : ℕ → ℕ → ℕ → Config
of_all table window frame = record default { table = table; window = window; frame = frame }

-- ---- the opening SETTINGS, by rising identifier (6.5.1)

table_is_announced : opening_octets (of_table 100) ≡ hex (codes "000012040000000000000100000064000300000064000600010000")
unfolding opening_octets
table_is_announced = refl

window_is_announced : opening_octets (of_window 10) ≡ hex (codes "00001204000000000000030000006400040000000a000600010000")
unfolding opening_octets
window_is_announced = refl

frame_is_announced : opening_octets (of_frame 65536) ≡ hex (codes "000012040000000000000300000064000500010000000600010000")
unfolding opening_octets
frame_is_announced = refl

all_are_announced : opening_octets (of_all 100 10 65536) ≡ hex (codes "00001e04000000000000010000006400030000006400040000000a000500010000000600010000")
unfolding opening_octets
all_are_announced = refl

-- with one stream
largest_are_announced : opening_octets (record (of_all 65536 2147483647 65536) { streams = 1 }) ≡ hex (codes "00001e04000000000000010001000000030000000100047fffffff000500010000000600010000")
unfolding opening_octets
largest_are_announced = refl

-- ---- their ranges, and those of the limits of streams and of credit

least_settings_are_allowed : is_allowed (of_all 0 0 16384) ≡ true
least_settings_are_allowed = refl

largest_settings_are_allowed : is_allowed (of_all 65536 2147483647 65536) ≡ true
largest_settings_are_allowed = refl

too_large_a_table : is_allowed (of_table 65537) ≡ false
too_large_a_table = refl

too_large_a_window : is_allowed (of_window 2147483648) ≡ false
too_large_a_window = refl

too_small_a_frame : is_allowed (of_frame 16383) ≡ false
too_small_a_frame = refl

limits_out_of_range : map (λ (config : Config). is_allowed config) (limits 0 32768 ∷ limits 1001 32768 ∷ limits 100 0 ∷ limits 100 65536 ∷ []) ≡ false ∷ false ∷ false ∷ false ∷ []
limits_out_of_range = refl

limits_at_their_bounds : map (λ (config : Config). is_allowed config) (limits 1 1 ∷ limits 1000 65535 ∷ []) ≡ true ∷ true ∷ []
limits_at_their_bounds = refl

too_large_a_frame : is_allowed (of_frame 65537) ≡ false
too_large_a_frame = refl

-- ---- the header table (RFC 7541, 4.2)

acknowledgement_is_silent : replies [] (of_table 100) "000000040100000000" ≡ []
unfolding replies
acknowledgement_is_silent = refl

update_is_due : shown [] (of_table 100) "000000040100000000" ≡ codes "phase running last 0\nwindow recv 65535 owed 0 send 65535\npeer table 4096 push 1 streams - window 65535 frame 16384 list - signal 0\nacked 1 goaway -\nown table 100 window 65535 frame 16384 due 1\nblock -\ntable 0 0 4096\n"
unfolding shown
update_is_due = refl

first_settings_hold_before_it : shown [] (of_all 100 10 65536) "" ≡ codes "phase running last 0\nwindow recv 65535 owed 0 send 65535\npeer table 4096 push 1 streams - window 65535 frame 16384 list - signal 0\nacked 0 goaway -\nown table 4096 window 65535 frame 16384 due 0\nblock -\ntable 0 0 4096\n"
unfolding shown
first_settings_hold_before_it = refl

block_without_the_update : replies [] (of_table 100) "000000040100000000000003010500000001828684" ≡ hex (codes "0000080700000000000000000000000009")
unfolding replies
block_without_the_update = refl

block_with_the_update : replies [] (of_table 100) "0000000401000000000000050105000000013f45828684" ≡ hex (codes "0000010105000000018d")
unfolding replies
block_with_the_update = refl

update_is_taken : shown [] (of_table 100) "0000000401000000000000050105000000013f45828684" ≡ codes "phase running last 1\nwindow recv 65535 owed 0 send 65535\npeer table 4096 push 1 streams - window 65535 frame 16384 list - signal 0\nacked 1 goaway -\nown table 100 window 65535 frame 16384 due 0\nblock -\ntable 0 0 100\nstream 1 ended\n"
unfolding shown
update_is_taken = refl

update_above_the_limit : replies [] (of_table 100) "0000000401000000000000050105000000013f46828684" ≡ hex (codes "0000080700000000000000000000000009")
unfolding replies
update_above_the_limit = refl

empty_block_without_the_update : replies [] (of_table 100) "000000040100000000000000010500000001" ≡ hex (codes "0000080700000000000000000000000009")
unfolding replies
empty_block_without_the_update = refl

first_limit_holds_before_it : replies [] (of_table 100) "0000060105000000013fe11f828684" ≡ hex (codes "0000010105000000018d")
unfolding replies
first_limit_holds_before_it = refl

-- the entries stay until the update, which evicts them
entries_stay : shown [] (of_table 33) "0000080104000000018286844001610162000000040100000000" ≡ codes "phase running last 1\nwindow recv 65535 owed 0 send 65535\npeer table 4096 push 1 streams - window 65535 frame 16384 list - signal 0\nacked 1 goaway -\nown table 33 window 65535 frame 16384 due 1\nblock -\ntable 1 34 4096\nentry 62 61 62\nstream 1 open recv 65535 owed 0 send 65535 got 0 of - left -\n"
unfolding shown
entries_stay = refl

update_evicts : shown [] (of_table 33) "00000801040000000182868440016101620000000401000000000000020105000000013f02" ≡ codes "phase running last 1\nwindow recv 65535 owed 0 send 65535\npeer table 4096 push 1 streams - window 65535 frame 16384 list - signal 0\nacked 1 goaway -\nown table 33 window 65535 frame 16384 due 0\nblock -\ntable 0 0 33\nstream 1 ended\n"
unfolding shown
update_evicts = refl

larger_table : replies [] (of_table 65536) "0000000401000000000000070105000000013fe1ff03828684" ≡ hex (codes "0000010105000000018d")
unfolding replies
larger_table = refl

larger_table_is_shown : shown [] (of_table 65536) "0000000401000000000000070105000000013fe1ff03828684" ≡ codes "phase running last 1\nwindow recv 65535 owed 0 send 65535\npeer table 4096 push 1 streams - window 65535 frame 16384 list - signal 0\nacked 1 goaway -\nown table 65536 window 65535 frame 16384 due 0\nblock -\ntable 0 0 65536\nstream 1 ended\n"
unfolding shown
larger_table_is_shown = refl

larger_table_before_it : replies [] (of_table 65536) "0000070105000000013fe1ff03828684" ≡ hex (codes "0000080700000000000000000000000009")
unfolding replies
larger_table_before_it = refl

-- no update has to come for a larger table
larger_table_without_an_update : replies [] (of_table 65536) "000000040100000000000003010500000001828684" ≡ hex (codes "0000010105000000018d")
unfolding replies
larger_table_without_an_update = refl

-- ---- the windows of streams (6.9.2)

window_is_negative : shown [] (of_window 10) "0000030104000000018286840000140000000000010000000000000000000000000000000000000000000000040100000000" ≡ codes "phase running last 1\nwindow recv 65515 owed 20 send 65535\npeer table 4096 push 1 streams - window 65535 frame 16384 list - signal 0\nacked 1 goaway -\nown table 4096 window 10 frame 16384 due 0\nblock -\ntable 0 0 4096\nstream 1 open recv -10 owed 20 send 65535 got 20 of - left -\n"
unfolding shown
window_is_negative = refl

data_without_octets_passes : replies [] (of_window 10) "0000030104000000018286840000140000000000010000000000000000000000000000000000000000000000040100000000000000000100000001" ≡ hex (codes "0000010105000000018d")
unfolding replies
data_without_octets_passes = refl

data_with_octets_is_refused : replies [] (of_window 10) "000003010400000001828684000014000000000001000000000000000000000000000000000000000000000004010000000000000100000000000161" ≡ hex (codes "00000403000000000100000003")
unfolding replies
data_with_octets_is_refused = refl

data_with_octets_is_counted : shown [] (of_window 10) "000003010400000001828684000014000000000001000000000000000000000000000000000000000000000004010000000000000100000000000161" ≡ codes "phase running last 1\nwindow recv 65514 owed 21 send 65535\npeer table 4096 push 1 streams - window 65535 frame 16384 list - signal 0\nacked 1 goaway -\nown table 4096 window 10 frame 16384 due 0\nblock -\ntable 0 0 4096\nstream 1 we-reset\n"
unfolding shown
data_with_octets_is_counted = refl

new_streams_begin_with_it : shown [] (of_window 10) "000000040100000000000003010400000001828684" ≡ codes "phase running last 1\nwindow recv 65535 owed 0 send 65535\npeer table 4096 push 1 streams - window 65535 frame 16384 list - signal 0\nacked 1 goaway -\nown table 4096 window 10 frame 16384 due 0\nblock -\ntable 0 0 4096\nstream 1 open recv 10 owed 0 send 65535 got 0 of - left -\n"
unfolding shown
new_streams_begin_with_it = refl

-- a second acknowledgement moves nothing
windows_move_once : shown [] (of_window 10) "000003010400000001828684000000040100000000000000040100000000" ≡ codes "phase running last 1\nwindow recv 65535 owed 0 send 65535\npeer table 4096 push 1 streams - window 65535 frame 16384 list - signal 0\nacked 1 goaway -\nown table 4096 window 10 frame 16384 due 0\nblock -\ntable 0 0 4096\nstream 1 open recv 10 owed 0 send 65535 got 0 of - left -\n"
unfolding shown
windows_move_once = refl

-- ---- the longest frame (4.2)

larger_frame_before_it : replies [] (of_frame 65536) "0040010c0000000000" ≡ hex (codes "0000080700000000000000000000000006")
unfolding replies
larger_frame_before_it = refl

-- the limit is the new one from the next frame on, in one piece too
larger_frame : replies_to [] (of_frame 65536) (hex (codes "0000000401000000000040010c0000000000") ++ replicate 16385 0) ≡ []
unfolding replies_to
larger_frame = refl

too_large_a_frame_behind_it : replies_to [] (of_frame 65536) (hex (codes "0000000401000000000040010c0000000000") ++ replicate 16385 0 ++ hex (codes "0100010c0000000000")) ≡ hex (codes "0000080700000000000000000000000006")
unfolding replies_to
too_large_a_frame_behind_it = refl
