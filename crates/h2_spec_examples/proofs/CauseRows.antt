-- Causes of errors, computed: octets that come after the preface and the first SETTINGS, what is sent for them, and
-- why. Many causes are answered with the same octets.
use Rattle.std.specs.Prelude.{◌≡◌, ℕ, zero, suc, List, [], ◌∷◌, ◌++◌, length, drop, map, option_to_list, refl, codes, replicate}
use Prim.Native.String.{String}
use Rattle.h2_spec.specs.declared.causes.Cause.{Cause}
use Rattle.h2_spec.specs.declared.causes.Cause.TheVariants.{BadPreface, FirstNotSettings, FirstIsSettingsAck, FrameTooLarge, StreamFrameTooLarge, BlockInterrupted, DataOnStreamZero, HeadersOnStreamZero, PriorityOnStreamZero, RstStreamOnStreamZero, ContinuationOnStreamZero, SettingsOnStream, PingOnStream, GoawayOnStream, DataLength, HeadersLength, PriorityLength, RstStreamLength, SettingsLength, SettingsAckLength, PingLength, GoawayLength, WindowUpdateLength, DataPadding, HeadersPadding, PushPromiseFromClient, ContinuationOutsideBlock, DataOnIdle, DataOnSkipped, DataAfterEndStream, DataOnClosed, HeadersOnEven, HeadersOnSkipped, HeadersAfterEndStream, HeadersOnClosed, RstStreamOnIdle, WindowUpdateOnIdle, ConnectionWindowExceeded, StreamWindowExceeded, ConnectionIncrementZero, StreamIncrementZero, ConnectionWindowOverflow, StreamWindowOverflow, EnablePushValue, InitialWindowSizeValue, MaxFrameSizeValue, InitialWindowSizeOverflow, BlockTooLarge, BlockTruncated, IntegerTooLong, IndexZero, IndexOutOfTables, HuffmanString, SizeUpdateLate, SizeUpdateTooLarge, SizeUpdateMissing, TooManyStreams, ListTooLarge, BadName, BadValue, LatePseudoField, UnknownPseudoField, DoublePseudoField, LackingPseudoField, ConnectionField, BadTe, BadContentLength, ContentMissing, ContentTooLong, ContentTooShort, TrailersWithoutEndStream, TrailersBadName, TrailersBadValue, TrailersPseudoField, TrailersConnectionField, TrailersBadTe}
use Rattle.h2_spec.specs.declared.connection.Config.{Config}
use Rattle.h2_spec.specs.Frames.Frame.{Next, NoItem, Got}
use Rattle.h2_spec.specs.Requests.Answer.{Entry}
use Rattle.h2_spec.specs.State.{State, limits, opening}
use Rattle.h2_spec.specs.Effect.{cause_of}
use Rattle.h2_spec.specs.Trace.{step, next_item}
use Rattle.h2_spec_examples.proofs.Hex.{hex}
use Rattle.h2_spec_examples.proofs.Runs.{default, get, ready, replies}

-- the causes of the items of octets, in their order, up to a number of items
abbrev causes_with : State → List ℕ → (State → List ℕ → List Cause) → Next → List Cause
causes_with s b follow NoItem = []
causes_with s b follow (Got item used) = option_to_list (cause_of s item) ++ follow (step s item).state (drop used b)

causes_upto : ℕ → State → List ℕ → List Cause
unfolding cause_of next_item step
causes_upto zero s b = []
causes_upto (suc n) s b = causes_with s b (λ t rest. causes_upto n t rest) (next_item s b)

-- the causes of all items
causes_from : State → List ℕ → List Cause
unfolding causes_upto
causes_from s b = causes_upto (length b) s b

-- those after the beginning
caused : List Entry → Config → String → List Cause
unfolding causes_from ready
caused book config octets = causes_from (ready book config) (hex (codes octets))

-- what is sent for octets after the beginning, and the causes
answered : String → List ℕ × List Cause
unfolding replies caused
answered octets = (replies [] default octets, caused [] default octets)

-- ---- at the beginning (3.4)

preface_of_another_protocol : causes_from (opening [] default) (hex (codes "47")) ≡ BadPreface ∷ []
unfolding causes_from
preface_of_another_protocol = refl

first_frame_is_ping : causes_from (opening [] default) (hex (codes "505249202a20485454502f322e300d0a0d0a534d0d0a0d0a0000080600000000000102030405060708")) ≡ FirstNotSettings ∷ []
unfolding causes_from
first_frame_is_ping = refl

first_frame_acknowledges : causes_from (opening [] default) (hex (codes "505249202a20485454502f322e300d0a0d0a534d0d0a0d0a000000040100000000")) ≡ FirstIsSettingsAck ∷ []
unfolding causes_from
first_frame_acknowledges = refl

-- ---- the same octets for many causes

-- PROTOCOL_ERROR of the connection
abbrev protocol_errors : List (String × Cause)
protocol_errors =
    -- 6.10 and 8.4: frames that may not come
    ("000001010100000001820000080600000000000102030405060708", BlockInterrupted) ∷
    ("000000090400000001", ContinuationOutsideBlock) ∷
    ("00000405040000000100000002", PushPromiseFromClient) ∷
    -- 6: where a frame is
    ("000000000000000000", DataOnStreamZero) ∷
    ("00000101050000000082", HeadersOnStreamZero) ∷
    ("0000050200000000000000000010", PriorityOnStreamZero) ∷
    ("00000403000000000000000008", RstStreamOnStreamZero) ∷
    ("000000090400000000", ContinuationOnStreamZero) ∷
    ("000000040000000001", SettingsOnStream) ∷
    ("0000080600000000010102030405060708", PingOnStream) ∷
    ("0000080700000000010000000000000000", GoawayOnStream) ∷
    -- 5.1 and 5.1.1: an idle stream, and an even one
    ("000000000000000001", DataOnIdle) ∷
    ("00000403000000000100000008", RstStreamOnIdle) ∷
    ("00000408000000000100000001", WindowUpdateOnIdle) ∷
    ("000003010500000002828684", HeadersOnEven) ∷
    -- 6.1, 6.2, 6.5.2 and 6.9: padding, values of settings, an increment of 0
    ("00000100080000000101", DataPadding) ∷
    ("00000101080000000101", HeadersPadding) ∷
    ("000006040000000000000200000002", EnablePushValue) ∷
    ("000006040000000000000500003fff", MaxFrameSizeValue) ∷
    ("00000408000000000000000000", ConnectionIncrementZero) ∷ []

causes_of_protocol_errors : map (λ (row : String × Cause). answered row.0) protocol_errors ≡ map (λ (row : String × Cause). (hex (codes "0000080700000000000000000000000001"), row.1 ∷ [])) protocol_errors
unfolding answered
causes_of_protocol_errors = refl

-- FRAME_SIZE_ERROR (4.2 and 6)
abbrev size_errors : List (String × Cause)
size_errors =
    ("004001010400000001", FrameTooLarge) ∷
    ("004001000000000000", FrameTooLarge) ∷
    ("004001000000000001", StreamFrameTooLarge) ∷
    ("000000000800000001", DataLength) ∷
    ("000000010800000001", HeadersLength) ∷
    ("00000402000000000100000000", PriorityLength) ∷
    ("000003030000000001000000", RstStreamLength) ∷
    ("0000050400000000000000000000", SettingsLength) ∷
    ("000006040100000000000300000064", SettingsAckLength) ∷
    ("00000706000000000001020304050607", PingLength) ∷
    ("00000707000000000000000000000000", GoawayLength) ∷
    ("000003080000000000000001", WindowUpdateLength) ∷ []

causes_of_size_errors : map (λ (row : String × Cause). answered row.0) size_errors ≡ map (λ (row : String × Cause). (hex (codes "0000080700000000000000000000000006"), row.1 ∷ [])) size_errors
unfolding answered
causes_of_size_errors = refl

-- FLOW_CONTROL_ERROR of the connection (6.5.2 and 6.9.1)
abbrev window_errors : List (String × Cause)
window_errors =
    ("000006040000000000000480000000", InitialWindowSizeValue) ∷
    ("0000040800000000007fffffff", ConnectionWindowOverflow) ∷ []

causes_of_window_errors : map (λ (row : String × Cause). answered row.0) window_errors ≡ map (λ (row : String × Cause). (hex (codes "0000080700000000000000000000000003"), row.1 ∷ [])) window_errors
unfolding answered
causes_of_window_errors = refl

-- COMPRESSION_ERROR (4.3; RFC 7541, 2.3.3, 4.2, 5.1, 5.2, 6.1 and 6.3)
abbrev compression_errors : List (String × Cause)
compression_errors =
    ("00000101050000000180", IndexZero) ∷
    ("000001010500000001c0", IndexOutOfTables) ∷
    ("000006010500000001ff8080808080", IntegerTooLong) ∷
    ("0000060105000000014184ffffffff", HuffmanString) ∷
    ("0000040105000000014182ffff", HuffmanString) ∷
    ("0000020105000000018220", SizeUpdateLate) ∷
    ("0000030105000000013fe21f", SizeUpdateTooLarge) ∷
    ("00000101050000000141", BlockTruncated) ∷ []

causes_of_compression_errors : map (λ (row : String × Cause). answered row.0) compression_errors ≡ map (λ (row : String × Cause). (hex (codes "0000080700000000000000000000000009"), row.1 ∷ [])) compression_errors
unfolding answered
causes_of_compression_errors = refl

-- PROTOCOL_ERROR of stream 1: the request or its content is malformed (8.1.1)
abbrev malformed : List (String × Cause)
malformed =
    -- 8.2.1: names and values
    ("0000080105000000018286840001410162", BadName) ∷
    ("000009010500000001828684000161022062", BadValue) ∷
    -- 8.3 and 8.3.1: pseudo-fields
    ("0000080105000000018200016101628684", LatePseudoField) ∷
    ("00000401050000000182868488", UnknownPseudoField) ∷
    ("00000401050000000182868484", DoublePseudoField) ∷
    ("0000020105000000018286", LackingPseudoField) ∷
    -- 8.2.2: fields of a connection
    ("000015010500000001828684000a636f6e6e656374696f6e05636c6f7365", ConnectionField) ∷
    ("00000c0105000000018286840002746504677a6970", BadTe) ∷
    -- 8.1.1: content-length
    ("0000080105000000018286840f0d023178", BadContentLength) ∷
    ("0000070105000000018286840f0d0133", ContentMissing) ∷
    ("0000070104000000018286840f0d013300000400010000000161626364", ContentTooLong) ∷
    ("0000070104000000018286840f0d013300000100010000000161", ContentTooShort) ∷
    ("0000070104000000018286840f0d0133000000010500000001", ContentTooShort) ∷
    -- 8.1: trailers; their fields are judged first, and their end before the content
    ("000003010400000001828684000000010400000001", TrailersWithoutEndStream) ∷
    ("0000070104000000018286840f0d0133000000010400000001", TrailersWithoutEndStream) ∷
    ("0000030104000000018286840000050104000000010001410162", TrailersBadName) ∷
    ("000003010400000001828684000006010500000001000161022062", TrailersBadValue) ∷
    ("00000301040000000182868400000101050000000184", TrailersPseudoField) ∷
    ("00000301040000000182868400000e010500000001000a6b6565702d616c6976650135", TrailersConnectionField) ∷
    ("0000030104000000018286840000090105000000010002746504677a6970", TrailersBadTe) ∷
    -- 6.9: an increment of 0
    ("00000301040000000182868400000408000000000100000000", StreamIncrementZero) ∷ []

causes_of_malformed_requests : map (λ (row : String × Cause). answered row.0) malformed ≡ map (λ (row : String × Cause). (hex (codes "00000403000000000100000001"), row.1 ∷ [])) malformed
unfolding answered
causes_of_malformed_requests = refl

-- ---- by what came before

-- streams that are closed, or that the client has ended (5.1 and 5.1.1); a stream that waits for a window is half-closed
abbrev closed_streams : List (String × Cause)
closed_streams =
    ("000003010400000003828684000000000000000001", DataOnSkipped) ∷
    ("000003010400000003828684000003010400000001828684", HeadersOnSkipped) ∷
    ("000003010500000001828684000000000000000001", DataOnClosed) ∷
    ("000003010500000001828684000003010500000001828684", HeadersOnClosed) ∷
    ("00000301040000000182868400000403000000000100000008000000000000000001", DataOnClosed) ∷
    ("000006040000000000000400000000000003010500000001828684000000000000000001", DataAfterEndStream) ∷
    ("000006040000000000000400000000000003010500000001828684000000010500000001", HeadersAfterEndStream) ∷ []

causes_of_closed_streams : map (λ (row : String × Cause). caused (get (codes "hi")) default row.0) closed_streams ≡ map (λ (row : String × Cause). row.1 ∷ []) closed_streams
unfolding caused
causes_of_closed_streams = refl

-- send windows above 2147483647 (6.9.1 and 6.9.2)
abbrev send_windows : List (String × Cause)
send_windows =
    ("0000030104000000018286840000040800000000017fffffff", StreamWindowOverflow) ∷
    ("0000030104000000018286840000040800000000017fff0000000006040000000000000400010000", InitialWindowSizeOverflow) ∷ []

causes_of_send_windows : map (λ (row : String × Cause). caused [] default row.0) send_windows ≡ map (λ (row : String × Cause). row.1 ∷ []) send_windows
unfolding caused
causes_of_send_windows = refl

-- a stream above the limit (5.1.2)
stream_above_the_limit : caused [] (limits 1 32768) "000003010400000001828684000003010400000003828684" ≡ TooManyStreams ∷ []
unfolding caused
stream_above_the_limit = refl

-- a table of 100 octets, once the peer has acknowledged it: each block has to begin with a size update, and an instruction that is not whole is named first (4.3.1)
abbrev due_updates : List (String × Cause)
due_updates =
    ("00000004010000000000000101050000000182", SizeUpdateMissing) ∷
    ("000000040100000000000000010500000001", SizeUpdateMissing) ∷
    ("00000004010000000000000101050000000141", BlockTruncated) ∷
    ("0000000401000000000000020105000000013f46", SizeUpdateTooLarge) ∷ []

causes_of_due_updates : map (λ (row : String × Cause). caused [] (record default { table = 100 }) row.0) due_updates ≡ map (λ (row : String × Cause). row.1 ∷ []) due_updates
unfolding caused
causes_of_due_updates = refl

-- eleven octets in a window of ten (6.9.1)
stream_window_is_exceeded : caused [] (record default { window = 10 }) "00000004010000000000000301040000000182868400000b0000000000016161616161616161616161" ≡ StreamWindowExceeded ∷ []
unfolding caused
stream_window_is_exceeded = refl

-- ---- long runs

abbrev three_times : List ℕ → List ℕ
three_times xs = xs ++ xs ++ xs

-- 1,561 fields of 42 octets are above 65,536 (10.5.1)
list_above_the_limit : causes_from (ready [] default) (hex (codes "000619010500000001") ++ replicate 1561 0x82) ≡ ListTooLarge ∷ []
unfolding causes_from ready
list_above_the_limit = refl

abbrev long_data : List ℕ
long_data = hex (codes "004000000000000001") ++ replicate 16384 0x61

-- four frames of 16,384 octets are one octet above 65,535 (6.9.1)
connection_window_is_exceeded : causes_from (ready [] (limits 100 65535)) (hex (codes "000003010400000001828684") ++ long_data ++ three_times long_data) ≡ ConnectionWindowExceeded ∷ []
unfolding causes_from ready
connection_window_is_exceeded = refl

-- a block of 65,537 octets (10.5.1)
block_above_the_limit : causes_from (ready [] default) (hex (codes "004000010000000001") ++ replicate 16384 0x82 ++ three_times (hex (codes "004000090000000001") ++ replicate 16384 0x82) ++ hex (codes "00000109000000000182")) ≡ BlockTooLarge ∷ []
unfolding causes_from ready
block_above_the_limit = refl
