-- The phase after an item: the preface is awaited no more, and after what ends all items the connection has ended.
use Rattle.std.proofs.Common.{◌≡◌, ◌∙◌, ℕ, Bool, true, false, not, List, Option, Some, None, Result, Ok, Err, refl, ap, ◌==◌}
use Rattle.std.proofs.lemmas.Bool.{cond_both}
use Rattle.std.specs.Prelude.{if◌then◌else◌, length, nat_lt, int_lt, pos, ◌-ℤ◌, ◌+ℤ◌, ◌+◌}
use Rattle.h2_spec.specs.declared.connection.BlockView.{BlockView}
use Rattle.h2_spec.specs.declared.connection.Config.{Config}
use Rattle.h2_spec.specs.declared.connection.ConnectionState.{ConnectionState}
use Rattle.h2_spec.specs.declared.connection.Phase.{Phase}
use Rattle.h2_spec.specs.declared.connection.Phase.TheVariants as phase
use Rattle.h2_spec.specs.declared.connection.Purpose.{Purpose}
use Rattle.h2_spec.specs.declared.connection.Purpose.TheVariants.{Request, Trailers, Closed, TableOnly}
use Rattle.h2_spec.specs.declared.causes.Cause.{Cause}
use Rattle.h2_spec.specs.declared.causes.Cause.TheVariants.{BlockTooLarge, BlockTruncated, SizeUpdateMissing, ConnectionIncrementZero, ConnectionWindowExceeded, ConnectionWindowOverflow}
use Rattle.h2_spec.specs.declared.flow.Settings.{Settings}
use Rattle.h2_spec.specs.declared.frames.Head.{Head}
use Rattle.h2_spec.specs.declared.reactions.ReceivedData.{ReceivedData}
use Rattle.h2_spec.specs.declared.reactions.Change.{Change}
use Rattle.h2_spec.specs.declared.reactions.ConnectionFrame.TheVariants.{PingAck}
use Rattle.h2_spec.specs.declared.reactions.Reaction.{Reaction}
use Rattle.h2_spec.specs.declared.reactions.Reaction.TheVariants.{ConnectionError, Continues}
use Rattle.h2_spec.specs.declared.ignored.Ignored.{Ignored}
use Rattle.h2_spec.specs.declared.ignored.Ignored.TheVariants.{PingAcknowledgement, SecondAcknowledgement}
use Rattle.h2_spec.specs.declared.reactions.StreamOutcome.{StreamOutcome}
use Rattle.h2_spec.specs.declared.streams.Stream.{Stream}
use Rattle.h2_spec.specs.Hpack.Block.{Decoded, Unfinished, Faulty, list_size}
use Rattle.h2_spec.specs.Change.{Step, ignoring, only_counts, stream_error, with_outcome}
use Rattle.h2_spec.specs.Checks.{refusal}
use Rattle.h2_spec.specs.Data.{counted, data_counted, data_refused, data_taken, data_outcome, if_within, owed_as, owed_on_connection}
use Rattle.h2_spec.specs.Effect.{block_stream, body_length, incoming, checked_effect, concluded, data_rule, effect, frame_effect, ignore, on_data, on_headers, on_reset, on_window, part_effect, reset_rule, window_rule}
use Rattle.h2_spec.specs.Hpack.Field.{Field}
use Rattle.h2_spec.specs.Frames.Frame.{Item, Preface, BadPreface, WholeFrame, Oversize}
use Rattle.h2_spec.specs.Frames.FrameType.{ACK, END_HEADERS, has}
use Rattle.h2_spec.specs.Requests.Headers.{FrameEffect, Breaks, Makes, block_ends, block_opens, continuation, continued, decoded_with, fault_cause, fragment, fragment_decoded, fragment_read, fresh_block, fresh_decoding, makes, max_block}
use Rattle.h2_spec.specs.Frames.Payload.{HeadersPart, Part, OfData, OfHeaders, OfPriority, OfRstStream, OfSettings, OfSettingsAck, OfPushPromise, OfPing, OfGoaway, OfWindowUpdate, OfContinuation, OfUnknown, part_of}
use Rattle.h2_spec.specs.SendPending.{send_pending}
use Rattle.h2_spec.specs.SettingsFrame.{acknowledged, comes_into_force, settings_applied, settings_rule, settings_taken}
use Rattle.h2_spec.specs.State.{Decoding, OpenBlock, State, configured}
use Rattle.h2_spec.specs.Stream.{stream_at}
use Rattle.h2_spec.specs.ReactionTable.{Cell, headers_cell, DataRule, Take, Refuse, Count, ResetRule, PeerResets, WindowRule, MoveWindow, Error, Ignore, Rule, run_cell}
use Rattle.h2_spec.specs.Trace.{step, then_sent}
use Rattle.h2_spec.specs.Window.{given_back, is_above_max}
use Rattle.h2_spec.specs.WindowUpdate.{connection_window}
use Rattle.h2_conn.specs.Connection.{awaits_preface, is_ended}

-- the preface has arrived, after a reaction and after a frame
abbrev Past : Phase → Type 0
Past p = awaits_preface p ≡ false

abbrev PastIn : Reaction → Type 0
PastIn (ConnectionError code) = Unit {0}
PastIn (Continues c) = Past c.core.phase

abbrev PastBy : FrameEffect → Type 0
PastBy (Breaks code) = Unit {0}
PastBy (Makes t c) = Past c.core.phase

makes-past : (s : State) (r : Reaction) → PastIn r → PastBy (makes s r)
makes-past s (ConnectionError code) h = tt
makes-past s (Continues c) h = h

outcome-past : (c : Change) (t : StreamOutcome) → Past c.core.phase → Past (with_outcome c t).core.phase
unfolding with_outcome
outcome-past c t h = h

cell-past : {R X : Type 0} (P : X → Type 0) (error : Cause → X) (ignored : Ignored → X) (rule : R → X) (cell : Cell R)
    → ((cause : Cause) → P (error cause)) → ((reason : Ignored) → P (ignored reason)) → ((r : R) → P (rule r)) → P (run_cell error ignored rule cell)
cell-past P error ignored rule (Error code) e n r = e code
cell-past P error ignored rule (Ignore reason) e n r = n reason
cell-past P error ignored rule (Rule x) e n r = r x

-- ---- the rules

owed-past : (back : Option ℕ) (core : ConnectionState) (owed : ℕ) → Past core.phase → Past (owed_as back core owed).core.phase
owed-past None core owed h = h
owed-past (Some n) core owed h = h

counted-past : (threshold : ℕ) (core : ConnectionState) (n : ℕ) → Past core.phase → Past (counted threshold core n).core.phase
unfolding counted owed_on_connection
counted-past threshold core n h = owed-past (given_back threshold (core.owed + n)) (record core { recv = core.recv -ℤ pos n }) (core.owed + n) h

within-past : (core : ConnectionState) (n : ℕ) (c : Change) → Past c.core.phase → PastIn (if_within core n c)
within-past core n c h = cond_both (int_lt core.recv (pos n)) (ConnectionError ConnectionWindowExceeded) (Continues c) PastIn (λ e. tt) (λ e. h)

outcome-within : (config : Config) (core : ConnectionState) (d : ReceivedData) (t : StreamOutcome) → Past core.phase → PastIn (if_within core d.octets (with_outcome (counted config.credit core d.octets) t))
outcome-within config core d t h =
    within-past core d.octets (with_outcome (counted config.credit core d.octets) t) (outcome-past (counted config.credit core d.octets) t (counted-past config.credit core d.octets h))

data-past : (rule : DataRule) (config : Config) (core : ConnectionState) (body : ℕ) (d : ReceivedData) (st : Stream) → Past core.phase → PastIn (data_rule rule config core body d st)
unfolding data_taken data_refused data_counted
data-past Take config core body d st h = outcome-within config core d (data_outcome config.credit body d st) h
data-past (Refuse code) config core body d st h = outcome-within config core d (stream_error st.id code) h
data-past (Count reason) config core body d st h = within-past core d.octets (ignoring reason (counted config.credit core d.octets)) (counted-past config.credit core d.octets h)

on_data-past : (config : Config) (core : ConnectionState) (body : ℕ) (d : ReceivedData) (st : Stream) → Past core.phase → PastIn (on_data config core body d st)
unfolding on_data
on_data-past config core body d st h = cell-past PastIn ConnectionError (ignore core) (λ rule. data_rule rule config core body d st) _ (λ code. tt) (λ reason. h) (λ rule. data-past rule config core body d st h)

reset-past : (rule : ResetRule) (core : ConnectionState) (st : Stream) → Past core.phase → PastIn (reset_rule rule core st)
reset-past PeerResets core st h = outcome-past (only_counts core) _ h

on_reset-past : (core : ConnectionState) (st : Stream) → Past core.phase → PastIn (on_reset core st)
unfolding on_reset
on_reset-past core st h = cell-past PastIn ConnectionError (ignore core) (λ rule. reset_rule rule core st) _ (λ code. tt) (λ reason. h) (λ rule. reset-past rule core st h)

window-past : (rule : WindowRule) (core : ConnectionState) (increment : ℕ) (st : Stream) → Past core.phase → PastIn (window_rule rule core increment st)
window-past MoveWindow core increment st h = outcome-past (only_counts core) _ h

on_window-past : (core : ConnectionState) (increment : ℕ) (st : Stream) → Past core.phase → PastIn (on_window core increment st)
unfolding on_window
on_window-past core increment st h = cell-past PastIn ConnectionError (ignore core) (λ rule. window_rule rule core increment st) _ (λ code. tt) (λ reason. h) (λ rule. window-past rule core increment st h)

connection_window-past : (core : ConnectionState) (increment : ℕ) → Past core.phase → PastIn (connection_window core increment)
unfolding connection_window
connection_window-past core increment h =
    let c : Change = only_counts (record core { send = core.send +ℤ pos increment }) in
    cond_both (increment == 0) (ConnectionError ConnectionIncrementZero) (if is_above_max (core.send +ℤ pos increment) then ConnectionError ConnectionWindowOverflow else Continues c) PastIn (λ e. tt)
    (λ e. cond_both (is_above_max (core.send +ℤ pos increment)) (ConnectionError ConnectionWindowOverflow) (Continues c) PastIn (λ f. tt) (λ f. h))

taken-past : (core : ConnectionState) (r : Result Settings Cause) → PastIn (settings_taken core r)
taken-past core (Err code) = tt
taken-past core (Ok peer) = refl

settings-past : (streams : List Stream) (core : ConnectionState) (pairs : List (ℕ × ℕ)) → PastIn (settings_rule streams core pairs)
unfolding settings_rule
settings-past streams core pairs = taken-past core (settings_applied streams core.peer core.peer pairs)

-- ---- field blocks

ends-past : (s : State) (id : ℕ) (ends : Bool) (fields : List Field) (purpose : Purpose) → Past s.core.phase → Past (block_ends s id ends fields purpose).core.phase
ends-past s id ends fields Request h = outcome-past _ _ h
ends-past s id ends fields Trailers h = outcome-past _ _ h
ends-past s id ends fields Closed h = outcome-past _ _ h
ends-past s id ends fields TableOnly h = h

read-past : (s : State) (b : BlockView) (d : Decoding) (end_headers : Bool) → Past s.core.phase → PastBy (fragment_read s b d end_headers)
read-past s b d false h = h
read-past s b d true h =
    cond_both (not (length d.rest == 0)) (Breaks BlockTruncated) _ PastBy (λ e. tt)
    (λ e. cond_both d.due (Breaks SizeUpdateMissing) (Makes _ _) PastBy (λ f. tt) (λ f. ends-past s b.stream b.ends d.fields d.purpose h))

decoded-past : (s : State) (b : BlockView) (purpose : Purpose) (end_headers : Bool) (d : Decoded) → Past s.core.phase → PastBy (fragment_decoded s b purpose end_headers d)
decoded-past s b purpose end_headers d h = elim d.outcome as (λ o. PastBy (elim o [
  | Unfinished rest ↦ fragment_read (record s { table = d.progress.table }) (record b { list_size = list_size d.progress.fields }) (record { purpose = purpose; fields = d.progress.fields; due = d.progress.due; rest = rest }) end_headers
  | Faulty fault ↦ Breaks (fault_cause fault)
])) [
  | Unfinished rest ↦ read-past (record s { table = d.progress.table }) (record b { list_size = list_size d.progress.fields }) (record { purpose = purpose; fields = d.progress.fields; due = d.progress.due; rest = rest }) end_headers h
  | Faulty fault ↦ tt
]

fragment-past : (s : State) (b : BlockView) (d : Decoding) (octets : List ℕ) (end_headers : Bool) → Past s.core.phase → PastBy (fragment s b d octets end_headers)
fragment-past s b d octets end_headers h =
    cond_both (nat_lt max_block (b.octets + length octets)) (Breaks BlockTooLarge) _ PastBy (λ e. tt) (λ e. decoded-past s (record b { octets = b.octets + length octets }) d.purpose end_headers (decoded_with s d octets) h)

continued-past : (s : State) (b : BlockView) (d : Option Decoding) (octets : List ℕ) (end_headers : Bool) → Past s.core.phase → PastBy (continued s b d octets end_headers)
continued-past s b None octets end_headers h = tt
continued-past s b (Some d) octets end_headers h = fragment-past s b d octets end_headers h

continuation-past : (s : State) (b : Option OpenBlock) (octets : List ℕ) (end_headers : Bool) → Past s.core.phase → PastBy (continuation s b octets end_headers)
continuation-past s None octets end_headers h = tt
continuation-past s (Some b) octets end_headers h = continued-past s b.shown b.decoding octets end_headers h

headers-past : (s : State) (head : Head) (part : HeadersPart) (cell : Cell Purpose) → Past s.core.phase → PastBy (on_headers s head part cell)
headers-past s head part cell h = cell-past PastBy Breaks (λ reason. Makes s (ignoring reason (only_counts s.core))) (λ purpose. block_opens s purpose head part) cell (λ code. tt) (λ reason. h) (λ purpose. fragment-past s (fresh_block head) (fresh_decoding s purpose) part.fragment (has head.flags END_HEADERS) h)

-- ---- frames

frame-past : (s : State) (head : Head) (p : List ℕ) (part : Part) → Past s.core.phase → PastBy (frame_effect s head p part)
frame-past s head p (OfData part) h =
    let st = stream_at s.core.last s.streams head.stream in
    makes-past s (on_data s.config s.core (body_length s.book st) (incoming head p part) st) (on_data-past s.config s.core (body_length s.book st) (incoming head p part) st h)
frame-past s head p (OfHeaders part) h = headers-past s head part (headers_cell head.stream (stream_at s.core.last s.streams head.stream).kind) h
frame-past s head p OfPriority h = h
frame-past s head p (OfRstStream code) h = let st = stream_at s.core.last s.streams head.stream in makes-past s (on_reset s.core st) (on_reset-past s.core st h)
frame-past s head p (OfSettings pairs) h = makes-past s (settings_rule s.streams s.core pairs) (settings-past s.streams s.core pairs)
frame-past s head p OfSettingsAck h = makes-past s (acknowledged s.config s.core) (cond_both s.core.acked (Continues (ignoring SecondAcknowledgement (only_counts s.core))) (Continues (comes_into_force s.core (configured s.config))) PastIn (λ e. h) (λ e. h))
frame-past s head p OfPushPromise h = tt
frame-past s head p (OfPing octets) h =
    makes-past s (if has head.flags ACK then ignore s.core PingAcknowledgement else Continues (record (only_counts s.core) { connection_frame = PingAck octets }))
    (cond_both (has head.flags ACK) (ignore s.core PingAcknowledgement) (Continues (record (only_counts s.core) { connection_frame = PingAck octets })) PastIn (λ e. h) (λ e. h))
frame-past s head p (OfGoaway last code) h = h
frame-past s head p (OfWindowUpdate increment) h =
    let st = stream_at s.core.last s.streams head.stream in
    makes-past s (if head.stream == 0 then connection_window s.core increment else on_window s.core increment st)
    (cond_both (head.stream == 0) (connection_window s.core increment) (on_window s.core increment st) PastIn
    (λ e. connection_window-past s.core increment h) (λ e. on_window-past s.core increment st h))
frame-past s head p (OfContinuation fragment) h = continuation-past s s.block fragment (has head.flags END_HEADERS) h
frame-past s head p OfUnknown h = h

part-past : (s : State) (head : Head) (p : List ℕ) (part : Result Part Cause) → Past s.core.phase → PastBy (part_effect s head p part)
part-past s head p (Err cause) h = tt
part-past s head p (Ok part) h = frame-past s head p part h

checked-past : (s : State) (head : Head) (p : List ℕ) (refused : Option Cause) → Past s.core.phase → PastBy (checked_effect s head p refused)
checked-past s head p None h = part-past s head p (part_of head p) h
checked-past s head p (Some cause) h = tt

-- ---- the step

concluded-past : (s : State) (e : FrameEffect) → PastBy e → Past (concluded s e).state.core.phase
concluded-past s (Breaks code) h = refl
concluded-past s (Makes t c) h = h

sent-phase : (p : Phase) (e : Step) → (then_sent p e).state.core.phase ≡ e.state.core.phase
unfolding send_pending
sent-phase phase.Preface e = refl
sent-phase phase.Settings e = refl
sent-phase phase.Running e = refl
sent-phase (phase.Ended code) e = refl

step-phase : (s : State) (x : Item) → (step s x).state.core.phase ≡ (effect s x).state.core.phase
unfolding step
step-phase s x = sent-phase (effect s x).state.core.phase (effect s x)

pub frame-phase : (s : State) (head : Head) (p : List ℕ) → awaits_preface s.core.phase ≡ false → awaits_preface (step s (WholeFrame head p)).state.core.phase ≡ false
unfolding effect
frame-phase s head p h = ap awaits_preface (step-phase s (WholeFrame head p)) ∙ concluded-past s _ (checked-past s head p (refusal (block_stream s.block) s.core.phase head) h)

pub preface-phase : (s : State) → (step s Preface).state.core.phase ≡ phase.Settings
unfolding effect
preface-phase s = step-phase s Preface

pub bad-phase : (s : State) → is_ended (step s BadPreface).state.core.phase ≡ true
unfolding effect
bad-phase s = ap is_ended (step-phase s BadPreface)

pub oversize-phase : (s : State) (head : Head) → is_ended (step s (Oversize head)).state.core.phase ≡ true
unfolding effect
oversize-phase s head = ap is_ended (step-phase s (Oversize head))
