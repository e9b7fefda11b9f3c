-- No octets change the book of a connection.
use Rattle.std.proofs.Common.{◌≡◌, ◌∙◌, ℕ, zero, suc, Bool, true, false, cond, not, List, ◌++◌, ◌+◌, length, drop, Option, Some, None, Result, Ok, Err, refl, ap, eqb}
use Rattle.std.specs.Prelude.{nat_lt}
use Rattle.h2_spec.specs.declared.causes.Cause.{Cause}
use Rattle.h2_spec.specs.declared.causes.Cause.TheVariants.{BlockTooLarge, BlockTruncated, SizeUpdateMissing}
use Rattle.h2_spec.specs.declared.connection.BlockView.{BlockView}
use Rattle.h2_spec.specs.declared.connection.Phase.{Phase}
use Rattle.h2_spec.specs.declared.connection.Phase.TheVariants as phase
use Rattle.h2_spec.specs.declared.connection.Purpose.{Purpose}
use Rattle.h2_spec.specs.declared.frames.Head.{Head}
use Rattle.h2_spec.specs.declared.ignored.Ignored.TheVariants.{Priority, UnknownType}
use Rattle.h2_spec.specs.declared.reactions.Reaction.{Reaction}
use Rattle.h2_spec.specs.declared.reactions.Reaction.TheVariants.{ConnectionError, Continues}
use Rattle.h2_spec.specs.Checks.{refusal}
use Rattle.h2_spec.specs.Effect.{block_stream, checked_effect, concluded, data_at, effect, frame_effect, ignore, incoming, item_effect, on_goaway, on_headers, on_ping, on_push_promise, on_settings, on_settings_ack, on_window_update, part_effect, reset_at}
use Rattle.h2_spec.specs.Frames.Frame.{Item, Preface, BadPreface, WholeFrame, Oversize, Next, NoItem, Got}
use Rattle.h2_spec.specs.Frames.FrameType.{ACK, END_HEADERS, has}
use Rattle.h2_spec.specs.Frames.Parse.{Front, One, Parsed, Stop, parse_all, parse_first, parse_upto}
use Rattle.h2_spec.specs.Frames.Payload.{HeadersPart, Part, OfData, OfHeaders, OfPriority, OfRstStream, OfSettings, OfSettingsAck, OfPushPromise, OfPing, OfGoaway, OfWindowUpdate, OfContinuation, OfUnknown, part_of}
use Rattle.h2_spec.specs.Hpack.Block.{Decoded, Outcome, Unfinished, Faulty}
use Rattle.h2_spec.specs.Hpack.DynamicTable.{Table}
use Rattle.h2_spec.specs.ReactionTable.{Cell, Error, Ignore, Rule, headers_cell}
use Rattle.h2_spec.specs.Requests.Headers.{FrameEffect, Breaks, Makes, block_ends, block_opens, continued, continuation, decoded_with, fragment, fragment_decoded, fragment_read, fresh_block, fresh_decoding, makes, max_block}
use Rattle.h2_spec.specs.SendPending.{send_pending}
use Rattle.h2_spec.specs.State.{Decoding, OpenBlock, State}
use Rattle.h2_spec.specs.Stream.{stream_at}
use Rattle.h2_spec.specs.Trace.{Event, event_on, next_event, next_item, step, then_sent, trace}
use Rattle.h2_conn.specs.Connection.{Connection, going}
use Rattle.h2_conn.specs.Runs.{Fed}

-- what a frame results in has the same book
abbrev Keeps : State → FrameEffect → Type 0
Keeps s (Breaks cause) = Unit {0}
Keeps s (Makes t c) = t.book ≡ s.book

reaction-keeps : (s : State) (r : Reaction) → Keeps s (makes s r)
reaction-keeps s (ConnectionError cause) = tt
reaction-keeps s (Continues c) = refl

-- ---- field blocks

read-keeps : (s : State) (table : Table) (b : BlockView) (d : Decoding) (end_headers : Bool) → Keeps s (fragment_read (record s { table = table }) b d end_headers)
read-keeps s table b d false = refl
read-keeps s table b d true = at (not (eqb (length d.rest) 0)) d.due
  where
    at : (short missing : Bool) → Keeps s (cond short (Breaks BlockTruncated) (cond missing (Breaks SizeUpdateMissing) (Makes (record s { table = table; block = None }) (block_ends (record s { table = table }) b.stream b.ends d.fields d.purpose))))
    at true missing = tt
    at false true = tt
    at false false = refl

fragment-keeps : (s : State) (b : BlockView) (d : Decoding) (octets : List ℕ) (end_headers : Bool) → Keeps s (fragment s b d octets end_headers)
fragment-keeps s b d octets end_headers = at (nat_lt max_block (b.octets + length octets))
  where
    shown : BlockView
    shown = record b { octets = b.octets + length octets }

    decodes : (r : Decoded) (o : Outcome) → Keeps s (fragment_decoded s shown d.purpose end_headers (record r { outcome = o }))
    decodes r (Unfinished rest) = read-keeps s r.progress.table _ _ end_headers
    decodes r (Faulty fault) = tt

    at : (t : Bool) → Keeps s (cond t (Breaks BlockTooLarge) (fragment_decoded s shown d.purpose end_headers (decoded_with s d octets)))
    at true = tt
    at false = decodes (decoded_with s d octets) (decoded_with s d octets).outcome

continued-keeps : (s : State) (b : BlockView) (d : Option Decoding) (octets : List ℕ) (end_headers : Bool) → Keeps s (continued s b d octets end_headers)
continued-keeps s b None octets end_headers = tt
continued-keeps s b (Some d) octets end_headers = fragment-keeps s b d octets end_headers

continuation-keeps : (s : State) (o : Option OpenBlock) (octets : List ℕ) (end_headers : Bool) → Keeps s (continuation s o octets end_headers)
continuation-keeps s None octets end_headers = tt
continuation-keeps s (Some b) octets end_headers = continued-keeps s b.shown b.decoding octets end_headers

headers-keeps : (s : State) (h : Head) (part : HeadersPart) (cell : Cell Purpose) → Keeps s (on_headers s h part cell)
headers-keeps s h part (Error cause) = tt
headers-keeps s h part (Ignore reason) = refl
headers-keeps s h part (Rule purpose) = fragment-keeps s (fresh_block h) (fresh_decoding s purpose) part.fragment (has h.flags END_HEADERS)

-- ---- an item

part-keeps : (s : State) (h : Head) (p : List ℕ) (part : Part) → Keeps s (frame_effect s h p part)
part-keeps s h p (OfData part) = reaction-keeps s (data_at s h.stream (incoming h p part))
part-keeps s h p (OfHeaders part) = headers-keeps s h part (headers_cell h.stream (stream_at s.core.last s.streams h.stream).kind)
part-keeps s h p OfPriority = reaction-keeps s (ignore s.core Priority)
part-keeps s h p (OfRstStream code) = reaction-keeps s (reset_at s h.stream)
part-keeps s h p (OfSettings pairs) = reaction-keeps s (on_settings s pairs)
part-keeps s h p OfSettingsAck = reaction-keeps s (on_settings_ack s)
part-keeps s h p OfPushPromise = reaction-keeps s on_push_promise
part-keeps s h p (OfPing octets) = reaction-keeps s (on_ping s.core (has h.flags ACK) octets)
part-keeps s h p (OfGoaway last code) = reaction-keeps s (on_goaway s.core last code)
part-keeps s h p (OfWindowUpdate n) = reaction-keeps s (on_window_update s h.stream n)
part-keeps s h p (OfContinuation fragment) = continuation-keeps s s.block fragment (has h.flags END_HEADERS)
part-keeps s h p OfUnknown = reaction-keeps s (ignore s.core UnknownType)

item-keeps : (s : State) (item : Item) → Keeps s (item_effect s item)
item-keeps s Preface = refl
item-keeps s BadPreface = tt
item-keeps s (Oversize h) = tt
item-keeps s (WholeFrame h p) = checked (refusal (block_stream s.block) s.core.phase h)
  where
    parted : (r : Result Part Cause) → Keeps s (part_effect s h p r)
    parted (Ok part) = part-keeps s h p part
    parted (Err cause) = tt

    checked : (o : Option Cause) → Keeps s (checked_effect s h p o)
    checked (Some cause) = tt
    checked None = parted (part_of h p)

concluded-book : (s : State) (e : FrameEffect) → Keeps s e → (concluded s e).state.book ≡ s.book
concluded-book s (Breaks cause) same = refl
concluded-book s (Makes t c) same = same

effect-book : (s : State) (item : Item) → (effect s item).state.book ≡ s.book
unfolding effect
effect-book s item = concluded-book s (item_effect s item) (item-keeps s item)

pending-book : (s : State) → (send_pending s).state.book ≡ s.book
unfolding send_pending
pending-book s = refl

step-book : (s : State) (item : Item) → (step s item).state.book ≡ s.book
unfolding step
step-book s item = sent (effect s item).state.core.phase
  where
    sent : (p : Phase) → (then_sent p (effect s item)).state.book ≡ s.book
    sent (phase.Ended code) = effect-book s item
    sent phase.Preface = pending-book (effect s item).state ∙ effect-book s item
    sent phase.Settings = pending-book (effect s item).state ∙ effect-book s item
    sent phase.Running = pending-book (effect s item).state ∙ effect-book s item

-- ---- octets

abbrev FrontKeeps : State → Front State Event → Type 0
FrontKeeps s Stop = Unit {0}
FrontKeeps s (One event t used) = t.book ≡ s.book

event-keeps : (s : State) (b : List ℕ) → FrontKeeps s (next_event s b)
unfolding next_event
event-keeps s b = at (next_item s b)
  where
    at : (n : Next) → FrontKeeps s (event_on s n)
    at NoItem = tt
    at (Got item used) = step-book s item

first-book : (s : State) (b : List ℕ) (f : Front State Event) (follow : State → List ℕ → Parsed State Event) → FrontKeeps s f → ((t : State) (rest : List ℕ) → (follow t rest).state.book ≡ t.book)
    → (parse_first s b f follow).state.book ≡ s.book
first-book s b Stop follow same later = refl
first-book s b (One event t used) follow same later = later t (drop used b) ∙ same

upto-book : (n : ℕ) (s : State) (b : List ℕ) → (parse_upto next_event n s b).state.book ≡ s.book
upto-book zero s b = refl
upto-book (suc more) s b = first-book s b (next_event s b) (λ t rest. parse_upto next_event more t rest) (event-keeps s b) (λ t rest. upto-book more t rest)

trace-book : (s : State) (b : List ℕ) → (trace s b).state.book ≡ s.book
unfolding trace parse_all
trace-book s b = upto-book (length b) s b

-- a connection that took octets has the book that it had
pub fed-book : (c : Connection) (more out : List ℕ) (c' : Connection) (out' : List ℕ) → Fed c more out c' out' → c'.state.book ≡ c.state.book
fed-book c more out c' out' fed = ap (λ (d : Connection). d.state.book) fed.1.after ∙ trace-book c.state (c.rest ++ more)
