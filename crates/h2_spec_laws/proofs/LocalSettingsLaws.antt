-- The server's own settings come into force at the first acknowledgement and are changed by nothing else; no block
-- takes the header table above the limit that is in force.
use Rattle.std.proofs.Common.{◌≡◌, ℕ, zero, suc, ◌+◌, ◌≤◌, Bool, true, false, cond, not, List, ◌++◌, length, drop, refl, sym, ap, subst, ◌∙◌, arith, leb, leb-true, ltb, eqb, Option, Some, None, Result, Ok, Err}
use Rattle.std.proofs.lemmas.Bool.{le-ltb}
use Rattle.std.proofs.Math.Nat.{le_trans}
use Rattle.std.specs.Prelude.{pos, int_lt, ◌+ℤ◌, ◌-ℤ◌}
use Rattle.h2_spec.specs.declared.causes.Cause.{Cause}
use Rattle.h2_spec.specs.declared.causes.Cause.TheVariants.{ConnectionWindowExceeded, ConnectionWindowOverflow, BlockTooLarge, BlockTruncated, SizeUpdateMissing}
use Rattle.h2_spec.specs.declared.connection.BlockView.{BlockView}
use Rattle.h2_spec.specs.declared.connection.Config.{Config}
use Rattle.h2_spec.specs.declared.connection.ConnectionState.{ConnectionState}
use Rattle.h2_spec.specs.declared.connection.Phase.{Phase}
use Rattle.h2_spec.specs.declared.connection.Phase.TheVariants as phase
use Rattle.h2_spec.specs.declared.connection.Purpose.{Purpose}
use Rattle.h2_spec.specs.declared.connection.Purpose.TheVariants.{Request, Trailers, Closed, TableOnly}
use Rattle.h2_spec.specs.declared.flow.LocalSettings.{LocalSettings}
use Rattle.h2_spec.specs.declared.flow.Settings.{Settings}
use Rattle.h2_spec.specs.declared.frames.Head.{Head}
use Rattle.h2_spec.specs.declared.reactions.ReceivedData.{ReceivedData}
use Rattle.h2_spec.specs.declared.reactions.Change.{Change}
use Rattle.h2_spec.specs.declared.reactions.ConnectionFrame.TheVariants.{PingAck}
use Rattle.h2_spec.specs.declared.reactions.Reaction.{Reaction}
use Rattle.h2_spec.specs.declared.reactions.Reaction.TheVariants.{ConnectionError, Continues}
use Rattle.h2_spec.specs.declared.ignored.Ignored.TheVariants.{SecondAcknowledgement, PingAcknowledgement}
use Rattle.h2_spec.specs.declared.reactions.StreamOutcome.{StreamOutcome}
use Rattle.h2_spec.specs.declared.streams.Stream.{Stream}
use Rattle.h2_spec.specs.Frames.FrameType.{END_HEADERS, ACK, has}
use Rattle.h2_spec.specs.Frames.Frame.{Item, Preface, BadPreface, WholeFrame, Oversize, Next, NoItem, Got}
use Rattle.h2_spec.specs.Frames.Payload.{HeadersPart, Part, OfData, OfHeaders, OfPriority, OfRstStream, OfSettings, OfSettingsAck, OfPushPromise, OfPing, OfGoaway, OfWindowUpdate, OfContinuation, OfUnknown, part_of}
use Rattle.h2_spec.specs.Hpack.Field.{Field}
use Rattle.h2_spec.specs.Hpack.DynamicTable.{insert, resize, field_at}
use Rattle.h2_spec.specs.Read.{Read, Whole, More, TooLong}
use Rattle.h2_spec.specs.Frames.Parse.{Front, Stop, One, parse_first, parse_upto, parse_all}
use Rattle.h2_spec.specs.Hpack.Instruction.{Shape, Indexed, Update, Literal, Mode, IncrementalIndexing, WithoutIndexing, NeverIndexed, instr_at, text_of}
use Rattle.h2_spec.specs.Hpack.Block as block
use Rattle.h2_spec.specs.Hpack.Block.{Fault, LateUpdate, LargeUpdate, Given, Progress, Decoded, Outcome, Unfinished, Faulty, apply, decoded, next_instr, instr_taken, taken_unless, where_not_due, indexed_result, literal_result, name_of, text_result}
use Rattle.h2_spec.specs.Window.{is_above_max, given_back}
use Rattle.h2_spec.specs.Settings.{initial_local_settings}
use Rattle.h2_spec.specs.Requests.Answer.{Entry}
use Rattle.h2_spec.specs.State.{State, OpenBlock, Decoding, configured, opening}
use Rattle.h2_spec.specs.Change.{Step, only_counts, ignoring, with_outcome, stream_error, made}
use Rattle.h2_spec.specs.ReactionTable.{Cell, Error, Ignore, Rule, DataRule, Take, Refuse, Count, ResetRule, PeerResets, WindowRule, MoveWindow, run_cell, data_cell, reset_cell, window_cell}
use Rattle.h2_spec.specs.Data.{owed_as, owed_on_connection, counted, if_within, data_outcome, data_taken, data_refused, data_counted}
use Rattle.h2_spec.specs.WindowUpdate.{connection_window, window_outcome}
use Rattle.h2_spec.specs.SettingsFrame.{acknowledged, comes_into_force, settings_taken, settings_applied, settings_rule}
use Rattle.h2_spec.specs.Requests.Headers.{FrameEffect, Breaks, Makes, makes, block_ends, fragment_read, fragment_decoded, decoded_with, fragment, max_block, fresh_block, fresh_decoding, continued, continuation}
use Rattle.h2_spec.specs.Checks.{refusal}
use Rattle.h2_spec.specs.Effect.{ignore, data_rule, on_data, reset_rule, reset_outcome, on_reset, window_rule, on_window, on_headers, frame_effect, part_effect, checked_effect, block_stream, item_effect, concluded, effect}
use Rattle.h2_spec.specs.SendPending.{send_pending}
use Rattle.h2_spec.specs.Trace.{then_sent, step, next_item, event_on, next_event, trace}
use Rattle.h2_spec_laws.specs.LocalSettings.{HasSettingsInForce, AllHaveSettingsInForce, KeepsLocalSettings, most_of_table, settings_in_force}

-- ---- a field block keeps the table within the limit

-- what every element keeps of the state is so at the end
module _ {S E : Type 0} (P : S → Type 0) (next : S → List ℕ → Front S E) where
  abbrev pub FrontKeeps : Front S E → Type 0
  FrontKeeps Stop = Unit {0}
  FrontKeeps (One e t used) = P t

  pub parsed-keeps : ((s : S) (b : List ℕ) → P s → FrontKeeps (next s b)) → (n : ℕ) (s : S) (b : List ℕ) → P s → P (parse_upto next n s b).state
  parsed-keeps keeps zero s b h = h
  parsed-keeps keeps (suc n) s b h = at (λ t rest k. parsed-keeps keeps n t rest k) (next s b) (keeps s b h)
    where
      at : ((t : S) (rest : List ℕ) → P t → P (parse_upto next n t rest).state) → (f : Front S E) → FrontKeeps f → P (parse_first s b f (λ t rest. parse_upto next n t rest)).state
      at more Stop k = h
      at more (One e t used) k = more t (drop used b) k

-- a table that is no larger than some number stays so, where the limit is no larger either
module _ (limit most : ℕ) (low : limit ≤ most) where
  abbrev IsWithin : block.DecoderState → Type 0
  IsWithin d = d.table.max ≤ most

  abbrev GivenWithin : Result Given Fault → Type 0
  GivenWithin (Ok g) = IsWithin g.after
  GivenWithin (Err fault) = Unit {0}

  due-within : (b : Bool) (r : Result Given Fault) → GivenWithin r → GivenWithin (where_not_due b r)
  due-within true r h = tt
  due-within false r h = h

  indexed-within : (d : block.DecoderState) (i : ℕ) (o : Option Field) → IsWithin d → GivenWithin (indexed_result d i o)
  indexed-within d i None h = tt
  indexed-within d i (Some f) h = h

  literal-within : (mode : Mode) (d : block.DecoderState) (name value : Result (List ℕ) Fault) → IsWithin d → GivenWithin (literal_result mode d name value)
  unfolding insert
  literal-within IncrementalIndexing d (Ok n) (Ok v) h = h
  literal-within WithoutIndexing d (Ok n) (Ok v) h = h
  literal-within NeverIndexed d (Ok n) (Ok v) h = h
  literal-within mode d (Ok n) (Err fault) h = tt
  literal-within mode d (Err fault) value h = tt

  apply-within : (d : block.DecoderState) (i : Shape) → IsWithin d → GivenWithin (apply limit d i)
  unfolding apply resize
  apply-within d (Indexed i) h = due-within d.due _ (indexed-within d i (field_at i d.table.entries) h)
  apply-within d (Update n) h = at d.begun (leb n limit) refl
    where
      at : (begun few : Bool) → leb n limit ≡ few →
          GivenWithin (cond begun (Err LateUpdate) (cond few (Ok (record { field = None; after = record d { table = resize d.table n; due = false } })) (Err LargeUpdate)))
      at true few e = tt
      at false true e = le_trans (leb-true n limit e) low
      at false false e = tt
  apply-within d (Literal mode name value) h = due-within d.due _ (literal-within mode d (name_of name d.table.entries) (text_result (text_of value)) h)

  next-within : (d : block.DecoderState) (b : List ℕ) → IsWithin d → FrontKeeps IsWithin (next_instr limit) (next_instr limit d b)
  unfolding next_instr
  next-within d b h = at (instr_at b)
    where
      given : (used : ℕ) (r : Result Given Fault) → GivenWithin r → FrontKeeps IsWithin (next_instr limit) (taken_unless used r)
      given used (Ok g) k = k
      given used (Err fault) k = tt

      at : (r : Read Shape) → FrontKeeps IsWithin (next_instr limit) (instr_taken limit d r)
      at (Whole i used) = given used (apply limit d i) (apply-within d i h)
      at More = tt
      at TooLong = tt

  decoded-within : (p : Progress) (b : List ℕ) → p.table.max ≤ most → (decoded limit p b).progress.table.max ≤ most
  unfolding decoded parse_all
  decoded-within p b h = parsed-keeps IsWithin (next_instr limit) next-within (length b) (block.decoding p) b h

-- ---- the rules of the connection

-- the settings in force and whether they are acknowledged are those of before
abbrev AreSame : ConnectionState → ConnectionState → Type 0
AreSame now before = (now.own ≡ before.own) × (now.acked ≡ before.acked)

-- so they are after a reaction
abbrev ReactionKeeps : ConnectionState → Reaction → Type 0
ReactionKeeps core (ConnectionError cause) = Unit {0}
ReactionKeeps core (Continues c) = AreSame c.core core

either-keeps : (core : ConnectionState) (b : Bool) (x y : Reaction) → ReactionKeeps core x → ReactionKeeps core y → ReactionKeeps core (cond b x y)
either-keeps core true x y h k = h
either-keeps core false x y h k = k

cell-keeps : {R : Type 0} (core : ConnectionState) (rule : R → Reaction) → ((r : R) → ReactionKeeps core (rule r)) → (c : Cell R) → ReactionKeeps core (run_cell ConnectionError (ignore core) rule c)
cell-keeps core rule h (Error cause) = tt
cell-keeps core rule h (Ignore reason) = (refl, refl)
cell-keeps core rule h (Rule r) = h r

counted-own : (threshold : ℕ) (core : ConnectionState) (n : ℕ) → AreSame (counted threshold core n).core core
unfolding counted owed_on_connection
counted-own threshold core n = at (given_back threshold (core.owed + n))
  where
    at : (o : Option ℕ) → AreSame (owed_as o (record core { recv = core.recv -ℤ pos n }) (core.owed + n)).core core
    at (Some m) = (refl, refl)
    at None = (refl, refl)

outcome-own : (c : Change) (t : StreamOutcome) → AreSame (with_outcome c t).core c.core
unfolding with_outcome
outcome-own c t = (refl, refl)

same-twice : (a b c : ConnectionState) → AreSame a b → AreSame b c → AreSame a c
same-twice a b c x y = (x.0 ∙ y.0, x.1 ∙ y.1)

data-keeps : (config : Config) (core : ConnectionState) (body : ℕ) (d : ReceivedData) (st : Stream) → ReactionKeeps core (on_data config core body d st)
unfolding on_data data_taken data_refused data_counted
data-keeps config core body d st = cell-keeps core _ by_rule (data_cell st.kind)
  where
    within : (c : Change) → AreSame c.core core → ReactionKeeps core (if_within core d.octets c)
    within c e = either-keeps core (int_lt core.recv (pos d.octets)) (ConnectionError ConnectionWindowExceeded) (Continues c) tt e

    outcome-within : (t : StreamOutcome) → ReactionKeeps core (if_within core d.octets (with_outcome (counted config.credit core d.octets) t))
    outcome-within t = within (with_outcome (counted config.credit core d.octets) t) (same-twice (with_outcome (counted config.credit core d.octets) t).core (counted config.credit core d.octets).core core (outcome-own (counted config.credit core d.octets) t) (counted-own config.credit core d.octets))

    by_rule : (r : DataRule) → ReactionKeeps core (data_rule r config core body d st)
    by_rule Take = outcome-within (data_outcome config.credit body d st)
    by_rule (Refuse cause) = outcome-within (stream_error st.id cause)
    by_rule (Count reason) = within (ignoring reason (counted config.credit core d.octets)) (counted-own config.credit core d.octets)

reset-keeps : (core : ConnectionState) (st : Stream) → ReactionKeeps core (on_reset core st)
unfolding on_reset
reset-keeps core st = cell-keeps core _ by_rule (reset_cell st.kind)
  where
    by_rule : (r : ResetRule) → ReactionKeeps core (reset_rule r core st)
    by_rule PeerResets = outcome-own (only_counts core) (reset_outcome st)

window-keeps : (core : ConnectionState) (n : ℕ) (st : Stream) → ReactionKeeps core (on_window core n st)
unfolding on_window
window-keeps core n st = cell-keeps core _ by_rule (window_cell (eqb n 0) st.kind)
  where
    by_rule : (r : WindowRule) → ReactionKeeps core (window_rule r core n st)
    by_rule MoveWindow = outcome-own (only_counts core) (window_outcome n st)

connection-keeps : (core : ConnectionState) (n : ℕ) → ReactionKeeps core (connection_window core n)
unfolding connection_window
connection-keeps core n =
    either-keeps core (eqb n 0) _ _ tt
    (either-keeps core (is_above_max (core.send +ℤ pos n)) (ConnectionError ConnectionWindowOverflow) _ tt (refl, refl))

settings-keeps : (streams : List Stream) (core : ConnectionState) (pairs : List (ℕ × ℕ)) → ReactionKeeps core (settings_rule streams core pairs)
unfolding settings_rule
settings-keeps streams core pairs = at (settings_applied streams core.peer core.peer pairs)
  where
    at : (r : Result Settings Cause) → ReactionKeeps core (settings_taken core r)
    at (Err cause) = tt
    at (Ok peer) = (refl, refl)

-- ---- what a frame results in

-- the configuration and the settings in force are those of before, and the table is no larger than this
abbrev EffectKeeps : State → ℕ → FrameEffect → Type 0
EffectKeeps s most (Breaks cause) = Unit {0}
EffectKeeps s most (Makes t c) = (t.config ≡ s.config) × AreSame c.core s.core × (t.table.max ≤ most)

ends-own : (s : State) (id : ℕ) (ends : Bool) (fields : List Field) (purpose : Purpose) → AreSame (block_ends s id ends fields purpose).core s.core
ends-own s id ends fields Request = outcome-own _ _
ends-own s id ends fields Trailers = outcome-own _ _
ends-own s id ends fields Closed = outcome-own _ _
ends-own s id ends fields TableOnly = (refl, refl)

-- within: the header table
module _ (s : State) (most : ℕ) (within : s.table.max ≤ most) where
  makes-keeps : (r : Reaction) → ReactionKeeps s.core r → EffectKeeps s most (makes s r)
  makes-keeps (ConnectionError cause) h = tt
  makes-keeps (Continues c) h = (refl, h, within)

  read-keeps : (b : BlockView) (d : Decoding) (ends : Bool) → EffectKeeps s most (fragment_read s b d ends)
  read-keeps b d false = (refl, (refl, refl), within)
  read-keeps b d true = at (not (eqb (length d.rest) 0)) d.due
    where
      at : (cut due : Bool) →
          EffectKeeps s most (cond cut (Breaks BlockTruncated) (cond due (Breaks SizeUpdateMissing) (Makes (record s { block = None }) (block_ends s b.stream b.ends d.fields d.purpose))))
      at true due = tt
      at false true = tt
      at false false = (refl, ends-own s b.stream b.ends d.fields d.purpose, within)

decoded-keeps : (s : State) (most : ℕ) (b : BlockView) (purpose : Purpose) (ends : Bool) (p : Progress) (o : Outcome) → p.table.max ≤ most →
    EffectKeeps s most (fragment_decoded s b purpose ends (record { progress = p; outcome = o }))
decoded-keeps s most b purpose ends p (Unfinished rest) h = read-keeps (record s { table = p.table }) most h _ _ ends
decoded-keeps s most b purpose ends p (Faulty fault) h = tt

-- low: the limit of the table
module _ (s : State) (most : ℕ) (low : s.core.own.table ≤ most) (within : s.table.max ≤ most) where
  fragment-keeps : (b : BlockView) (d : Decoding) (octets : List ℕ) (ends : Bool) → EffectKeeps s most (fragment s b d octets ends)
  fragment-keeps b d octets ends = at (ltb max_block (b.octets + length octets))
    where
      all : Decoded
      all = decoded_with s d octets

      few : all.progress.table.max ≤ most
      few = decoded-within s.core.own.table most low (record { fields = d.fields; table = s.table; due = d.due }) (d.rest ++ octets) within

      at : (c : Bool) → EffectKeeps s most (cond c (Breaks BlockTooLarge) (fragment_decoded s (record b { octets = b.octets + length octets }) d.purpose ends all))
      at true = tt
      at false = decoded-keeps s most (record b { octets = b.octets + length octets }) d.purpose ends all.progress all.outcome few

  continued-keeps : (b : BlockView) (o : Option Decoding) (octets : List ℕ) (ends : Bool) → EffectKeeps s most (continued s b o octets ends)
  continued-keeps b None octets ends = tt
  continued-keeps b (Some d) octets ends = fragment-keeps b d octets ends

  continuation-keeps : (o : Option OpenBlock) (octets : List ℕ) (ends : Bool) → EffectKeeps s most (continuation s o octets ends)
  continuation-keeps None octets ends = tt
  continuation-keeps (Some b) octets ends = continued-keeps b.shown b.decoding octets ends

  headers-keeps : (h : Head) (part : HeadersPart) (c : Cell Purpose) → EffectKeeps s most (on_headers s h part c)
  headers-keeps h part (Error cause) = tt
  headers-keeps h part (Ignore reason) = (refl, (refl, refl), within)
  headers-keeps h part (Rule purpose) = fragment-keeps (fresh_block h) (fresh_decoding s purpose) part.fragment (has h.flags END_HEADERS)

-- ---- what an item results in

-- the settings in force after it, and the table within what they allowed
abbrev EffectHas : Config → FrameEffect → Type 0
EffectHas config (Breaks cause) = Unit {0}
EffectHas config (Makes t c) = (t.config ≡ config) × (c.core.own ≡ settings_in_force config c.core.acked) × (t.table.max ≤ most_of_table config c.core.acked)

-- the limit in force is within the most
low-limit : (config : Config) (acked : Bool) → (settings_in_force config acked).table ≤ most_of_table config acked
low-limit config false = omega arith
low-limit config true = omega arith

-- same: the configuration; own: the settings in force; within: the header table
module _ (config : Config) (s : State) (same : s.config ≡ config) (own : s.core.own ≡ settings_in_force config s.core.acked) (within : s.table.max ≤ most_of_table config s.core.acked) where
  abbrev most : ℕ
  most = most_of_table config s.core.acked

  low : s.core.own.table ≤ most
  low = subst (λ (o : LocalSettings). o.table ≤ most) (sym own) (low-limit config s.core.acked)

  kept : (e : FrameEffect) → EffectKeeps s most e → EffectHas config e
  kept (Breaks cause) k = tt
  kept (Makes t c) k = (
    k.0 ∙ same,
    k.1.0 ∙ own ∙ ap (settings_in_force config) (sym k.1.1),
    subst (λ b. t.table.max ≤ most_of_table config b) (sym k.1.1) k.2,
  )

  reacts : (r : Reaction) → ReactionKeeps s.core r → EffectHas config (makes s r)
  reacts r h = kept (makes s r) (makes-keeps s most within r h)

  acknowledged-has : EffectHas config (makes s (acknowledged s.config s.core))
  acknowledged-has = at s.core.acked own within
    where
      at : (b : Bool) → s.core.own ≡ settings_in_force config b → s.table.max ≤ most_of_table config b →
          EffectHas config (makes s (cond b (Continues (ignoring SecondAcknowledgement (only_counts (record s.core { acked = b })))) (Continues (comes_into_force s.core (configured s.config)))))
      at true o w = (same, o, w)
      at false o w = (same, ap configured same, omega (arith, w))

  frame-has : (h : Head) (p : List ℕ) (part : Part) → EffectHas config (frame_effect s h p part)
  frame-has h p (OfData part) = reacts _ (data-keeps s.config s.core _ _ _)
  frame-has h p (OfHeaders part) = kept _ (headers-keeps s most low within h part _)
  frame-has h p OfPriority = (same, own, within)
  frame-has h p (OfRstStream code) = reacts _ (reset-keeps s.core _)
  frame-has h p (OfSettings pairs) = reacts _ (settings-keeps s.streams s.core pairs)
  frame-has h p OfSettingsAck = acknowledged-has
  frame-has h p OfPushPromise = tt
  frame-has h p (OfPing octets) = reacts _ (either-keeps s.core (has h.flags ACK) (ignore s.core PingAcknowledgement) (Continues (record (only_counts s.core) { connection_frame = PingAck octets })) (refl, refl) (refl, refl))
  frame-has h p (OfGoaway last code) = (same, own, within)
  frame-has h p (OfWindowUpdate n) = reacts _ (either-keeps s.core (eqb h.stream 0) (connection_window s.core n) _ (connection-keeps s.core n) (window-keeps s.core n _))
  frame-has h p (OfContinuation octets) = kept _ (continuation-keeps s most low within s.block octets (has h.flags END_HEADERS))
  frame-has h p OfUnknown = (same, own, within)

  part-has : (h : Head) (p : List ℕ) (r : Result Part Cause) → EffectHas config (part_effect s h p r)
  part-has h p (Ok part) = frame-has h p part
  part-has h p (Err cause) = tt

  checked-has : (h : Head) (p : List ℕ) (o : Option Cause) → EffectHas config (checked_effect s h p o)
  checked-has h p None = part-has h p (part_of h p)
  checked-has h p (Some cause) = tt

  item-has : (item : Item) → EffectHas config (item_effect s item)
  item-has Preface = (same, own, within)
  item-has BadPreface = tt
  item-has (Oversize h) = tt
  item-has (WholeFrame h p) = checked-has h p (refusal (block_stream s.block) s.core.phase h)

-- ---- a run

-- the configuration stays, and these settings are in force
abbrev KeepsSettings : Config → State → Type 0
KeepsSettings config s = (s.config ≡ config) × HasSettingsInForce config s

keeps-settings : (config : Config) (s : State) → s.config ≡ config → s.core.own ≡ settings_in_force config s.core.acked → s.table.max ≤ most_of_table config s.core.acked → KeepsSettings config s
keeps-settings config s same own within = (
  same,
  record {
    own = own;
    within = within;
    not_due = λ e.
        let first : s.core.own ≡ initial_local_settings = own ∙ ap (settings_in_force config) e in
        let few : s.table.max ≤ 4096 = subst (λ b. s.table.max ≤ most_of_table config b) e within in
        rw first (le-ltb 4096 s.table.max few);
  },
)

sending-keeps : (config : Config) (s : State) → KeepsSettings config s → KeepsSettings config (send_pending s).state
unfolding send_pending
sending-keeps config s h = keeps-settings config _ h.0 h.1.own h.1.within

step-keeps : (config : Config) (s : State) (item : Item) → KeepsSettings config s → KeepsSettings config (step s item).state
unfolding step effect
step-keeps config s item h = at (item_effect s item) (item-has config s h.0 h.1.own h.1.within item)
  where
    sends : (e : Step) → KeepsSettings config e.state → (p : Phase) → KeepsSettings config (then_sent p e).state
    sends e k (phase.Ended code) = k
    sends e k phase.Preface = sending-keeps config e.state k
    sends e k phase.Settings = sending-keeps config e.state k
    sends e k phase.Running = sending-keeps config e.state k

    at : (e : FrameEffect) → EffectHas config e → KeepsSettings config (then_sent (concluded s e).state.core.phase (concluded s e)).state
    at (Breaks cause) k = keeps-settings config _ h.0 h.1.own h.1.within
    at (Makes t c) k = sends (made t c) (keeps-settings config _ k.0 k.1 k.2) c.core.phase

events-keep : (config : Config) (n : ℕ) (s : State) (b : List ℕ) → KeepsSettings config s → AllHaveSettingsInForce config (parse_upto next_event n s b).elements
unfolding next_event
events-keep config zero s b h = tt
events-keep config (suc n) s b h = at (λ t rest k. events-keep config n t rest k) (next_item s b)
  where
    at : ((t : State) (rest : List ℕ) → KeepsSettings config t → AllHaveSettingsInForce config (parse_upto next_event n t rest).elements) → (y : Next) → AllHaveSettingsInForce config (parse_first s b (event_on s y) (λ t rest. parse_upto next_event n t rest)).elements
    at more NoItem = tt
    at more (Got item used) = let k = step-keeps config s item h in (k.1, more (step s item).state (drop used b) k)

opening-keeps : (book : List Entry) (config : Config) → KeepsSettings config (opening book config)
opening-keeps book config = keeps-settings config (opening book config) refl refl (omega arith)

pub settings-kept : (book : List Entry) (config : Config) (octets : List ℕ) → KeepsLocalSettings book config octets
unfolding trace parse_all
settings-kept book config b = ((opening-keeps book config).1, events-keep config (length b) (opening book config) b (opening-keeps book config))
