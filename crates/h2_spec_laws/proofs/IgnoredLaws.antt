-- What is ignored is what is listed as ignored, is no error, and changes no more than its reason allows.
use Rattle.std.proofs.Common.{◌≡◌, ℕ, ◌+◌, ◌%◌, Bool, true, false, cond, eqb, not, List, [], length, ltb, Option, Some, None, Result, Ok, Err, refl, sym, ap, subst, ◌∙◌}
use Rattle.std.proofs.lemmas.Bool.{false≢true}
use Rattle.std.proofs.lemmas.Option.{none-some}
use Rattle.std.specs.Prelude.{pos, int_lt, ◌+ℤ◌, ◌-ℤ◌}
use Rattle.h2_spec.specs.declared.causes.Cause.{Cause}
use Rattle.h2_spec.specs.declared.causes.Cause.TheVariants.{ConnectionIncrementZero, ConnectionWindowExceeded, ConnectionWindowOverflow, DataAfterEndStream, HeadersOnEven, BlockTooLarge, BlockTruncated, SizeUpdateMissing, PriorityLength, PingLength}
use Rattle.h2_spec.specs.declared.connection.BlockView.{BlockView}
use Rattle.h2_spec.specs.declared.connection.Purpose.{Purpose}
use Rattle.h2_spec.specs.declared.connection.Purpose.TheVariants.{Request, Trailers, Closed, TableOnly}
use Rattle.h2_spec.specs.declared.frames.FrameType.{FrameType}
use Rattle.h2_spec.specs.declared.frames.FrameType.TheVariants as types
use Rattle.h2_spec.specs.declared.frames.Head.{Head}
use Rattle.h2_spec.specs.declared.flow.Settings.{Settings}
use Rattle.h2_spec.specs.declared.ignored.Ignored.{Ignored}
use Rattle.h2_spec.specs.declared.ignored.Ignored.TheVariants.{Priority, UnknownType, SecondAcknowledgement, PingAcknowledgement, RstStreamOnSkipped, RstStreamOnClosed, RstStreamOnPeerReset, RstStreamOnReset, WindowUpdateOnSkipped, WindowUpdateOnClosed, WindowUpdateOnPeerReset, WindowUpdateOnReset, WindowUpdateByZero, DataOnReset, TableOnlyBlock}
use Rattle.h2_spec.specs.declared.reactions.ConnectionFrame.TheVariants.{PingAck}
use Rattle.h2_spec.specs.declared.reactions.Reaction.{Reaction}
use Rattle.h2_spec.specs.declared.reactions.Reaction.TheVariants.{ConnectionError, Continues}
use Rattle.h2_spec.specs.declared.reactions.ReceivedData.{ReceivedData}
use Rattle.h2_spec.specs.declared.reactions.StreamOutcome.{StreamOutcome}
use Rattle.h2_spec.specs.declared.streams.StreamState.{StreamState}
use Rattle.h2_spec.specs.declared.streams.StreamState.TheVariants.{Idle, Skipped, BothOpen, HalfRemote, HalfLocal, Ended, PeerReset, WeReset}
use Rattle.h2_spec.specs.declared.streams.Stream.{Stream}
use Rattle.h2_spec.specs.Frames.FrameType.{END_HEADERS, ACK, frame_type, has}
use Rattle.h2_spec.specs.Frames.Frame.{Item, Preface, BadPreface, WholeFrame, Oversize}
use Rattle.h2_spec.specs.Frames.Payload.{HeadersPart, Part, OfData, OfHeaders, OfPriority, OfRstStream, OfPing, OfGoaway, OfWindowUpdate, part_as, with_part, settings_or_ack, data_part, headers_part, settings_part, window_part, goaway_part, reset_part}
use Rattle.h2_spec.specs.Hpack.Block.{Decoded, Progress, Outcome, Unfinished, Faulty}
use Rattle.h2_spec.specs.Hpack.DynamicTable.{Table}
use Rattle.h2_spec.specs.Hpack.Field.{Field}
use Rattle.h2_spec.specs.Stream.{stream_at}
use Rattle.h2_spec.specs.Window.{given_back, is_above_max}
use Rattle.h2_spec.specs.State.{State, OpenBlock, Decoding, configured}
use Rattle.h2_spec.specs.Change.{Step, only_counts, ignoring, stream_error, with_outcome, frames_of}
use Rattle.h2_spec.specs.Checks.{refusal}
use Rattle.h2_spec.specs.ReactionTable.{Error, Rule, ResetRule, PeerResets, WindowRule, MoveWindow, data_cell, headers_cell, reset_cell, window_cell, run_cell}
use Rattle.h2_spec.specs.SettingsFrame.{comes_into_force, settings_applied, settings_rule, settings_taken}
use Rattle.h2_spec.specs.WindowUpdate.{connection_window}
use Rattle.h2_spec.specs.Data.{owed_as, owed_on_connection, counted, data_counted, data_outcome, data_refused, data_taken, if_within}
use Rattle.h2_spec.specs.Requests.Headers.{FrameEffect, Breaks, Makes, makes, max_block, block_ends, block_opens, fragment_read, fragment_decoded, decoded_with, fragment, fresh_block, fresh_decoding, continued, continuation, fragment_ignored}
use Rattle.h2_spec.specs.Effect.{ignore, data_rule, on_data, on_reset, on_window, on_headers, reset_rule, window_rule, frame_effect, part_effect, checked_effect, block_stream, item_effect, concluded, effect, effect_cause, effect_ignored, cause_of}
use Rattle.h2_spec.specs.Causes.Ignored.{ignored_of, changes_nothing}
use Rattle.h2_spec_laws.specs.IgnoredList.{reset_ignored, window_ignored, is_zero, where_reset, reason_if, decoding_ignored, block_ignored, kind_at, settings_ignored, frame_ignored, item_ignored, unless_caused, ignored_as_listed}
use Rattle.h2_spec_laws.specs.Ignoring.{OnlyReceiveWindowChanges, OnlyHeaderTableChanges}

-- ---- it is no error

without-cause : (cause : Option Cause) (reason : Option Ignored) (r : Ignored) → unless_caused cause reason ≡ Some r → cause ≡ None
without-cause (Some cause) reason r h = absurd (none-some r h)
without-cause None reason r h = refl

-- ---- what it changes

abbrev IsUnchanged : State → Step → Type 0
IsUnchanged s e = e ≡ record { state = s; sent = [] }

-- what may change, by the reason
abbrev IsIgnored : Ignored → State → Step → Type 0
IsIgnored Priority s e = IsUnchanged s e
IsIgnored UnknownType s e = IsUnchanged s e
IsIgnored SecondAcknowledgement s e = IsUnchanged s e
IsIgnored PingAcknowledgement s e = IsUnchanged s e
IsIgnored RstStreamOnSkipped s e = IsUnchanged s e
IsIgnored RstStreamOnClosed s e = IsUnchanged s e
IsIgnored RstStreamOnPeerReset s e = IsUnchanged s e
IsIgnored RstStreamOnReset s e = IsUnchanged s e
IsIgnored WindowUpdateOnSkipped s e = IsUnchanged s e
IsIgnored WindowUpdateOnClosed s e = IsUnchanged s e
IsIgnored WindowUpdateOnPeerReset s e = IsUnchanged s e
IsIgnored WindowUpdateOnReset s e = IsUnchanged s e
IsIgnored WindowUpdateByZero s e = IsUnchanged s e
IsIgnored DataOnReset s e = OnlyReceiveWindowChanges s e
IsIgnored TableOnlyBlock s e = OnlyHeaderTableChanges s e

module _ (s : State) where
  -- what a frame results in is what its reason allows, where it has one and is no error
  record Allowed (e : FrameEffect) (reason : Option Ignored) : Type 0 where
    by : (r : Ignored) → unless_caused (effect_cause e) reason ≡ Some r → IsIgnored r s (concluded s e)
    same : effect_ignored e ≡ unless_caused (effect_cause e) reason

  no-reason : (e : FrameEffect) → effect_ignored e ≡ None → Allowed e None
  no-reason e none = record { by = λ r. at r (effect_cause e); same = none ∙ sym (without (effect_cause e)) }
    where
      at : (r : Ignored) (cause : Option Cause) → unless_caused cause None ≡ Some r → IsIgnored r s (concluded s e)
      at r (Some cause) h = absurd (none-some r h)
      at r None h = absurd (none-some r h)

      without : (cause : Option Cause) → unless_caused cause None ≡ None
      without (Some cause) = refl
      without None = refl

  is-error : (cause : Cause) (reason : Option Ignored) → Allowed (Breaks cause) reason
  is-error cause reason = record { by = λ r h. absurd (none-some r h); same = refl }

  has-reason : (e : FrameEffect) (reason : Ignored) → IsIgnored reason s (concluded s e) → effect_ignored e ≡ Some reason → effect_cause e ≡ None → Allowed e (Some reason)
  has-reason e reason k some none = record { by = λ r. at r (effect_cause e); same = some ∙ sym (ap (λ c. unless_caused c (Some reason)) none) }
    where
      AllowedBy : Option Ignored → Type 0
      AllowedBy (Some reason) = IsIgnored reason s (concluded s e)
      AllowedBy None = Unit {0}

      at : (r : Ignored) (cause : Option Cause) → unless_caused cause (Some reason) ≡ Some r → IsIgnored r s (concluded s e)
      at r (Some cause) h = absurd (none-some r h)
      at r None h = subst AllowedBy h k

  -- ---- frames for which nothing changes

  unchanged : IsUnchanged s (concluded s (Makes s (only_counts s.core)))
  unfolding frames_of
  unchanged = refl

  nothing-happens : (reason : Ignored) → IsIgnored reason s (concluded s (Makes s (only_counts s.core))) → Allowed (makes s (ignore s.core reason)) (Some reason)
  unfolding frames_of
  nothing-happens reason k = has-reason (Makes s (ignoring reason (only_counts s.core))) reason k refl refl

  -- a reaction of a rule that ignores nothing
  abbrev IsTaken : Reaction → Type 0
  IsTaken r = effect_ignored (makes s r) ≡ None

  resets : (rule : ResetRule → Reaction) → ((r : ResetRule) → IsTaken (rule r)) → (kind : StreamState) → Allowed (makes s (run_cell ConnectionError (ignore s.core) rule (reset_cell kind))) (reset_ignored kind)
  resets rule taken Idle = no-reason _ refl
  resets rule taken Skipped = nothing-happens RstStreamOnSkipped unchanged
  resets rule taken BothOpen = no-reason _ (taken PeerResets)
  resets rule taken HalfLocal = no-reason _ (taken PeerResets)
  resets rule taken HalfRemote = no-reason _ (taken PeerResets)
  resets rule taken Ended = nothing-happens RstStreamOnClosed unchanged
  resets rule taken PeerReset = nothing-happens RstStreamOnPeerReset unchanged
  resets rule taken WeReset = nothing-happens RstStreamOnReset unchanged

  moves-window : (rule : WindowRule → Reaction) → ((r : WindowRule) → IsTaken (rule r)) → (zero : Bool) (kind : StreamState) → Allowed (makes s (run_cell ConnectionError (ignore s.core) rule (window_cell zero kind))) (window_ignored zero kind)
  moves-window rule taken zero Idle = no-reason _ refl
  moves-window rule taken true Skipped = nothing-happens WindowUpdateByZero unchanged
  moves-window rule taken false Skipped = nothing-happens WindowUpdateOnSkipped unchanged
  moves-window rule taken zero BothOpen = no-reason _ (taken MoveWindow)
  moves-window rule taken zero HalfLocal = no-reason _ (taken MoveWindow)
  moves-window rule taken zero HalfRemote = no-reason _ (taken MoveWindow)
  moves-window rule taken true Ended = nothing-happens WindowUpdateByZero unchanged
  moves-window rule taken false Ended = nothing-happens WindowUpdateOnClosed unchanged
  moves-window rule taken true PeerReset = nothing-happens WindowUpdateByZero unchanged
  moves-window rule taken false PeerReset = nothing-happens WindowUpdateOnPeerReset unchanged
  moves-window rule taken true WeReset = nothing-happens WindowUpdateByZero unchanged
  moves-window rule taken false WeReset = nothing-happens WindowUpdateOnReset unchanged

  moves-the-window : (increment : ℕ) → IsTaken (connection_window s.core increment)
  unfolding connection_window
  moves-the-window increment = at (eqb increment 0) (is_above_max (s.core.send +ℤ pos increment))
    where
      at : (none above : Bool) → IsTaken (cond none (ConnectionError ConnectionIncrementZero) (cond above (ConnectionError ConnectionWindowOverflow) (Continues (only_counts (record s.core { send = s.core.send +ℤ pos increment })))))
      at true above = refl
      at false true = refl
      at false false = refl

  moves-a-window : (increment : ℕ) (on_zero zero : Bool) (rule : WindowRule → Reaction) → ((r : WindowRule) → IsTaken (rule r)) → (kind : StreamState) →
      Allowed (makes s (cond on_zero (connection_window s.core increment) (run_cell ConnectionError (ignore s.core) rule (window_cell zero kind)))) (cond on_zero None (window_ignored zero kind))
  moves-a-window increment true zero rule taken kind = no-reason _ (moves-the-window increment)
  moves-a-window increment false zero rule taken kind = moves-window rule taken zero kind

  acknowledges : (acked : Bool) → Allowed (makes s (cond acked (ignore s.core SecondAcknowledgement) (Continues (comes_into_force s.core (configured s.config))))) (reason_if acked SecondAcknowledgement)
  acknowledges true = nothing-happens SecondAcknowledgement unchanged
  acknowledges false = no-reason _ refl

  pings : (octets : List ℕ) (acknowledges : Bool) → Allowed (makes s (cond acknowledges (ignore s.core PingAcknowledgement) (Continues (record (only_counts s.core) { connection_frame = PingAck octets })))) (reason_if acknowledges PingAcknowledgement)
  pings octets true = nothing-happens PingAcknowledgement unchanged
  pings octets false = no-reason _ refl

  -- ---- DATA that is counted on the connection alone

  counts : (d : ReceivedData) → Allowed (makes s (data_counted s.config s.core d DataOnReset)) (Some DataOnReset)
  unfolding data_counted counted owed_on_connection frames_of
  counts d = within (int_lt s.core.recv (pos d.octets))
    where
      owed : (o : Option ℕ) → Allowed (Makes s (ignoring DataOnReset (owed_as o (record s.core { recv = s.core.recv -ℤ pos d.octets }) (s.core.owed + d.octets)))) (Some DataOnReset)
      owed (Some n) = has-reason _ DataOnReset (record { state = refl; sent = refl }) refl refl
      owed None = has-reason _ DataOnReset (record { state = refl; sent = refl }) refl refl

      within : (exceeded : Bool) → Allowed (makes s (cond exceeded (ConnectionError ConnectionWindowExceeded) (Continues (ignoring DataOnReset (counted s.config.credit s.core d.octets))))) (Some DataOnReset)
      within true = is-error ConnectionWindowExceeded (Some DataOnReset)
      within false = owed (given_back s.config.credit (s.core.owed + d.octets))

  -- DATA that its stream takes or that is refused is not ignored
  takes-data : (d : ReceivedData) (t : StreamOutcome) → IsTaken (if_within s.core d.octets (with_outcome (counted s.config.credit s.core d.octets) t))
  unfolding with_outcome
  takes-data d t = at (int_lt s.core.recv (pos d.octets))
    where
      at : (exceeded : Bool) → IsTaken (cond exceeded (ConnectionError ConnectionWindowExceeded) (Continues (with_outcome (counted s.config.credit s.core d.octets) t)))
      at true = refl
      at false = refl

  brings-data : (body : ℕ) (d : ReceivedData) (st : Stream) (kind : StreamState) →
      Allowed (makes s (run_cell ConnectionError (ignore s.core) (λ rule. data_rule rule s.config s.core body d st) (data_cell kind))) (where_reset DataOnReset kind)
  unfolding data_taken data_refused
  brings-data body d st Idle = no-reason _ refl
  brings-data body d st Skipped = no-reason _ refl
  brings-data body d st BothOpen = no-reason _ (takes-data d (data_outcome s.config.credit body d st))
  brings-data body d st HalfLocal = no-reason _ (takes-data d (data_outcome s.config.credit body d st))
  brings-data body d st HalfRemote = no-reason _ (takes-data d (stream_error st.id DataAfterEndStream))
  brings-data body d st Ended = no-reason _ refl
  brings-data body d st PeerReset = no-reason _ refl
  brings-data body d st WeReset = counts d

  -- ---- blocks that are decoded for more than the header table

  ends : (table : Table) (id : ℕ) (ended : Bool) (fields : List Field) (purpose : Purpose) → fragment_ignored purpose ≡ None → (block_ends (record s { table = table }) id ended fields purpose).ignored ≡ None
  unfolding with_outcome
  ends table id ended fields Request e = refl
  ends table id ended fields Trailers e = refl
  ends table id ended fields Closed e = refl
  ends table id ended fields TableOnly e = absurd (none-some TableOnlyBlock (sym e))

  reads-more : (table : Table) (b : BlockView) (d : Decoding) (end_headers : Bool) → fragment_ignored d.purpose ≡ None → effect_ignored (fragment_read (record s { table = table }) b d end_headers) ≡ None
  reads-more table b d false e = e
  reads-more table b d true e = at (not (eqb (length d.rest) 0)) d.due
    where
      at : (cut due : Bool) → effect_ignored (cond cut (Breaks BlockTruncated) (cond due (Breaks SizeUpdateMissing) (Makes (record s { table = table; block = None }) (block_ends (record s { table = table }) b.stream b.ends d.fields d.purpose)))) ≡ None
      at true due = refl
      at false true = refl
      at false false = ends table b.stream b.ends d.fields d.purpose e

  decodes-more : (b : BlockView) (purpose : Purpose) (end_headers : Bool) (progress : Progress) (outcome : Outcome) → fragment_ignored purpose ≡ None → effect_ignored (fragment_decoded s b purpose end_headers (record { progress = progress; outcome = outcome })) ≡ None
  decodes-more b purpose end_headers progress (Unfinished rest) e = reads-more progress.table _ _ end_headers e
  decodes-more b purpose end_headers progress (Faulty fault) e = refl

  for-more : (b : BlockView) (d : Decoding) (octets : List ℕ) (end_headers : Bool) → fragment_ignored d.purpose ≡ None → Allowed (fragment s b d octets end_headers) None
  for-more b d octets end_headers e = no-reason _ (at (ltb max_block (b.octets + length octets)))
    where
      all : Decoded
      all = decoded_with s d octets

      at : (large : Bool) → effect_ignored (cond large (Breaks BlockTooLarge) (fragment_decoded s (record b { octets = b.octets + length octets }) d.purpose end_headers all)) ≡ None
      at true = refl
      at false = decodes-more (record b { octets = b.octets + length octets }) d.purpose end_headers all.progress all.outcome e

  -- ---- blocks that are decoded for the header table alone

  reads : (progress : Progress) (b : BlockView) (d : Decoding) (ends : Bool) → d.purpose ≡ TableOnly → Allowed (fragment_read (record s { table = progress.table }) b d ends) (Some TableOnlyBlock)
  unfolding frames_of
  reads progress b d false e = has-reason _ TableOnlyBlock (record { state = refl; sent = refl }) (ap fragment_ignored e) refl
  reads progress b d true e = at (not (eqb (length d.rest) 0)) d.due
    where
      ended : (purpose : Purpose) → purpose ≡ TableOnly → Allowed (Makes (record s { table = progress.table; block = None }) (block_ends (record s { table = progress.table }) b.stream b.ends d.fields purpose)) (Some TableOnlyBlock)
      ended purpose e = subst (λ q. Allowed (Makes (record s { table = progress.table; block = None }) (block_ends (record s { table = progress.table }) b.stream b.ends d.fields q)) (Some TableOnlyBlock)) (sym e) (has-reason _ TableOnlyBlock (record { state = refl; sent = refl }) refl refl)

      at : (cut due : Bool) →
          Allowed (cond cut (Breaks BlockTruncated) (cond due (Breaks SizeUpdateMissing) (Makes (record s { table = progress.table; block = None }) (block_ends (record s { table = progress.table }) b.stream b.ends d.fields d.purpose)))) (Some TableOnlyBlock)
      at true due = is-error BlockTruncated (Some TableOnlyBlock)
      at false true = is-error SizeUpdateMissing (Some TableOnlyBlock)
      at false false = ended d.purpose e

  decodes : (b : BlockView) (ends : Bool) (progress : Progress) (outcome : Outcome) → Allowed (fragment_decoded s b TableOnly ends (record { progress = progress; outcome = outcome })) (Some TableOnlyBlock)
  decodes b ends progress (Unfinished rest) = reads progress _ _ ends refl
  decodes b ends progress (Faulty fault) = is-error _ _

  for-table : (b : BlockView) (d : Decoding) (octets : List ℕ) (ends : Bool) → d.purpose ≡ TableOnly → Allowed (fragment s b d octets ends) (Some TableOnlyBlock)
  for-table b d octets ends e = at (ltb max_block (b.octets + length octets))
    where
      all : Decoded
      all = decoded_with s d octets

      decoded : Allowed (fragment_decoded s (record b { octets = b.octets + length octets }) d.purpose ends all) (Some TableOnlyBlock)
      decoded = subst (λ q. Allowed (fragment_decoded s (record b { octets = b.octets + length octets }) q ends all) (Some TableOnlyBlock)) (sym e) (decodes (record b { octets = b.octets + length octets }) ends all.progress all.outcome)

      at : (large : Bool) → Allowed (cond large (Breaks BlockTooLarge) (fragment_decoded s (record b { octets = b.octets + length octets }) d.purpose ends all)) (Some TableOnlyBlock)
      at true = is-error BlockTooLarge (Some TableOnlyBlock)
      at false = decoded

  goes-on : (b : BlockView) (d : Decoding) (octets : List ℕ) (ends : Bool) → Allowed (fragment s b d octets ends) (fragment_ignored d.purpose)
  goes-on b d octets ends = at d.purpose refl
    where
      at : (purpose : Purpose) → d.purpose ≡ purpose → Allowed (fragment s b d octets ends) (fragment_ignored purpose)
      at Request e = for-more b d octets ends (ap fragment_ignored e)
      at Trailers e = for-more b d octets ends (ap fragment_ignored e)
      at Closed e = for-more b d octets ends (ap fragment_ignored e)
      at TableOnly e = for-table b d octets ends e

  continues : (o : Option OpenBlock) (octets : List ℕ) (ends : Bool) → Allowed (continuation s o octets ends) (block_ignored o)
  continues None octets ends = no-reason _ refl
  continues (Some b) octets ends = at b.decoding
    where
      at : (o : Option Decoding) → Allowed (continued s b.shown o octets ends) (decoding_ignored o)
      at None = no-reason _ refl
      at (Some d) = goes-on b.shown d octets ends

  opens : (h : Head) (part : HeadersPart) (purpose : Purpose) → fragment_ignored purpose ≡ None → Allowed (block_opens s purpose h part) None
  opens h part purpose e = for-more (fresh_block h) (fresh_decoding s purpose) part.fragment (has h.flags END_HEADERS) e

  begins : (h : Head) (part : HeadersPart) (kind : StreamState) → Allowed (on_headers s h part (headers_cell h.stream kind)) (where_reset TableOnlyBlock kind)
  begins h part Idle = at (eqb (h.stream % 2) 1)
    where
      at : (odd : Bool) → Allowed (on_headers s h part (cond odd (Rule Request) (Error HeadersOnEven))) None
      at true = opens h part Request refl
      at false = no-reason _ refl
  begins h part Skipped = no-reason _ refl
  begins h part BothOpen = opens h part Trailers refl
  begins h part HalfLocal = opens h part Trailers refl
  begins h part HalfRemote = opens h part Closed refl
  begins h part Ended = no-reason _ refl
  begins h part PeerReset = no-reason _ refl
  begins h part WeReset = for-table (fresh_block h) (fresh_decoding s TableOnly) part.fragment (has h.flags END_HEADERS) refl

  -- ---- a frame

  -- a part that is read, or a cause
  of-read : {A : Type 0} (h : Head) (p : List ℕ) (reason : Option Ignored) (f : A → Part) → ((a : A) → Allowed (frame_effect s h p (f a)) reason) → (r : Result A Cause) → Allowed (part_effect s h p (with_part f r)) reason
  of-read h p reason f allowed (Ok a) = allowed a
  of-read h p reason f allowed (Err cause) = is-error cause reason

  -- a part of one length, or a cause
  of-length : (h : Head) (p : List ℕ) (reason : Option Ignored) (part : Part) (cause : Cause) → Allowed (frame_effect s h p part) reason → (fits : Bool) → Allowed (part_effect s h p (cond fits (Ok part) (Err cause))) reason
  of-length h p reason part cause allowed true = allowed
  of-length h p reason part cause allowed false = is-error cause reason

  takes-settings : (r : Result Settings Cause) → IsTaken (settings_taken s.core r)
  takes-settings (Err cause) = refl
  takes-settings (Ok peer) = refl

  of-settings : (h : Head) (p : List ℕ) (pairs : List (ℕ × ℕ)) (ack : Bool) → Allowed (frame_effect s h p (settings_or_ack ack pairs)) (settings_ignored ack s.core.acked)
  unfolding settings_rule
  of-settings h p pairs true = acknowledges s.core.acked
  of-settings h p pairs false = no-reason _ (takes-settings (settings_applied s.streams s.core.peer s.core.peer pairs))

  by-reset : (st : Stream) (r : ResetRule) → IsTaken (reset_rule r s.core st)
  unfolding with_outcome
  by-reset st PeerResets = refl

  by-window : (increment : ℕ) (st : Stream) (r : WindowRule) → IsTaken (window_rule r s.core increment st)
  unfolding with_outcome
  by-window increment st MoveWindow = refl

  of-window : (h : Head) (p : List ℕ) (r : Result ℕ Cause) → Allowed (part_effect s h p (with_part OfWindowUpdate r)) (cond (eqb h.stream 0) None (window_ignored (is_zero r) (kind_at s h)))
  unfolding on_window
  of-window h p (Err cause) = is-error cause _
  of-window h p (Ok increment) =
      let st : Stream = stream_at s.core.last s.streams h.stream in
      moves-a-window increment (eqb h.stream 0) (eqb increment 0) (λ rule. window_rule rule s.core increment st) (by-window increment st) (kind_at s h)

  of-type : (h : Head) (p : List ℕ) (t : FrameType) → Allowed (part_effect s h p (part_as t h.flags p)) (frame_ignored s h p t)
  unfolding part_as on_data on_reset on_window with_outcome
  of-type h p types.Data = of-read h p _ OfData (λ part. brings-data _ _ _ (kind_at s h)) (data_part h.flags p)
  of-type h p types.Headers = of-read h p _ OfHeaders (λ part. begins h part (kind_at s h)) (headers_part h.flags p)
  of-type h p types.Priority = of-length h p _ OfPriority PriorityLength (nothing-happens Priority unchanged) (eqb (length p) 5)
  of-type h p types.RstStream = of-read h p _ OfRstStream (λ code. resets (λ rule. reset_rule rule s.core (stream_at s.core.last s.streams h.stream)) (by-reset (stream_at s.core.last s.streams h.stream)) (kind_at s h)) (reset_part p)
  of-type h p types.Settings = of-read h p _ (settings_or_ack (has h.flags ACK)) (λ pairs. of-settings h p pairs (has h.flags ACK)) (settings_part h.flags p)
  of-type h p types.PushPromise = no-reason _ refl
  of-type h p types.Ping = of-length h p _ (OfPing p) PingLength (pings p (has h.flags ACK)) (eqb (length p) 8)
  of-type h p types.Goaway = of-read h p _ (λ (g : ℕ × ℕ). OfGoaway g.0 g.1) (λ g. no-reason _ refl) (goaway_part p)
  of-type h p types.WindowUpdate = of-window h p (window_part p)
  of-type h p types.Continuation = continues s.block p (has h.flags END_HEADERS)
  of-type h p (types.Unknown kind) = nothing-happens UnknownType unchanged

  of-frame : (h : Head) (p : List ℕ) (o : Option Cause) → Allowed (checked_effect s h p o) (frame_ignored s h p (frame_type h.kind))
  of-frame h p None = of-type h p (frame_type h.kind)
  of-frame h p (Some cause) = is-error cause (frame_ignored s h p (frame_type h.kind))

of-item : (s : State) (item : Item) → Allowed s (item_effect s item) (item_ignored s item)
of-item s Preface = no-reason s _ refl
of-item s BadPreface = no-reason s _ refl
of-item s (Oversize h) = no-reason s _ refl
of-item s (WholeFrame h p) = of-frame s h p (refusal (block_stream s.block) s.core.phase h)

-- what is ignored is what is listed
pub ignored-listed : (s : State) (item : Item) → ignored_of s item ≡ ignored_as_listed s item
unfolding ignored_of ignored_as_listed cause_of
ignored-listed s item = (of-item s item).same

pub ignored-without-cause : (s : State) (item : Item) (r : Ignored) → ignored_of s item ≡ Some r → cause_of s item ≡ None
unfolding ignored_as_listed
ignored-without-cause s item r h = without-cause (cause_of s item) (item_ignored s item) r (sym (ignored-listed s item) ∙ h)

ignored-as-allowed : (s : State) (item : Item) (r : Ignored) → ignored_of s item ≡ Some r → IsIgnored r s (effect s item)
unfolding ignored_of cause_of effect
ignored-as-allowed s item r h = (of-item s item).by r (sym (of-item s item).same ∙ h)

-- where nothing changes for the reason
where-nothing : (r : Ignored) (s : State) (e : Step) → changes_nothing r ≡ true → IsIgnored r s e → IsUnchanged s e
where-nothing Priority s e k h = h
where-nothing UnknownType s e k h = h
where-nothing SecondAcknowledgement s e k h = h
where-nothing PingAcknowledgement s e k h = h
where-nothing RstStreamOnSkipped s e k h = h
where-nothing RstStreamOnClosed s e k h = h
where-nothing RstStreamOnPeerReset s e k h = h
where-nothing RstStreamOnReset s e k h = h
where-nothing WindowUpdateOnSkipped s e k h = h
where-nothing WindowUpdateOnClosed s e k h = h
where-nothing WindowUpdateOnPeerReset s e k h = h
where-nothing WindowUpdateOnReset s e k h = h
where-nothing WindowUpdateByZero s e k h = h
where-nothing DataOnReset s e k h = absurd (false≢true k)
where-nothing TableOnlyBlock s e k h = absurd (false≢true k)

pub ignored-changes-nothing : (s : State) (item : Item) (r : Ignored) → ignored_of s item ≡ Some r → changes_nothing r ≡ true → effect s item ≡ record { state = s; sent = [] }
ignored-changes-nothing s item r h k = where-nothing r s (effect s item) k (ignored-as-allowed s item r h)

pub ignored-data : (s : State) (item : Item) → ignored_of s item ≡ Some DataOnReset → OnlyReceiveWindowChanges s (effect s item)
ignored-data s item h = ignored-as-allowed s item DataOnReset h

pub ignored-block : (s : State) (item : Item) → ignored_of s item ≡ Some TableOnlyBlock → OnlyHeaderTableChanges s (effect s item)
ignored-block s item h = ignored-as-allowed s item TableOnlyBlock h
