-- Warnings: what a client may not do and this server lets pass. They change no frame and no state.
use Rattle.std.specs.Prelude.{◌≡◌, ℕ, ◌+◌, ◌%◌, ℤ, pos, int_lt, Bool, true, false, ◌&&◌, not, ◌==◌, if◌then◌else◌, List, [], ◌∷◌, codes, nat_lt, Option, Some, None, is_some}
use Rattle.h2_spec.specs.declared.causes.Cause.{Cause}
use Rattle.h2_spec.specs.declared.connection.ConnectionState.{ConnectionState}
use Rattle.h2_spec.specs.declared.connection.Phase.{Phase}
use Rattle.h2_spec.specs.declared.connection.Phase.TheVariants.{Preface, Settings, Running, Ended}
use Rattle.h2_spec.specs.Frames.FrameType.{DATA, END_STREAM, GOAWAY, has}
use Rattle.h2_spec.specs.declared.frames.Head.{Head}
use Rattle.h2_spec.specs.declared.ignored.Ignored.{Ignored}
use Rattle.h2_spec.specs.declared.ignored.Ignored.TheVariants.{WindowUpdateByZero}
use Rattle.h2_spec.specs.declared.rules.ClientDuty.{ClientDuty}
use Rattle.h2_spec.specs.declared.rules.ClientDuty.TheVariants as client_duty
use Rattle.h2_spec.specs.declared.streams.StreamState.{StreamState}
use Rattle.h2_spec.specs.declared.streams.StreamState.TheVariants.{Idle, Skipped, BothOpen, HalfRemote, HalfLocal, PeerReset, WeReset}
use Rattle.h2_spec.specs.declared.streams.StreamState.TheVariants as kind
use Rattle.h2_explain_item.specs.FrameFacts.{frame_facts}
use Rattle.h2_explain_item.specs.Item.{head_in}
use Rattle.h2_explain_item.specs.Notes.{is_opened}
use Rattle.h2_explain_item.specs.Special.{rule_of_cause, rule_of_reason, special_cause, special_reason}
use Rattle.h2_explain_item.specs.declared.item.Explained.{Explained}
use Rattle.h2_explain_item.specs.declared.diagnosis.frame_facts.FrameFacts.{FrameFacts}
use Rattle.h2_explain_item.specs.declared.diagnosis.request_facts.BlockFacts.{BlockFacts}
use Rattle.h2_explain_item.specs.declared.diagnosis.request_facts.RequestFacts.{RequestFacts}
use Rattle.h2_explain_item.specs.declared.diagnosis.run_facts.RunFacts.{RunFacts}
use Rattle.h2_explain_item.specs.declared.diagnosis.special.CaseFacts.{CaseFacts}
use Rattle.h2_explain_item.specs.declared.diagnosis.warning.Warning.{Warning}
use Rattle.h2_explain_item.specs.declared.diagnosis.warning.Warning.TheVariants.{BadMethod, BadScheme, BadPath, Userinfo, EmptyAuthority, NoAuthority, HostTwice, HostDiffers, LengthTwice, NameNoToken, ManySizeUpdates, PaddingNotZero, ReservedBit, UndefinedFlags, ConnectProtocolValue, StreamAfterGoaway, AfterErrorGoaway, GoawayRaised, GoawayOddStream, OnClosedStream, IncrementOfZero, SentBeforeGranted, SentBeforeAcknowledged, DataOnNegativeWindow, ManyEmptyContinuations, SettingsNotAcknowledged, AnswerUnfinished}
use Rattle.h2_explain_item.specs.declared.diagnosis.warning.Warnings.{Warnings}

-- ---- what is printed of a warning

-- its name, the section that has the rule, and the rule in a sentence
pub record WarningRow : Type 0 where
  pub name : List ℕ
  pub section : List ℕ
  pub sentence : List ℕ

unfoldable pub warning_row : Warning → WarningRow
warning_row BadMethod = record { name = codes "bad-method"; section = codes "RFC 9110 9.1"; sentence = codes ":method has to be a token: it is empty, or has an octet that no token has" }
warning_row BadScheme = record { name = codes "bad-scheme"; section = codes "RFC 3986 3.1"; sentence = codes ":scheme has to be a letter, and then letters, digits, +, - and ." }
warning_row BadPath = record { name = codes "bad-path"; section = codes "RFC 9113 8.3.1"; sentence = codes ":path of http and https has to begin with /, or to be * with OPTIONS" }
warning_row Userinfo = record { name = codes "userinfo"; section = codes "RFC 9113 8.3.1"; sentence = codes ":authority of http and https must not have userinfo, which an @ ends" }
warning_row EmptyAuthority = record { name = codes "empty-authority"; section = codes "RFC 9113 8.3.1"; sentence = codes ":authority is empty; without an authority it has to be left out" }
warning_row NoAuthority = record { name = codes "no-authority"; section = codes "RFC 9113 8.3.1"; sentence = codes "a request of http or https has to have :authority or the field host" }
warning_row HostTwice = record { name = codes "host-twice"; section = codes "RFC 9110 5.3"; sentence = codes "the field host is there more than once" }
warning_row HostDiffers = record { name = codes "host-differs"; section = codes "RFC 9113 8.3.1"; sentence = codes "the field host is other than :authority" }
warning_row LengthTwice = record { name = codes "content-length-twice"; section = codes "RFC 9110 5.3"; sentence = codes "the field content-length is there more than once, with the same number" }
warning_row NameNoToken = record { name = codes "name-no-token"; section = codes "RFC 9110 5.1"; sentence = codes "a field name has to be a token, and one of this block has an octet that no token has" }
warning_row ManySizeUpdates = record { name = codes "many-size-updates"; section = codes "RFC 7541 4.2"; sentence = codes "a field block has at most two table size updates: the smallest, and then the last" }
warning_row PaddingNotZero = record { name = codes "padding-not-zero"; section = codes "RFC 9113 6.1"; sentence = codes "the octets of padding have to be 0" }
warning_row ReservedBit = record { name = codes "reserved-bit"; section = codes "RFC 9113 4.1"; sentence = codes "the reserved bit of a frame, the one before the stream, has to be 0" }
warning_row UndefinedFlags = record { name = codes "undefined-flags"; section = codes "RFC 9113 4.1"; sentence = codes "flags that the type of the frame does not define have to be 0" }
warning_row ConnectProtocolValue = record { name = codes "connect-protocol-value"; section = codes "RFC 8441 3"; sentence = codes "ENABLE_CONNECT_PROTOCOL has to be 0 or 1" }
warning_row StreamAfterGoaway = record { name = codes "stream-after-goaway"; section = codes "RFC 9113 6.8"; sentence = codes "the client opens a stream after its own GOAWAY, which shuts the connection down" }
warning_row AfterErrorGoaway = record { name = codes "after-error-goaway"; section = codes "RFC 9113 5.4.1"; sentence = codes "the client's own GOAWAY had an error code: after it the client has to close the connection, and sends nothing" }
warning_row GoawayRaised = record { name = codes "goaway-raised"; section = codes "RFC 9113 6.8"; sentence = codes "the last stream of this GOAWAY is above that of the client's GOAWAY before" }
warning_row GoawayOddStream = record { name = codes "goaway-odd-stream"; section = codes "RFC 9113 6.8"; sentence = codes "GOAWAY of a client names a stream that the server opened, which is even, or 0" }
warning_row OnClosedStream = record { name = codes "on-closed-stream"; section = codes "RFC 9113 5.1"; sentence = codes "the client itself had closed the stream, or its side of it, before it sent this frame" }
warning_row IncrementOfZero = record { name = codes "increment-of-zero"; section = codes "RFC 9113 6.9"; sentence = codes "the increment of WINDOW_UPDATE has to be 1 or more" }
warning_row SentBeforeGranted = record { name = codes "sent-before-granted"; section = codes "RFC 9113 6.9"; sentence = codes "this DATA was sent before the WINDOW_UPDATE that it needs: one read had more of it than was granted before that read" }
warning_row SentBeforeAcknowledged = record { name = codes "sent-before-acknowledged"; section = codes "RFC 9113 6.5.3"; sentence = codes "this DATA needs a WINDOW_UPDATE that came after the server's SETTINGS, and the client has not acknowledged these" }
warning_row DataOnNegativeWindow = record { name = codes "data-on-negative-window"; section = codes "RFC 9113 6.9.2"; sentence = codes "the window of the stream is negative: until it is positive, DATA may only end the stream, with no octets" }
warning_row ManyEmptyContinuations = record { name = codes "many-empty-continuations"; section = codes "RFC 9113 10.5.1"; sentence = codes "more than 100 CONTINUATION frames of this block are empty" }
warning_row SettingsNotAcknowledged = record { name = codes "settings-not-acknowledged"; section = codes "RFC 9113 6.5.3"; sentence = codes "the input ends, and the client has not acknowledged the server's SETTINGS" }
warning_row AnswerUnfinished = record { name = codes "answer-unfinished"; section = codes "RFC 9113 6.9"; sentence = codes "the input ends while an answer waits for WINDOW_UPDATE" }

abbrev pub warning_name : Warning → List ℕ
warning_name w = (warning_row w).name

abbrev pub warning_section : Warning → List ℕ
warning_section w = (warning_row w).section

abbrev pub warning_sentence : Warning → List ℕ
warning_sentence w = (warning_row w).sentence

-- all warnings, in the order of the code
unfoldable pub all_warnings : List Warning
all_warnings =
    BadMethod ∷ BadScheme ∷ BadPath ∷ Userinfo ∷ EmptyAuthority ∷ NoAuthority ∷ HostTwice ∷ HostDiffers ∷ LengthTwice ∷ NameNoToken ∷ ManySizeUpdates ∷ PaddingNotZero ∷ ReservedBit ∷ UndefinedFlags ∷ ConnectProtocolValue ∷ StreamAfterGoaway ∷ AfterErrorGoaway ∷ GoawayRaised ∷ GoawayOddStream ∷ OnClosedStream ∷ IncrementOfZero ∷ SentBeforeGranted ∷ SentBeforeAcknowledged ∷ DataOnNegativeWindow ∷ ManyEmptyContinuations ∷ SettingsNotAcknowledged ∷ AnswerUnfinished ∷ []

-- ---- which warnings an item gets

-- whether these have a warning
abbrev pub has_warning : Warnings → Warning → Bool
has_warning ws BadMethod = ws.request.bad_method
has_warning ws BadScheme = ws.request.bad_scheme
has_warning ws BadPath = ws.request.bad_path
has_warning ws Userinfo = ws.request.userinfo
has_warning ws EmptyAuthority = ws.request.empty_authority
has_warning ws NoAuthority = ws.request.no_authority
has_warning ws HostTwice = ws.request.host_twice
has_warning ws HostDiffers = ws.request.host_differs
has_warning ws LengthTwice = ws.request.length_twice
has_warning ws NameNoToken = ws.block.name_no_token
has_warning ws ManySizeUpdates = ws.block.many_updates
has_warning ws PaddingNotZero = ws.frame.padding
has_warning ws ReservedBit = ws.frame.reserved_bit
has_warning ws UndefinedFlags = ws.frame.flags
has_warning ws ConnectProtocolValue = ws.frame.connect_protocol
has_warning ws StreamAfterGoaway = ws.after_goaway
has_warning ws AfterErrorGoaway = ws.after_error
has_warning ws GoawayRaised = ws.goaway_raised
has_warning ws GoawayOddStream = ws.goaway_odd
has_warning ws OnClosedStream = ws.on_closed
has_warning ws IncrementOfZero = ws.zero_increment
has_warning ws SentBeforeGranted = ws.run.sent_early
has_warning ws SentBeforeAcknowledged = ws.run.sent_unacknowledged
has_warning ws DataOnNegativeWindow = ws.on_negative
has_warning ws ManyEmptyContinuations = ws.run.many_empty
has_warning ws SettingsNotAcknowledged = ws.unacknowledged
has_warning ws AnswerUnfinished = ws.answer_unfinished

-- how many warnings these are
abbrev pub one_if : Bool → ℕ
one_if false = 0
one_if true = 1

abbrev pub request_count : RequestFacts → ℕ
request_count r =
    one_if r.bad_method + one_if r.bad_scheme + one_if r.bad_path + one_if r.userinfo + one_if r.empty_authority + one_if r.no_authority
    + one_if r.host_twice + one_if r.host_differs + one_if r.length_twice

abbrev pub block_count : BlockFacts → ℕ
block_count b = one_if b.name_no_token + one_if b.many_updates

abbrev pub frame_count : FrameFacts → ℕ
frame_count f = one_if f.padding + one_if f.reserved_bit + one_if f.flags + one_if f.connect_protocol

-- those that are rules which the client broke
abbrev pub broken_count : Warnings → ℕ
broken_count ws =
    request_count ws.request + block_count ws.block + frame_count ws.frame + one_if ws.run.sent_early + one_if ws.run.sent_unacknowledged
    + one_if ws.after_error + one_if ws.goaway_raised + one_if ws.goaway_odd + one_if ws.on_closed + one_if ws.zero_increment + one_if ws.on_negative

-- those that are notes: the client opens a stream after its GOAWAY, which binds only who receives it (6.8); there are many
-- empty frames in a block (10.5.1); the input ends early (6.5.3, 6.9)
abbrev pub note_count : Warnings → ℕ
note_count ws = one_if ws.after_goaway + one_if ws.run.many_empty + one_if ws.unacknowledged + one_if ws.answer_unfinished

abbrev pub warning_count : Warnings → ℕ
warning_count ws = broken_count ws + note_count ws

-- nothing is wrong with a request, or with a block
abbrev pub no_request_facts : RequestFacts
no_request_facts = record {
  bad_method = false;
  bad_scheme = false;
  bad_path = false;
  userinfo = false;
  empty_authority = false;
  no_authority = false;
  host_twice = false;
  host_differs = false;
  length_twice = false;
}

abbrev pub no_block_facts : BlockFacts
no_block_facts = record { name_no_token = false; many_updates = false }

-- whether a stream opens (5.1)
abbrev pub is_opening : StreamState → StreamState → Bool
is_opening Idle after = is_opened after
is_opening Skipped after = false
is_opening BothOpen after = false
is_opening HalfRemote after = false
is_opening HalfLocal after = false
is_opening kind.Ended after = false
is_opening PeerReset after = false
is_opening WeReset after = false

-- whether there is no error
abbrev pub is_no_error : Option Cause → Bool
is_no_error None = true
is_no_error (Some cause) = false

-- whether an item opens a stream, and is no error
abbrev pub opens_stream : Explained → Bool
opens_stream x = is_no_error x.cause && is_opening x.before.stream.kind x.after.stream.kind

-- whether the client broke a rule
abbrev pub is_breach : ClientDuty → Bool
is_breach client_duty.MustNot = true
is_breach client_duty.Must = true
is_breach client_duty.Breach = true
is_breach client_duty.Limit = false
is_breach client_duty.Nothing = false

-- what the client did, by the rule of an error, and by that of a reason to ignore a frame
abbrev pub duty_of_error : Option Cause → Explained → CaseFacts → ClientDuty
duty_of_error None x f = client_duty.Nothing
duty_of_error (Some cause) x f = (rule_of_cause cause (special_cause cause x f)).client

abbrev pub duty_of_reason : Option Ignored → CaseFacts → ClientDuty
duty_of_reason None f = client_duty.Nothing
duty_of_reason (Some reason) f = (rule_of_reason reason (special_reason reason f.after_end)).client

-- whether a frame is ignored whose increment is 0
abbrev pub is_zero_increment : Option Ignored → Bool
is_zero_increment None = false
is_zero_increment (Some WindowUpdateByZero) = true
is_zero_increment (Some _) = false

-- whether a frame comes after a GOAWAY with an error code, after which its sender closes the connection (5.4.1)
abbrev pub is_after_error : Option Head → Option (ℕ × ℕ) → Bool
is_after_error h None = false
is_after_error h (Some goaway) = is_some h && not (goaway.1 == 0)

-- whether the last stream of a GOAWAY is above that of the one before (6.8)
abbrev pub is_raised : Option (ℕ × ℕ) → Option (ℕ × ℕ) → Bool
is_raised None after = false
is_raised (Some before) None = false
is_raised (Some before) (Some after) = nat_lt before.0 after.0

-- whether a frame is GOAWAY, and whether the last stream of one is odd, and so the client's own (5.1.1, 6.8)
abbrev pub is_goaway : Option Head → Bool
is_goaway None = false
is_goaway (Some h) = h.kind == GOAWAY

abbrev pub is_odd : Option (ℕ × ℕ) → Bool
is_odd None = false
is_odd (Some goaway) = goaway.0 % 2 == 1

-- whether a frame is DATA without octets, which does not end the stream (6.1)
abbrev pub is_empty_data : Option Head → Bool
is_empty_data None = false
is_empty_data (Some h) = (h.kind == DATA && h.length == 0) && not (has h.flags END_STREAM)

-- whether a window is negative (6.9.2)
abbrev pub is_below_zero : ℤ → Bool
is_below_zero w = int_lt w (pos 0)

-- whether an item is such DATA while the window of its stream is negative, and no error: until the window is positive,
-- only DATA that ends the stream may come without octets (6.9.1, 6.9.2)
abbrev pub is_on_negative : Explained → Bool
is_on_negative x = (is_no_error x.cause && is_empty_data (head_in x.what)) && is_below_zero x.before.stream.numbers.recv

-- the warnings of an item; what decides the special case of its rule is given, and what is wrong with the request of its
-- block (8.3.1), with the block, and by what came before. A frame is ignored on a stream that the client itself closed (5.1), or
-- its increment is 0 (6.9)
abbrev pub warnings_of : Explained → CaseFacts → RequestFacts → BlockFacts → RunFacts → Warnings
warnings_of x f r b run = record {
  request = if opens_stream x then r else no_request_facts;
  block = if is_no_error x.cause then b else no_block_facts;
  frame = frame_facts x;
  run = run;
  after_goaway = opens_stream x && is_some x.before.counts.goaway;
  after_error = is_after_error (head_in x.what) x.before.counts.goaway;
  goaway_raised = is_raised x.before.counts.goaway x.after.counts.goaway;
  goaway_odd = (is_no_error x.cause && is_goaway (head_in x.what)) && is_odd x.after.counts.goaway;
  on_closed = is_breach (duty_of_reason x.ignored f) && not (is_zero_increment x.ignored);
  zero_increment = is_zero_increment x.ignored;
  on_negative = is_on_negative x;
  unacknowledged = false;
  answer_unfinished = false;
}

-- the warnings of an item, of whatever is wrong with its fields, and by whatever came before
abbrev pub AreWarnings : Explained → CaseFacts → Warnings → Type 0
AreWarnings x f ws = (r : RequestFacts) × (b : BlockFacts) × (run : RunFacts) × (ws ≡ warnings_of x f r b run)

-- ---- the warnings at the end

-- whether connections in this phase have taken the client's first SETTINGS, and go on
abbrev pub is_running : Phase → Bool
is_running Preface = false
is_running Settings = false
is_running Running = true
is_running (Ended code) = false

-- whether the client has not acknowledged the server's SETTINGS (6.5.3)
abbrev pub is_unacknowledged : ConnectionState → Bool
is_unacknowledged core = is_running core.phase && not core.acked
