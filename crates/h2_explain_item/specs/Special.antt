-- Which special case an error or an ignored frame is, and what is printed of its rule: the row of the special case, or
-- that of the cause or the reason (h2_spec's CauseWords, IgnoredWords and SpecialCases).
use Rattle.std.specs.Prelude.{◌≡◌, Bool, true, false, ◌%◌, ◌==◌, ◌&&◌, if◌then◌else◌, Option, Some, None}
use Rattle.h2_spec.specs.declared.causes.Cause.{Cause}
use Rattle.h2_spec.specs.declared.causes.Cause.TheVariants.{BlockInterrupted, DataOnIdle, RstStreamOnIdle, WindowUpdateOnIdle, StreamWindowOverflow, TooManyStreams, BadName, LackingPseudoField, BadTe, BadContentLength, TrailersBadName, TrailersBadTe, FirstNotSettings, PriorityLength, StreamFrameTooLarge, InitialWindowSizeValue, ContinuationOutsideBlock, IntegerTooLong}
use Rattle.h2_spec.specs.declared.frames.FrameType.{FrameType}
use Rattle.h2_spec.specs.declared.frames.FrameType.TheVariants as types
use Rattle.h2_spec.specs.declared.frames.Head.{Head}
use Rattle.h2_spec.specs.declared.ignored.Ignored.{Ignored}
use Rattle.h2_spec.specs.declared.ignored.Ignored.TheVariants.{DataOnReset, TableOnlyBlock, WindowUpdateOnPeerReset}
use Rattle.h2_spec.specs.declared.special_cases.SpecialCase.{SpecialCase}
use Rattle.h2_spec.specs.declared.special_cases.SpecialCase.TheVariants.{LimitNotAcknowledged, BehindContinuation, UnknownTypeInBlock, EmptyName, ConnectPseudoFields, EmptyPathOfOtherScheme, ContentLengthsDiffer, ContentLengthTooLong, UnfollowedWindow, EvenStream, DataAfterEnd, BlockAfterEnd, FirstUnknownType, PriorityLengthOnIdle, FrameTooLargeOnIdle, EmptyPath, TeOfTrailersAlone, WindowValueThenLawful, ContinuationOnEndedStream, IntegerBeyondAllTables, WindowUpdateAfterEnd}
use Rattle.h2_spec.specs.declared.streams.Stream.{Stream}
use Rattle.h2_spec.specs.declared.streams.StreamState.{StreamState}
use Rattle.h2_spec.specs.declared.streams.StreamState.TheVariants.{Idle, Skipped, BothOpen, HalfRemote, HalfLocal, Ended, PeerReset, WeReset}
use Rattle.h2_spec.specs.Causes.CauseWords.{row_of}
use Rattle.h2_spec.specs.Frames.FrameType.{frame_type}
use Rattle.h2_spec.specs.Causes.IgnoredWords.{reason_row}
use Rattle.h2_spec.specs.Causes.Rules.{Row}
use Rattle.h2_spec.specs.Causes.SpecialCases.{special_row}
use Rattle.h2_explain_item.specs.Item.{head_in}
use Rattle.h2_explain_item.specs.declared.item.Explained.{Explained}
use Rattle.h2_explain_item.specs.declared.diagnosis.field_facts.FieldFacts.{FieldFacts}
use Rattle.h2_explain_item.specs.declared.diagnosis.special.CaseFacts.{CaseFacts}
use Rattle.h2_explain_item.specs.declared.diagnosis.special.Seen.{Seen}

-- this case, where it is so
abbrev pub case_if : Bool → SpecialCase → Option SpecialCase
case_if true case = Some case
case_if false case = None

-- whether a stream is half-closed (local) (5.1)
abbrev pub is_half_local : StreamState → Bool
is_half_local Idle = false
is_half_local Skipped = false
is_half_local BothOpen = false
is_half_local HalfRemote = false
is_half_local HalfLocal = true
is_half_local Ended = false
is_half_local PeerReset = false
is_half_local WeReset = false

-- whether a stream is idle (5.1)
abbrev pub is_idle : StreamState → Bool
is_idle Idle = true
is_idle Skipped = false
is_idle BothOpen = false
is_idle HalfRemote = false
is_idle HalfLocal = false
is_idle Ended = false
is_idle PeerReset = false
is_idle WeReset = false

-- whether a stream is half-closed (remote) or closed: the client can send no block on it (5.1)
abbrev pub is_closed_to_client : StreamState → Bool
is_closed_to_client Idle = false
is_closed_to_client Skipped = true
is_closed_to_client BothOpen = false
is_closed_to_client HalfRemote = true
is_closed_to_client HalfLocal = false
is_closed_to_client Ended = true
is_closed_to_client PeerReset = true
is_closed_to_client WeReset = true

-- whether a type is not known (4.1)
abbrev pub is_unknown : FrameType → Bool
is_unknown types.Data = false
is_unknown types.Headers = false
is_unknown types.Priority = false
is_unknown types.RstStream = false
is_unknown types.Settings = false
is_unknown types.PushPromise = false
is_unknown types.Ping = false
is_unknown types.Goaway = false
is_unknown types.WindowUpdate = false
is_unknown types.Continuation = false
is_unknown (types.Unknown kind) = true

-- whether an item is a frame of a type that is not known
abbrev pub is_unknown_frame : Option Head → Bool
is_unknown_frame None = false
is_unknown_frame (Some h) = is_unknown (frame_type h.kind)

-- whether frames of a type may be on an idle stream and open none: PRIORITY (6.3), and types that are not known (5.5)
abbrev pub is_allowed_on_idle : FrameType → Bool
is_allowed_on_idle types.Data = false
is_allowed_on_idle types.Headers = false
is_allowed_on_idle types.Priority = true
is_allowed_on_idle types.RstStream = false
is_allowed_on_idle types.Settings = false
is_allowed_on_idle types.PushPromise = false
is_allowed_on_idle types.Ping = false
is_allowed_on_idle types.Goaway = false
is_allowed_on_idle types.WindowUpdate = false
is_allowed_on_idle types.Continuation = false
is_allowed_on_idle (types.Unknown kind) = true

-- the same of an item
abbrev pub may_be_on_idle : Option Head → Bool
may_be_on_idle None = false
may_be_on_idle (Some h) = is_allowed_on_idle (frame_type h.kind)

-- an interrupted field block (5.5, 6.2, 6.10)
abbrev pub interrupted_case : (unknown continued : Bool) → Option SpecialCase
interrupted_case true continued = Some UnknownTypeInBlock
interrupted_case false continued = case_if continued BehindContinuation

-- whether no pseudo-field of a request is missing, and the path is empty (8.3.1)
abbrev pub is_path_alone_empty : FieldFacts → Bool
is_path_alone_empty f = f.method && f.scheme && f.empty_path

-- pseudo-fields that lack (8.3.1, 8.5)
abbrev pub lacking_case : FieldFacts → Option SpecialCase
lacking_case f =
    if f.connect then Some ConnectPseudoFields
    else if f.other_scheme then case_if (is_path_alone_empty f) EmptyPathOfOtherScheme
    else case_if (is_path_alone_empty f) EmptyPath

-- a content-length that is not taken (8.1.1): where all are numbers of at most 18 digits, two differ; where all are numbers,
-- one has more
abbrev pub length_case : FieldFacts → Option SpecialCase
length_case f = if f.short_lengths then Some ContentLengthsDiffer else case_if f.numeric_lengths ContentLengthTooLong

-- what an item shows of whether its rule is a special case: the head of its frame, its stream before it, and whether the
-- client had acknowledged the server's SETTINGS
abbrev pub seen_by : Option Head → Stream → Bool → Seen
seen_by head st acked = record {
  unknown_type = is_unknown_frame head;
  even_stream = st.id % 2 == 0;
  half_local = is_half_local st.kind;
  on_idle = may_be_on_idle head && is_idle st.kind;
  closed_to_client = is_closed_to_client st.kind;
  acked = acked;
}

abbrev pub seen_of : Explained → Seen
seen_of x = seen_by (head_in x.what) x.before.stream x.before.counts.acked

-- the special case of a cause, if it is one
abbrev pub case_of_cause : Cause → Seen → CaseFacts → Option SpecialCase
case_of_cause BlockInterrupted s f = interrupted_case s.unknown_type f.continued
case_of_cause DataOnIdle s f = case_if s.even_stream EvenStream
case_of_cause RstStreamOnIdle s f = case_if s.even_stream EvenStream
case_of_cause WindowUpdateOnIdle s f = case_if s.even_stream EvenStream
case_of_cause StreamWindowOverflow s f = case_if s.half_local UnfollowedWindow
case_of_cause TooManyStreams s f = if s.acked then None else Some LimitNotAcknowledged
case_of_cause BadName s f = case_if f.fields.empty_names EmptyName
case_of_cause TrailersBadName s f = case_if f.fields.empty_names EmptyName
case_of_cause LackingPseudoField s f = lacking_case f.fields
case_of_cause BadTe s f = case_if f.fields.trailers_alone TeOfTrailersAlone
case_of_cause TrailersBadTe s f = case_if f.fields.trailers_alone TeOfTrailersAlone
case_of_cause BadContentLength s f = length_case f.fields
case_of_cause FirstNotSettings s f = case_if s.unknown_type FirstUnknownType
case_of_cause PriorityLength s f = case_if s.on_idle PriorityLengthOnIdle
case_of_cause StreamFrameTooLarge s f = case_if s.on_idle FrameTooLargeOnIdle
case_of_cause InitialWindowSizeValue s f = case_if f.lawful_window WindowValueThenLawful
case_of_cause ContinuationOutsideBlock s f = case_if s.closed_to_client ContinuationOnEndedStream
case_of_cause IntegerTooLong s f = case_if f.beyond_tables IntegerBeyondAllTables
case_of_cause _ s f = None

abbrev pub special_cause : Cause → Explained → CaseFacts → Option SpecialCase
special_cause cause x f = case_of_cause cause (seen_of x) f

-- the special case of a reason to ignore a frame, if it is one
abbrev pub special_reason : Ignored → (after_end : Bool) → Option SpecialCase
special_reason DataOnReset after_end = case_if after_end DataAfterEnd
special_reason TableOnlyBlock after_end = case_if after_end BlockAfterEnd
special_reason WindowUpdateOnPeerReset after_end = case_if after_end WindowUpdateAfterEnd
special_reason _ after_end = None

-- the special case of an item's error, if it has one
abbrev pub error_case : Option Cause → Explained → CaseFacts → Option SpecialCase
error_case None x f = None
error_case (Some cause) x f = special_cause cause x f

abbrev pub case_of_error : Explained → CaseFacts → Option SpecialCase
case_of_error x f = error_case x.cause x f

-- the special case of why an item is ignored, if it has one
abbrev pub ignored_case : Option Ignored → CaseFacts → Option SpecialCase
ignored_case None f = None
ignored_case (Some reason) f = special_reason reason f.after_end

abbrev pub case_of_reason : Explained → CaseFacts → Option SpecialCase
case_of_reason x f = ignored_case x.ignored f

-- that of an error with this cause, else of a frame that is ignored for this reason, by what the item shows
abbrev pub case_by : Option Cause → Option Ignored → Seen → CaseFacts → Option SpecialCase
case_by (Some cause) ignored s f = case_of_cause cause s f
case_by None ignored s f = ignored_case ignored f

-- the causes that can be special cases
abbrev pub has_cases : Cause → Bool
has_cases BlockInterrupted = true
has_cases DataOnIdle = true
has_cases RstStreamOnIdle = true
has_cases WindowUpdateOnIdle = true
has_cases StreamWindowOverflow = true
has_cases TooManyStreams = true
has_cases BadName = true
has_cases TrailersBadName = true
has_cases LackingPseudoField = true
has_cases BadTe = true
has_cases TrailersBadTe = true
has_cases BadContentLength = true
has_cases FirstNotSettings = true
has_cases PriorityLength = true
has_cases StreamFrameTooLarge = true
has_cases InitialWindowSizeValue = true
has_cases ContinuationOutsideBlock = true
has_cases IntegerTooLong = true
has_cases _ = false

-- the reasons that can be
abbrev pub has_reason_cases : Ignored → Bool
has_reason_cases DataOnReset = true
has_reason_cases TableOnlyBlock = true
has_reason_cases WindowUpdateOnPeerReset = true
has_reason_cases _ = false

-- the row of the special case, or this one
abbrev pub row_or : Row → Option SpecialCase → Row
row_or row None = row
row_or row (Some case) = special_row case

-- what is printed of the rule of a cause
abbrev pub rule_of_cause : Cause → Option SpecialCase → Row
rule_of_cause cause case = row_or (row_of cause) case

-- what is printed of the rule of a reason
abbrev pub rule_of_reason : Ignored → Option SpecialCase → Row
rule_of_reason reason case = row_or (reason_row reason) case
