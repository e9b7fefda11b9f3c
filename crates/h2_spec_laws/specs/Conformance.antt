-- What this server does where a rule applies, as a peer sees it, and the least that a row of the table of rules lets it do.
use Rattle.std.specs.Prelude.{Bool, true, false, not, if◌then◌else◌, ◌&&◌}
use Rattle.h2_spec.specs.declared.accepted.Accepted.{Accepted}
use Rattle.h2_spec.specs.declared.accepted.Accepted.TheVariants.{BadPath, BadMethod, BadScheme}
use Rattle.h2_spec.specs.declared.causes.Cause.{Cause}
use Rattle.h2_spec.specs.declared.causes.Cause.TheVariants.{DataAfterEndStream, HeadersAfterEndStream, StreamWindowExceeded, StreamIncrementZero, StreamWindowOverflow, TooManyStreams, ListTooLarge, BadName, BadValue, LatePseudoField, UnknownPseudoField, DoublePseudoField, LackingPseudoField, ConnectionField, BadTe, BadContentLength, ContentMissing, ContentTooLong, ContentTooShort, TrailersWithoutEndStream, TrailersBadName, TrailersBadValue, TrailersPseudoField, TrailersConnectionField, TrailersBadTe}
use Rattle.h2_spec.specs.declared.conforming.Conforming.{Conforming}
use Rattle.h2_spec.specs.declared.conforming.Least.{Least}
use Rattle.h2_spec.specs.declared.conforming.Least.TheVariants as least
use Rattle.h2_spec.specs.declared.conforming.Observed.{Observed}
use Rattle.h2_spec.specs.declared.conforming.Observed.TheVariants.{ConnectionError, StreamError, Ignore}
use Rattle.h2_spec.specs.declared.conforming.Permission.{Permission}
use Rattle.h2_spec.specs.declared.conforming.Permission.TheVariants.{Allowed, Open, NotAllowed}
use Rattle.h2_spec.specs.declared.special_cases.SpecialCase.{SpecialCase}
use Rattle.h2_spec.specs.declared.special_cases.SpecialCase.TheVariants.{LimitNotAcknowledged, BehindContinuation, UnknownTypeInBlock, EmptyName, ConnectPseudoFields, EmptyPathOfOtherScheme, ContentLengthsDiffer, ContentLengthTooLong, UnfollowedWindow, EvenStream, DataAfterEnd, BlockAfterEnd, FirstUnknownType, PriorityLengthOnIdle, FrameTooLargeOnIdle, EmptyPath, TeOfTrailersAlone, WindowValueThenLawful, ContinuationOnEndedStream, IntegerBeyondAllTables, WindowUpdateAfterEnd}
use Rattle.h2_spec.specs.Causes.Cause.{code_of}
use Rattle.h2_spec.specs.Causes.Conforming.{names_code}
use Rattle.h2_spec.specs.Causes.Errors.{code_number}

-- whether this server resets the stream for a cause; it ends the connection for all others
abbrev pub is_of_stream : Cause → Bool
is_of_stream DataAfterEndStream = true
is_of_stream HeadersAfterEndStream = true
is_of_stream StreamWindowExceeded = true
is_of_stream StreamIncrementZero = true
is_of_stream StreamWindowOverflow = true
is_of_stream TooManyStreams = true
is_of_stream ListTooLarge = true
is_of_stream BadName = true
is_of_stream BadValue = true
is_of_stream LatePseudoField = true
is_of_stream UnknownPseudoField = true
is_of_stream DoublePseudoField = true
is_of_stream LackingPseudoField = true
is_of_stream ConnectionField = true
is_of_stream BadTe = true
is_of_stream BadContentLength = true
is_of_stream ContentMissing = true
is_of_stream ContentTooLong = true
is_of_stream ContentTooShort = true
is_of_stream TrailersWithoutEndStream = true
is_of_stream TrailersBadName = true
is_of_stream TrailersBadValue = true
is_of_stream TrailersPseudoField = true
is_of_stream TrailersConnectionField = true
is_of_stream TrailersBadTe = true
is_of_stream _ = false

-- what a peer sees for a cause
abbrev pub seen_of : Cause → Observed
seen_of cause = if is_of_stream cause then StreamError (code_number (code_of cause)) else ConnectionError (code_number (code_of cause))

-- what a peer sees for a special case
abbrev pub seen_of_case : SpecialCase → Observed
seen_of_case LimitNotAcknowledged = StreamError 7
seen_of_case BehindContinuation = ConnectionError 1
seen_of_case UnknownTypeInBlock = ConnectionError 1
seen_of_case EmptyName = StreamError 1
seen_of_case ConnectPseudoFields = StreamError 1
seen_of_case EmptyPathOfOtherScheme = StreamError 1
seen_of_case ContentLengthsDiffer = StreamError 1
seen_of_case ContentLengthTooLong = StreamError 1
seen_of_case UnfollowedWindow = StreamError 3
seen_of_case EvenStream = ConnectionError 1
seen_of_case DataAfterEnd = Ignore
seen_of_case BlockAfterEnd = Ignore
seen_of_case FirstUnknownType = ConnectionError 1
seen_of_case PriorityLengthOnIdle = ConnectionError 6
seen_of_case FrameTooLargeOnIdle = ConnectionError 6
seen_of_case EmptyPath = StreamError 1
seen_of_case TeOfTrailersAlone = StreamError 1
seen_of_case WindowValueThenLawful = ConnectionError 3
seen_of_case ContinuationOnEndedStream = ConnectionError 1
seen_of_case IntegerBeyondAllTables = ConnectionError 9
seen_of_case WindowUpdateAfterEnd = Ignore

-- whether this server does what the RFC lets a server do: not on a half-closed (local) stream, whose window does not
-- follow SETTINGS_INITIAL_WINDOW_SIZE (6.9.2), a known deviation
abbrev pub permission_of_case : SpecialCase → Permission
permission_of_case UnfollowedWindow = NotAllowed
permission_of_case _ = Allowed

-- whether it may accept what it accepts: pseudo-fields with values that are not valid are open (8.3)
abbrev pub permission_to_accept : Accepted → Permission
permission_to_accept BadPath = Open
permission_to_accept BadMethod = Open
permission_to_accept BadScheme = Open
permission_to_accept _ = Allowed

-- whether what may be done is no less than the least that has to be done
abbrev pub is_least : Least → Conforming → Bool
is_least least.Connection row = names_code row.allowed.connection && (not (names_code row.allowed.stream) && (not row.allowed.answer && (not row.allowed.ignore && not row.allowed.accept)))
is_least least.Stream row = names_code row.allowed.stream && (not row.allowed.answer && (not row.allowed.ignore && not row.allowed.accept))
is_least least.Malformed row = names_code row.allowed.stream && (row.allowed.answer && (not row.allowed.ignore && not row.allowed.accept))
is_least least.None row = true
is_least least.Ignore row = row.allowed.ignore && (not (names_code row.allowed.connection) && not (names_code row.allowed.stream))
is_least least.Accept row = row.allowed.accept && not (names_code row.allowed.stream)

abbrev pub has_its_least : Conforming → Bool
has_its_least row = is_least row.least row
