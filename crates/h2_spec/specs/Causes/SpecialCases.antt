-- What is said about the special cases of a cause or of a reason: their rows of the table of rules.
use Rattle.std.specs.Prelude.{ℕ, List, [], ◌∷◌, true, codes}
use Rattle.h2_spec.specs.declared.special_cases.SpecialCase.{SpecialCase}
use Rattle.h2_spec.specs.declared.special_cases.SpecialCase.TheVariants.{LimitNotAcknowledged, BehindContinuation, UnknownTypeInBlock, EmptyName, ConnectPseudoFields, EmptyPathOfOtherScheme, ContentLengthsDiffer, ContentLengthTooLong, UnfollowedWindow, EvenStream, DataAfterEnd, BlockAfterEnd, FirstUnknownType, PriorityLengthOnIdle, FrameTooLargeOnIdle, EmptyPath, TeOfTrailersAlone, WindowValueThenLawful, ContinuationOnEndedStream, IntegerBeyondAllTables, WindowUpdateAfterEnd}
use Rattle.h2_spec.specs.declared.conforming.Codes.TheVariants as code
use Rattle.h2_spec.specs.declared.conforming.Least.TheVariants as least
use Rattle.h2_spec.specs.declared.rules.ClientDuty.TheVariants as client_duty
use Rattle.h2_spec.specs.declared.rules.ServerDuty.TheVariants as server_duty
use Rattle.h2_spec.specs.Causes.Conforming.{besides, errors, no_reaction, only}
use Rattle.h2_spec.specs.Causes.Rules.{Row}

-- the row of a special case
unfoldable pub special_row : SpecialCase → Row
special_row LimitNotAcknowledged = record { name = codes "limit-not-acknowledged"; section = codes "RFC 9113 5.1.2"; client = client_duty.Limit; client_section = codes "RFC 9113 6.5.3"; server = server_duty.Own; conforming = only least.None (record (errors code.None (code.One 7)) { accept = true }); sentence = codes "as many streams are open as this server allows; the client has not acknowledged that limit yet" }
special_row BehindContinuation = record { name = codes "behind-continuation"; section = codes "RFC 9113 6.10"; client = client_duty.Must; client_section = codes "RFC 9113 6.10"; server = server_duty.Must; conforming = besides least.Connection (errors (code.One 1) code.None) (errors (code.One 9) code.None); sentence = codes "after a CONTINUATION without END_HEADERS only CONTINUATION on its stream may follow" }
special_row UnknownTypeInBlock = record { name = codes "unknown-type-in-block"; section = codes "RFC 9113 5.5"; client = client_duty.Breach; client_section = codes "RFC 9113 5.5"; server = server_duty.Must; conforming = only least.Connection (errors (code.One 1) code.None); sentence = codes "while a field block is open, frames of unknown types may not come either" }
special_row EmptyName = record { name = codes "empty-name"; section = codes "RFC 9113 8.2.1"; client = client_duty.Breach; client_section = codes "RFC 9110 5.1"; server = server_duty.Should; conforming = only least.None (record (errors code.None (code.One 1)) { answer = true; accept = true }); sentence = codes "the name of a field is empty" }
special_row ConnectPseudoFields = record { name = codes "connect-pseudo-fields"; section = codes "RFC 9113 8.5"; client = client_duty.Must; client_section = codes "RFC 9113 8.5"; server = server_duty.Must; conforming = only least.Malformed (record (errors code.None (code.One 1)) { answer = true }); sentence = codes "CONNECT has to have :method and :authority, and neither :scheme nor :path" }
special_row EmptyPathOfOtherScheme = record { name = codes "empty-path-of-other-scheme"; section = codes "RFC 9113 8.3.1"; client = client_duty.Nothing; client_section = codes "RFC 9113 8.3.1"; server = server_duty.Own; conforming = only least.None (record (errors code.None (code.One 1)) { answer = true; accept = true }); sentence = codes ":path is empty, which is forbidden for http and https alone" }
special_row ContentLengthsDiffer = record { name = codes "content-lengths-differ"; section = codes "RFC 9113 8.1.1"; client = client_duty.MustNot; client_section = codes "RFC 9110 5.3"; server = server_duty.Must; conforming = besides least.Malformed (record (errors code.None (code.One 1)) { answer = true; wait = true }) (record no_reaction { accept = true }); sentence = codes "content-length is there twice with different numbers" }
special_row ContentLengthTooLong = record { name = codes "content-length-too-long"; section = codes "RFC 9110 8.6"; client = client_duty.Limit; client_section = codes "RFC 9110 8.6"; server = server_duty.Own; conforming = only least.None (record (errors code.None (code.One 1)) { answer = true; accept = true; wait = true }); sentence = codes "content-length has more than 18 digits" }
special_row UnfollowedWindow = record { name = codes "unfollowed-window"; section = codes "RFC 9113 6.9.2"; client = client_duty.Nothing; client_section = codes "RFC 9113 6.9.2"; server = server_duty.Must; conforming = only least.Accept (record no_reaction { accept = true }); sentence = codes "on a half-closed (local) stream this server's send window does not follow SETTINGS_INITIAL_WINDOW_SIZE: the client's own count may allow the increment" }
special_row EvenStream = record { name = codes "even-stream"; section = codes "RFC 9113 5.1"; client = client_duty.Must; client_section = codes "RFC 9113 5.1.1"; server = server_duty.Must; conforming = besides least.Connection (errors (code.One 1) code.None) (errors (code.One 5) (code.One 5)); sentence = codes "the streams of a client have odd identifiers: an even one is always idle" }
special_row DataAfterEnd = record { name = codes "data-after-end"; section = codes "RFC 9113 5.1"; client = client_duty.Breach; client_section = codes "RFC 9113 5.1"; server = server_duty.Own; conforming = only least.None (record (errors (code.One 5) (code.One 5)) { ignore = true }); sentence = codes "the client had ended the stream before the server reset it: DATA counts for the connection's window and no more" }
special_row BlockAfterEnd = record { name = codes "block-after-end"; section = codes "RFC 9113 5.1"; client = client_duty.Breach; client_section = codes "RFC 9113 5.1"; server = server_duty.Own; conforming = only least.None (record (errors (code.One 5) (code.One 5)) { ignore = true }); sentence = codes "the client had ended the stream before the server reset it: the block changes the header table and no more" }
special_row FirstUnknownType = record { name = codes "first-unknown-type"; section = codes "RFC 9113 3.4"; client = client_duty.Must; client_section = codes "RFC 9113 3.4"; server = server_duty.Own; conforming = only least.None (record (errors (code.One 1) code.None) { ignore = true }); sentence = codes "the first frame after the preface has to be SETTINGS, but a frame of an unknown type has to be ignored" }
special_row PriorityLengthOnIdle = record { name = codes "priority-length-on-idle"; section = codes "RFC 9113 6.3"; client = client_duty.Breach; client_section = codes "RFC 9113 6.3"; server = server_duty.Own; conforming = besides least.None (record (errors (code.One 6) code.None) { ignore = true }) (errors code.None (code.One 6)); sentence = codes "PRIORITY has to have 5 octets; on an idle stream RST_STREAM may not be sent for it" }
special_row FrameTooLargeOnIdle = record { name = codes "frame-too-large-on-idle"; section = codes "RFC 9113 4.2"; client = client_duty.MustNot; client_section = codes "RFC 9113 4.1"; server = server_duty.Own; conforming = besides least.None (record (errors (code.One 6) code.None) { ignore = true; wait = true }) (errors code.None (code.One 6)); sentence = codes "the frame is longer than this server takes; on an idle stream RST_STREAM may not be sent for it" }
special_row EmptyPath = record { name = codes "empty-path"; section = codes "RFC 9113 8.3.1"; client = client_duty.MustNot; client_section = codes "RFC 9113 8.3.1"; server = server_duty.Must; conforming = besides least.Malformed (record (errors code.None (code.One 1)) { answer = true }) (record no_reaction { accept = true }); sentence = codes ":path is empty, which is forbidden for http and https" }
special_row TeOfTrailersAlone = record { name = codes "te-of-trailers-alone"; section = codes "RFC 9113 8.2.2"; client = client_duty.Nothing; client_section = codes "RFC 9113 8.2.2"; server = server_duty.Own; conforming = only least.None (record (errors code.None (code.One 1)) { answer = true; accept = true }); sentence = codes "te has no member but trailers: it is empty, or has it more than once" }
special_row WindowValueThenLawful = record { name = codes "window-value-then-lawful"; section = codes "RFC 9113 6.5.3"; client = client_duty.Breach; client_section = codes "RFC 9113 6.5.2"; server = server_duty.Must; conforming = besides least.Connection (errors (code.One 3) code.None) (record no_reaction { accept = true }); sentence = codes "SETTINGS_INITIAL_WINDOW_SIZE has to be 2147483647 or less; the last one of the frame is" }
special_row ContinuationOnEndedStream = record { name = codes "continuation-on-ended-stream"; section = codes "RFC 9113 6.10"; client = client_duty.Must; client_section = codes "RFC 9113 6.10"; server = server_duty.Must; conforming = only least.Connection (errors (code.Two 1 5) code.None); sentence = codes "no field block is open that CONTINUATION could continue, and the client can send no field block on the stream any more" }
special_row IntegerBeyondAllTables = record { name = codes "integer-beyond-all-tables"; section = codes "RFC 7541 2.3.3"; client = client_duty.Breach; client_section = codes "RFC 7541 2.3.3"; server = server_duty.Must; conforming = only least.Connection (errors (code.One 9) code.None); sentence = codes "an integer is above each index, length and size that a server can take" }
special_row WindowUpdateAfterEnd = record { name = codes "window-update-after-end"; section = codes "RFC 9113 6.9"; client = client_duty.MustNot; client_section = codes "RFC 9113 5.1"; server = server_duty.Must; conforming = besides least.Ignore (record no_reaction { ignore = true }) (errors (code.One 5) (code.One 5)); sentence = codes "the client has reset the stream, but had ended it before: WINDOW_UPDATE may follow END_STREAM" }

-- all special cases, in the order of the code
unfoldable pub all_special_cases : List SpecialCase
all_special_cases =
    LimitNotAcknowledged ∷ BehindContinuation ∷ UnknownTypeInBlock ∷ EmptyName ∷ ConnectPseudoFields ∷
    EmptyPathOfOtherScheme ∷ ContentLengthsDiffer ∷ ContentLengthTooLong ∷ UnfollowedWindow ∷ EvenStream ∷
    DataAfterEnd ∷ BlockAfterEnd ∷ FirstUnknownType ∷ PriorityLengthOnIdle ∷ FrameTooLargeOnIdle ∷
    EmptyPath ∷ TeOfTrailersAlone ∷ WindowValueThenLawful ∷
    ContinuationOnEndedStream ∷ IntegerBeyondAllTables ∷ WindowUpdateAfterEnd ∷ []
