-- Reactions of other servers, and whether a row allows them: by the words of the RFC.
use Rattle.std.specs.Prelude.{◌≡◌, List, [], ◌∷◌, map, refl}
use Rattle.h2_spec.specs.declared.conforming.Conforming.{Conforming}
use Rattle.h2_spec.specs.declared.conforming.Observed.{Observed}
use Rattle.h2_spec.specs.declared.conforming.Observed.TheVariants.{ConnectionError, StreamError, Close, Answer, Ignore, Accept, Wait, Http1}
use Rattle.h2_spec.specs.declared.conforming.Permission.{Permission}
use Rattle.h2_spec.specs.declared.conforming.Permission.TheVariants.{Allowed, Open, NotAllowed}
use Rattle.h2_spec.specs.declared.accepted.Accepted.TheVariants as accepted
use Rattle.h2_spec.specs.declared.causes.Cause.TheVariants as cause
use Rattle.h2_spec.specs.declared.ignored.Ignored.TheVariants as ignored
use Rattle.h2_spec.specs.declared.special_cases.SpecialCase.TheVariants as special
use Rattle.h2_spec.specs.Causes.AcceptedWords.{accepted_row}
use Rattle.h2_spec.specs.Causes.CauseWords.{row_of}
use Rattle.h2_spec.specs.Causes.Conforming.{allows}
use Rattle.h2_spec.specs.Causes.IgnoredWords.{reason_row}
use Rattle.h2_spec.specs.Causes.SpecialCases.{special_row}

-- whether each of these reactions is allowed
each : Conforming → List Observed → List Permission
each row = map (allows row)

-- a connection error MUST be (3.4); any code may be a generic one (5.4), and GOAWAY be left out (5.4.1)
preface : each (row_of cause.BadPreface).conforming (ConnectionError 1 ∷ ConnectionError 2 ∷ ConnectionError 6 ∷ Close ∷ Wait ∷ Http1 ∷ Ignore ∷ StreamError 1 ∷ [])
    ≡ (Allowed ∷ Allowed ∷ Open ∷ Allowed ∷ Allowed ∷ Allowed ∷ NotAllowed ∷ NotAllowed ∷ [])
unfolding each row_of
preface = refl

-- a stream error at least (6.3), which can be a connection error (5.4.1)
priority_length : each (row_of cause.PriorityLength).conforming (StreamError 6 ∷ ConnectionError 6 ∷ StreamError 1 ∷ StreamError 5 ∷ Ignore ∷ Accept ∷ [])
    ≡ (Allowed ∷ Allowed ∷ Allowed ∷ Open ∷ NotAllowed ∷ NotAllowed ∷ [])
unfolding each row_of
priority_length = refl

-- malformed: a stream error, or an answer first (8.1.1)
bad_name : each (row_of cause.BadName).conforming (StreamError 1 ∷ Answer ∷ ConnectionError 1 ∷ Accept ∷ Ignore ∷ Wait ∷ [])
    ≡ (Allowed ∷ Allowed ∷ Allowed ∷ NotAllowed ∷ NotAllowed ∷ NotAllowed ∷ [])
unfolding each row_of
bad_name = refl

-- 5.1 names a connection error, 6.1 a stream error of STREAM_CLOSED
data_on_idle : each (row_of cause.DataOnIdle).conforming (ConnectionError 1 ∷ ConnectionError 5 ∷ StreamError 5 ∷ Ignore ∷ [])
    ≡ (Allowed ∷ Allowed ∷ Open ∷ NotAllowed ∷ [])
unfolding each row_of
data_on_idle = refl

-- 5.1 names an error and minimal processing
data_on_closed : each (row_of cause.DataOnClosed).conforming (ConnectionError 5 ∷ StreamError 5 ∷ Ignore ∷ Close ∷ Accept ∷ [])
    ≡ (Allowed ∷ Allowed ∷ Allowed ∷ Allowed ∷ NotAllowed ∷ [])
unfolding each row_of
data_on_closed = refl

-- PRIORITY can be sent in any state (6.3): it is no error
priority : each (reason_row ignored.Priority).conforming (Ignore ∷ ConnectionError 5 ∷ ConnectionError 11 ∷ StreamError 5 ∷ Close ∷ [])
    ≡ (Allowed ∷ NotAllowed ∷ Open ∷ NotAllowed ∷ NotAllowed ∷ [])
unfolding each reason_row
priority = refl

-- whether PING with ACK is an error is not said (6.7)
ping_acknowledgement : each (reason_row ignored.PingAcknowledgement).conforming (Ignore ∷ ConnectionError 1 ∷ Accept ∷ [])
    ≡ (Allowed ∷ Allowed ∷ NotAllowed ∷ [])
unfolding each reason_row
ping_acknowledgement = refl

-- a window of a half-closed (local) stream follows SETTINGS_INITIAL_WINDOW_SIZE (6.9.2): no error is allowed
unfollowed_window : each (special_row special.UnfollowedWindow).conforming (Accept ∷ StreamError 3 ∷ ConnectionError 3 ∷ [])
    ≡ (Allowed ∷ NotAllowed ∷ NotAllowed ∷ [])
unfolding each special_row
unfollowed_window = refl

-- padding that is not zero MAY be a connection error (6.1); unknown settings MUST be ignored (6.5.2)
accepted_items : (each (accepted_row accepted.PaddingNotZero).conforming (Accept ∷ ConnectionError 1 ∷ StreamError 1 ∷ []) ≡ (Allowed ∷ Allowed ∷ NotAllowed ∷ []))
    × (each (accepted_row accepted.UnknownSetting).conforming (Accept ∷ ConnectionError 1 ∷ []) ≡ (Allowed ∷ NotAllowed ∷ []))
unfolding each accepted_row
accepted_items = (refl, refl)
