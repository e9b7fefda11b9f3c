-- The verdict on a server beside an item: what it does is what this server does, or what the rule of the item lets a server
-- do, or what is open, or none of these (RFC 9113, 5.4 and 8.1.1).
use Rattle.std.specs.Prelude.{ℕ, ◌==◌, ◌&&◌, ◌||◌, Bool, true, false, not, nat_le, nat_lt, if◌then◌else◌, is_some, Option, Some, None}
use Rattle.h2_spec.specs.declared.accepted.Accepted.{Accepted}
use Rattle.h2_spec.specs.declared.accepted.Accepted.TheVariants.{Goaway, SettingsNotAcknowledged}
use Rattle.h2_spec.specs.declared.conforming.Conforming.{Conforming}
use Rattle.h2_spec.specs.declared.conforming.Observed.{Observed}
use Rattle.h2_spec.specs.declared.conforming.Observed.TheVariants.{ConnectionError, StreamError, Close, Answer, Ignore, Accept, Wait, Http1}
use Rattle.h2_spec.specs.declared.conforming.Permission.{Permission}
use Rattle.h2_spec.specs.declared.conforming.Permission.TheVariants as permitted
use Rattle.h2_spec.specs.Causes.AcceptedWords.{accepted_row}
use Rattle.h2_spec.specs.Causes.Conforming.{allows}
use Rattle.h2_cmd_judge.specs.Events.{is_behind, plus}
use Rattle.h2_cmd_judge.specs.declared.event.Condition.{Condition}
use Rattle.h2_cmd_judge.specs.declared.event.Condition.TheVariants as condition
use Rattle.h2_cmd_judge.specs.declared.event.Item.{Item}
use Rattle.h2_cmd_judge.specs.declared.event.Shown.{Shown}
use Rattle.h2_cmd_judge.specs.declared.judge.Ending.{Ending}
use Rattle.h2_cmd_judge.specs.declared.judge.Peer.{Peer}
use Rattle.h2_cmd_judge.specs.declared.judge.Reaction.{Reaction}
use Rattle.h2_cmd_judge.specs.declared.judge.Reaction.TheVariants.{One, Served, Either, Refused, Quiet, Pending, Waiting, Silent, SilentWaiting, Missing, Closed, AfterGoaway, TimedOut}
use Rattle.h2_cmd_judge.specs.declared.judge.Unseen.{Unseen}
use Rattle.h2_cmd_judge.specs.declared.judge.Unseen.TheVariants.{ConnectionEnded, OtherState, LongerFrames, LargerWindows, KnowsProtocol}
use Rattle.h2_cmd_judge.specs.declared.judge.Verdict.{Verdict}
use Rattle.h2_cmd_judge.specs.declared.judge.Verdict.TheVariants.{Same, Allowed, Doubtful, Broken, Skipped}

-- ---- what is permitted

-- the better of two permissions
abbrev pub better : Permission → Permission → Permission
better permitted.Allowed other = permitted.Allowed
better permitted.Open permitted.Allowed = permitted.Allowed
better permitted.Open permitted.Open = permitted.Open
better permitted.Open permitted.NotAllowed = permitted.Open
better permitted.NotAllowed other = other

-- what is allowed is open, since it is not known whether it was done
abbrev pub at_most_open : Permission → Permission
at_most_open permitted.Allowed = permitted.Open
at_most_open permitted.Open = permitted.Open
at_most_open permitted.NotAllowed = permitted.NotAllowed

-- whether a reaction is allowed where something is accepted
abbrev pub accepted_permission : Accepted → Observed → Permission
accepted_permission accepted seen = allows (accepted_row accepted).conforming seen

-- whether a reaction is permitted: of what looks the same, the best
abbrev pub permission : Conforming → Reaction → Permission
permission rule (One seen) = allows rule seen
permission rule Served = allows rule Accept
-- a lawful request gets the same status, so it is not known whether the rule was seen
permission rule Either = better (allows rule Accept) (at_most_open (allows rule Answer))
permission rule Refused = allows rule Answer
permission rule Quiet = better (allows rule Ignore) (allows rule Accept)
-- a server that has handed a request on may still answer it with 400 or more: no section says by when (RFC 9113, 8.1.1)
permission rule Pending = better (allows rule Ignore) (better (allows rule Accept) (at_most_open (allows rule Answer)))
permission rule Waiting = better (allows rule Wait) (better (allows rule Ignore) (allows rule Accept))
permission rule Silent = permitted.NotAllowed
permission rule SilentWaiting = allows rule Wait
permission rule Missing = allows rule Ignore
-- an endpoint can end a connection at any time (RFC 9113, 5.4.1)
permission rule Closed = better (allows rule Close) permitted.Open
-- after the client's GOAWAY it may end it (6.8), and with SETTINGS_TIMEOUT where its SETTINGS are not acknowledged (6.5.3)
permission rule AfterGoaway = accepted_permission Goaway Close
permission rule TimedOut = accepted_permission SettingsNotAcknowledged (ConnectionError 4)

-- the verdict by a permission
abbrev pub by_permission : Permission → Verdict
by_permission permitted.Allowed = Allowed
by_permission permitted.Open = Doubtful
by_permission permitted.NotAllowed = Broken

-- ---- what is seen

-- the error on a stream that was seen
abbrev pub stream_error_of : Option ℕ → Option Observed
stream_error_of (Some code) = Some (StreamError code)
stream_error_of None = None

-- the error of the connection that was seen, or else another
abbrev pub connection_error_or : Option ℕ → Option Observed → Option Observed
connection_error_or (Some code) other = Some (ConnectionError code)
connection_error_or None other = other

-- the error that was seen: that of the connection, which ends all, first
abbrev pub error_of : Shown → Option Observed
error_of s = connection_error_or s.goaway (stream_error_of s.reset)

-- whether an error is one of the connection with this code
abbrev pub is_connection_error : ℕ → Observed → Bool
is_connection_error a (ConnectionError b) = a == b
is_connection_error a (StreamError b) = false
is_connection_error a Close = false
is_connection_error a Answer = false
is_connection_error a Ignore = false
is_connection_error a Accept = false
is_connection_error a Wait = false
is_connection_error a Http1 = false

-- whether an error is one of the stream with this code
abbrev pub is_stream_error : ℕ → Observed → Bool
is_stream_error a (ConnectionError b) = false
is_stream_error a (StreamError b) = a == b
is_stream_error a Close = false
is_stream_error a Answer = false
is_stream_error a Ignore = false
is_stream_error a Accept = false
is_stream_error a Wait = false
is_stream_error a Http1 = false

-- whether two errors are the same
abbrev pub is_same_error : Observed → Observed → Bool
is_same_error (ConnectionError a) other = is_connection_error a other
is_same_error (StreamError a) other = is_stream_error a other
is_same_error Close other = false
is_same_error Answer other = false
is_same_error Ignore other = false
is_same_error Accept other = false
is_same_error Wait other = false
is_same_error Http1 other = false

-- whether a connection was closed after an item, and before the next that is judged
abbrev pub is_closed_behind : Item → Option ℕ → Bool
is_closed_behind item (Some after) = is_behind item after
is_closed_behind item None = false

-- whether it was closed before the item
abbrev pub is_closed_before : Item → Option ℕ → Bool
is_closed_before item (Some after) = nat_lt after item.low
is_closed_before item None = false

-- whether a PING at the end was not answered
abbrev pub is_dead : Option Bool → Bool
is_dead (Some answers) = not answers
is_dead None = false

-- nothing is seen: nothing more is to come, or more may come
abbrev pub quiet : Item → Ending → Reaction
quiet item ending =
    if is_dead ending.answers then (if item.waits then SilentWaiting else Silent)
    else if item.waits then Waiting
    else if item.is_begun then Pending
    else Quiet

-- an answer with this status; a lawful request gets the other one
abbrev pub answer_reaction : Peer → (status : ℕ) → Reaction
answer_reaction peer status =
    if nat_lt status 400 then Served
    else if status == peer.status then Either
    else Refused

-- nothing of an error is seen
abbrev pub without_error : Item → Option ℕ → Ending → Peer → Reaction
without_error item (Some status) ending peer = answer_reaction peer status
without_error item None ending peer = if is_closed_behind item ending.closed then One Close else quiet item ending

-- what is seen where an error is due
abbrev pub reaction_with : Option Observed → Item → Shown → Ending → Peer → Reaction
reaction_with (Some error) item s ending peer = One error
reaction_with None item s ending peer = if ending.http1 then One Http1 else without_error item s.answered ending peer

-- ---- what can't be judged

-- a reason, where it holds
abbrev pub excused_if : Bool → Unseen → Option Unseen
excused_if true why = Some why
excused_if false why = None

-- why a server can't break a rule: it gives more than this server does
abbrev pub excuse : Condition → (own theirs : Shown) → Peer → Option Unseen
excuse condition.Always own theirs peer = None
excuse (condition.Frame length) own theirs peer = excused_if (nat_le length peer.frame) LongerFrames
excuse (condition.Windows all some) own theirs peer =
    excused_if (nat_le all (plus 65535 theirs.credit) && nat_le some (plus peer.window theirs.stream_credit)) LargerWindows
excuse condition.Protocol own theirs peer = excused_if peer.protocol KnowsProtocol
excuse condition.Streams own theirs peer = excused_if (not (own.ends == theirs.ends)) OtherState

-- two values of which both or none hold
abbrev pub is_equal : Bool → Bool → Bool
is_equal true b = b
is_equal false b = not b

-- whether one server had reset the stream of an item and the other had not, or, where both had not, one had ended it (5.1)
abbrev pub is_other_state : (own theirs : Shown) → Bool
is_other_state own theirs =
    not (is_equal own.had_reset theirs.had_reset) || (not own.had_reset && not (is_equal own.had_ended theirs.had_ended))

-- why a server can't be judged beside an item: its connection had ended, or its stream had another state than that of this
-- server, since the stream's state is the peer's
abbrev pub why_unseen : Item → (own theirs : Shown) → Ending → Peer → Option Unseen
why_unseen item own theirs ending peer =
    if theirs.was_over || is_closed_before item ending.closed then Some ConnectionEnded
    else if is_other_state own theirs then Some OtherState
    else excuse item.condition own theirs peer

-- ---- the verdict

-- whether a reaction is this error
abbrev pub is_error : Observed → Reaction → Bool
is_error own (One seen) = is_same_error own seen
is_error own Served = false
is_error own Either = false
is_error own Refused = false
is_error own Quiet = false
is_error own Pending = false
is_error own Waiting = false
is_error own Silent = false
is_error own SilentWaiting = false
is_error own Missing = false
is_error own Closed = false
is_error own AfterGoaway = false
is_error own TimedOut = false

-- the verdict where this server has an error
abbrev pub error_verdict : Conforming → Observed → Reaction → Verdict
error_verdict rule own seen = if is_error own seen then Same else by_permission (permission rule seen)

-- whether SETTINGS is not acknowledged
abbrev pub lacks_acknowledgement : Option ℕ → (count : ℕ) → Bool
lacks_acknowledgement (Some due) count = nat_lt count due
lacks_acknowledgement None count = false

-- whether a verdict is that a server may do what it does
abbrev pub is_allowed_or_same : Verdict → Bool
is_allowed_or_same Same = true
is_allowed_or_same Allowed = true
is_allowed_or_same Doubtful = false
is_allowed_or_same Broken = false
is_allowed_or_same (Skipped why) = false

-- whether the connection ended after an item, by an error or as the server closed it
abbrev pub is_over_behind : Item → Shown → Option ℕ → Bool
is_over_behind item theirs (Some after) = theirs.is_over || nat_le item.low after
is_over_behind item theirs None = theirs.is_over

-- whether a request is not answered that this server answers: nobody owes an answer on a connection that has ended
abbrev pub lacks_answer : Item → (own theirs : Shown) → (closed : Option ℕ) → Bool
lacks_answer item own theirs closed =
    item.is_owed && (is_some own.answered && (not theirs.answered_before && not (is_over_behind item theirs closed)))

-- whether something is not answered that this server answers
abbrev pub is_missing : Item → (own theirs : Shown) → (closed : Option ℕ) → Bool
is_missing item own theirs closed =
    lacks_acknowledgement item.settings theirs.acknowledged || ((own.pong && not theirs.pong) || lacks_answer item own theirs closed)

-- whether an error is a connection error with SETTINGS_TIMEOUT
abbrev pub is_timeout : Observed → Bool
is_timeout (ConnectionError code) = code == 4
is_timeout (StreamError code) = false
is_timeout Close = false
is_timeout Answer = false
is_timeout Ignore = false
is_timeout Accept = false
is_timeout Wait = false
is_timeout Http1 = false

-- an error where none is due: SETTINGS_TIMEOUT where the client has not acknowledged the server's SETTINGS (6.5.3), or this one
abbrev pub undue_error : Item → Observed → Reaction
undue_error item error = if is_timeout error && not item.is_acknowledged then TimedOut else One error

-- the end of the connection where no error is due
abbrev pub undue_end : Item → Reaction
undue_end item = if item.has_goaway then AfterGoaway else Closed

-- what is seen where no error is due, if it is something else than what this server does
abbrev pub lawful_reaction : Option Observed → Item → (own theirs : Shown) → Ending → Option Reaction
lawful_reaction (Some error) item own theirs ending = Some (undue_error item error)
lawful_reaction None item own theirs ending =
    if ending.http1 then Some (One Http1)
    else if is_closed_behind item ending.closed then Some (undue_end item)
    else if is_missing item own theirs ending.closed then Some Missing
    else if item.is_last && (not item.waits && is_dead ending.answers) then Some Silent
    else if not own.pong && theirs.pong then Some Served
    else None

-- the verdict where no error is due
abbrev pub lawful_verdict : Conforming → Option Reaction → Verdict
lawful_verdict rule (Some seen) = by_permission (permission rule seen)
lawful_verdict rule None = Same

-- the verdict by what this server does
abbrev pub verdict_by : Option Observed → Item → (own theirs : Shown) → Ending → Peer → Verdict
verdict_by (Some error) item own theirs ending peer = error_verdict item.rule error (reaction_with (error_of theirs) item theirs ending peer)
verdict_by None item own theirs ending peer = lawful_verdict item.rule (lawful_reaction (error_of theirs) item own theirs ending)

-- a verdict, where one can be given
abbrev pub verdict_unless : Option Unseen → Verdict → Verdict
verdict_unless (Some why) verdict = Skipped why
verdict_unless None verdict = verdict

-- the verdict on a server of which this is seen beside an item, where that is seen of this server
abbrev pub judged : Item → (own theirs : Shown) → Ending → Peer → Verdict
judged item own theirs ending peer = verdict_unless (why_unseen item own theirs ending peer) (verdict_by (error_of own) item own theirs ending peer)

-- a verdict where the RFC leaves a server more than the row of the rule says: then nothing is called broken
abbrev pub softened : Bool → Verdict → Verdict
softened is_left Broken = if is_left then Doubtful else Broken
softened is_left Same = Same
softened is_left Allowed = Allowed
softened is_left Doubtful = Doubtful
softened is_left (Skipped why) = Skipped why

-- the worse of two verdicts; what is skipped counts before what is the same
abbrev pub worse : Verdict → Verdict → Verdict
worse Broken other = Broken
worse Doubtful Broken = Broken
worse Doubtful Doubtful = Doubtful
worse Doubtful Allowed = Doubtful
worse Doubtful Same = Doubtful
worse Doubtful (Skipped why) = Doubtful
worse Allowed Broken = Broken
worse Allowed Doubtful = Doubtful
worse Allowed Allowed = Allowed
worse Allowed Same = Allowed
worse Allowed (Skipped why) = Allowed
worse Same Broken = Broken
worse Same Doubtful = Doubtful
worse Same Allowed = Allowed
worse Same Same = Same
worse Same (Skipped why) = Skipped why
worse (Skipped why) Broken = Broken
worse (Skipped why) Doubtful = Doubtful
worse (Skipped why) Allowed = Allowed
worse (Skipped why) Same = Skipped why
worse (Skipped why) (Skipped other) = Skipped why
