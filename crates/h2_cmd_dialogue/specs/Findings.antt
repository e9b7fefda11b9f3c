-- What is found in a dialogue that was played: a verdict for each step, up to the first that the client did not go on from.
use Rattle.std.specs.Prelude.{ℕ, ◌+◌, ◌-◌, min, ◌&&◌, not, nat_lt, Bool, true, false, List, [], ◌∷◌, ◌++◌, length, take, drop, slice_get, unwrap_or, if◌then◌else◌, Option, Some, None}
use Rattle.std.specs.List.{list_any}
use Rattle.h2_cmd_dialogue.specs.Heard.{heard_from, is_sent, nothing_heard, reaction_to}
use Rattle.h2_cmd_dialogue.specs.Limits.{Limits}
use Rattle.h2_cmd_dialogue.specs.Plays.{Course}
use Rattle.h2_cmd_dialogue.specs.Verdicts.{best_of, is_goes_on}
use Rattle.h2_cmd_dialogue.specs.Watches.{Watched}
use Rattle.h2_cmd_dialogue.specs.Woven.{base_of}
use Rattle.h2_cmd_dialogue.specs.declared.findings.Finding.{Finding}
use Rattle.h2_cmd_dialogue.specs.declared.findings.Found.{Found}
use Rattle.h2_cmd_dialogue.specs.declared.findings.Found.TheVariants as found
use Rattle.h2_cmd_dialogue.specs.declared.heard.Ending.{Ending}
use Rattle.h2_cmd_dialogue.specs.declared.heard.Event.{Event}
use Rattle.h2_cmd_dialogue.specs.declared.heard.Event.TheVariants as event
use Rattle.h2_cmd_dialogue.specs.declared.limits.LimitFault.{LimitFault}
use Rattle.h2_cmd_dialogue.specs.declared.play.End.{End}
use Rattle.h2_cmd_dialogue.specs.declared.play.End.TheVariants as end
use Rattle.h2_cmd_dialogue.specs.declared.step.Means.{Means}
use Rattle.h2_cmd_dialogue.specs.declared.step.Means.TheVariants as means
use Rattle.h2_cmd_dialogue.specs.Steps.{SendsLine, Step}
use Rattle.h2_cmd_dialogue.specs.declared.verdict.ByLine.{ByLine}
use Rattle.h2_cmd_dialogue.specs.declared.verdict.Duty.{Duty}
use Rattle.h2_cmd_dialogue.specs.declared.verdict.Duty.TheVariants as duty
use Rattle.h2_cmd_dialogue.specs.declared.verdict.Judged.{Judged}
use Rattle.h2_cmd_dialogue.specs.declared.verdict.Judged.TheVariants.{Same, Allowed, Unsettled, Broken}
use Rattle.h2_cmd_dialogue.specs.declared.verdict.Taken.{Taken}
use Rattle.h2_cmd_dialogue.specs.declared.verdict.Taken.TheVariants as taken
use Rattle.h2_cmd_dialogue.specs.declared.verdict.WantedLine.{WantedLine}

abbrev pub finding : Judged → (line : ℕ) → Found → Finding
finding judged line f = record { judged = judged; line = line; found = f }

abbrev pub is_same : Judged → Bool
is_same Same = true
is_same Allowed = false
is_same Unsettled = false
is_same Broken = false

abbrev pub is_broken : Judged → Bool
is_broken Same = false
is_broken Allowed = false
is_broken Unsettled = false
is_broken Broken = true

-- ---- how a connection ended

abbrev pub is_closed : End → Bool
is_closed end.Closed = true
is_closed end.Silent = false
is_closed (end.ByServer code) = false
is_closed end.NoFrames = false
is_closed end.TooMuch = false
is_closed end.Late = false

abbrev pub is_silent_end : End → Bool
is_silent_end end.Closed = false
is_silent_end end.Silent = true
is_silent_end (end.ByServer code) = false
is_silent_end end.NoFrames = false
is_silent_end end.TooMuch = false
is_silent_end end.Late = false

abbrev pub is_by_server : End → Bool
is_by_server end.Closed = false
is_by_server end.Silent = false
is_by_server (end.ByServer code) = true
is_by_server end.NoFrames = false
is_by_server end.TooMuch = false
is_by_server end.Late = false

abbrev pub ended_so : End → List Finding
ended_so e = finding Broken 0 (found.Ended e) ∷ []

-- an end that is none of the client's
abbrev pub end_found : End → List Finding
end_found end.Closed = []
end_found end.Silent = []
end_found (end.ByServer code) = ended_so (end.ByServer code)
end_found end.NoFrames = ended_so end.NoFrames
end_found end.TooMuch = ended_so end.TooMuch
end_found end.Late = ended_so end.Late

abbrev pub is_goaway : Event → Bool
is_goaway event.Pong = false
is_goaway (event.Goaway code) = true
is_goaway (event.Reset stream code) = false
is_goaway (event.Sends line) = false

-- the connection is open after GOAWAY with an error (RFC 9113, 5.4.1)
abbrev pub lingers : End → List Event → Bool
lingers e events = is_silent_end e && list_any is_goaway events

-- ---- what the client did from a step on

-- the place of the first event after a step: all are before one that was not taken
abbrev pub mark_of : Watched → (step : ℕ) → ℕ
mark_of v step = unwrap_or (slice_get v.marks step) (length v.events)

abbrev pub next_place : ℕ → ℕ
next_place step = min (step + 1) 18446744073709551615

abbrev pub ending_at : Course → End → (step : ℕ) → Ending
ending_at c e step = record {
  is_closed = is_closed e;
  waits = nat_lt 0 (length c.watched.limits.unanswered);
  is_later = nat_lt (next_place step) (length c.watched.marks);
}

abbrev pub taken_from : Course → End → (step : ℕ) → (goes_on : Bool) → Taken
taken_from c e step goes_on = reaction_to (base_of c.weaving.base) goes_on
    (heard_from goes_on nothing_heard (drop (mark_of c.watched step) c.watched.events)) (ending_at c e step)

-- the first line ;! says whether the client has to go on
abbrev pub have_going_on : List WantedLine → Bool
have_going_on [] = false
have_going_on (l ∷ ls) = is_goes_on l.wanted

abbrev pub does_go_on : Taken → Bool
does_go_on taken.GoesOn = true
does_go_on (taken.Connection code) = false
does_go_on (taken.Stream reset code) = false
does_go_on taken.Closed = false
does_go_on taken.Silent = false

-- ---- lines ;<

-- the events that a line is about: all after its step, or, where nothing may be sent, those before the next one
abbrev pub events_for : Watched → (step : ℕ) → Means → List Event
events_for v step means.Frame = drop (mark_of v step) v.events
events_for v step means.Beginning = drop (mark_of v step) v.events
events_for v step means.Never = take (mark_of v (next_place step) - mark_of v step) (drop (mark_of v step) v.events)

abbrev pub holds : Means → (is_sent : Bool) → Bool
holds means.Frame sent = sent
holds means.Beginning sent = sent
holds means.Never sent = not sent

abbrev pub missed_if : Option (ℕ × Bool) → SendsLine → (is_sent : Bool) → Option (ℕ × Bool)
missed_if before l sent = if holds l.means sent then before else Some (l.line, sent)

abbrev pub missed_by : Watched → (step : ℕ) → Option (ℕ × Bool) → SendsLine → Option (ℕ × Bool)
missed_by v step before l = missed_if before l (is_sent l.line (events_for v step l.means))

-- the last line that does not hold, and whether what it means was sent
abbrev pub missed_sends : Watched → (step : ℕ) → Option (ℕ × Bool) → List SendsLine → Option (ℕ × Bool)
missed_sends v step before [] = before
missed_sends v step before (l ∷ ls) = missed_sends v step (missed_by v step before l) ls

abbrev pub missed_duty : Duty → Judged
missed_duty duty.Must = Broken
missed_duty duty.Unsettled = Allowed
missed_duty duty.Should = Allowed
missed_duty duty.May = Allowed

-- the verdict on such a line is by the first line ;! of its step
abbrev pub missed_line : List WantedLine → Judged
missed_line [] = Allowed
missed_line (l ∷ ls) = missed_duty l.duty

-- ---- steps, each with what is found, and whether the client went on from it

abbrev pub by_sends : (goes_on : Bool) → List WantedLine → Option (ℕ × Bool) → List Finding × Bool
by_sends goes_on wanted None = ([], goes_on)
by_sends goes_on wanted (Some m) =
    (finding (missed_line wanted) m.0 (found.Sends m.1) ∷ [], goes_on && not (is_broken (missed_line wanted)))

abbrev pub by_wanted : Taken → List WantedLine → Option ByLine → Option (ℕ × Bool) → List Finding × Bool
by_wanted t wanted None missed = ([], true)
by_wanted t wanted (Some b) missed =
    if is_same b.judged then by_sends (does_go_on t) wanted missed
    else (finding b.judged b.line.line (found.Reaction b.line t) ∷ [], does_go_on t && not (is_broken b.judged))

abbrev pub after_reaction : Course → (step : ℕ) → Step → Taken → List Finding × Bool
after_reaction c step s t =
    by_wanted t s.wanted (best_of t None s.wanted) (missed_sends c.watched step None s.sends)

-- a step that was taken: a reaction that no line ;! says, else a line ;< that does not hold
abbrev pub taken_found : Course → End → (step : ℕ) → Step → List Finding × Bool
taken_found c e step s = after_reaction c step s (taken_from c e step (have_going_on s.wanted))

-- a step without frames and lines ;! need not be reached
abbrev pub is_optional : Step → Bool
is_optional s = not (nat_lt 0 (length s.frames)) && not (nat_lt 0 (length s.wanted))

abbrev pub step_found : Course → End → (step : ℕ) → Step → List Finding × Bool
step_found c e step s =
    if nat_lt step c.weaving.taken then taken_found c e step s
    else if is_optional s then ([], true) else (finding Broken s.line found.Missing ∷ [], false)

-- what is found later counts where the client went on
abbrev pub and_then : List Finding × Bool → List Finding × Bool → List Finding × Bool
and_then x y = if x.1 then (x.0 ++ y.0, y.1) else x

-- these steps, the first of which has this place
abbrev pub steps_found : Course → End → (step : ℕ) → List Step → List Finding × Bool
steps_found c e step [] = ([], true)
steps_found c e step (s ∷ ss) = and_then (step_found c e step s) (steps_found c e (step + 1) ss)

-- ---- the whole dialogue

abbrev pub fault_found : Option LimitFault → (late : ℕ) → List Finding
fault_found (Some fault) late = finding Broken 0 (found.Limit fault) ∷ []
fault_found None late = if nat_lt 0 late then finding Broken 0 (found.Late late) ∷ [] else []

-- what the client did against its limits
abbrev pub limits_found : Limits → List Finding
limits_found l = fault_found l.fault l.late

-- the steps after what was found before; the limits of a client that went on from all; and that it lingers
abbrev pub with_found : Course → End → List Finding × Bool → List Finding → List Finding
with_found c e x before =
    before ++ x.0 ++ (if x.1 then limits_found c.watched.limits else [])
    ++ (if lingers e c.watched.events then finding Allowed 0 found.Lingers ∷ [] else [])

abbrev pub with_played : Course → End → List Step → List Finding → List Finding
with_played c e steps before = with_found c e (steps_found c e 0 steps) before

-- all that is found; where the server ended the connection only that
abbrev pub findings_of : Course → End → List Step → List Finding
findings_of c e steps = if is_by_server e then end_found e else with_played c e steps (end_found e)
