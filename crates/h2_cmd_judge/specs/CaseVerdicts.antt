-- The verdict on a server in a case: the worst of those beside its items, or broken by what belongs to no item.
use Rattle.std.specs.Prelude.{ℕ, ◌==◌, ◌&&◌, ◌||◌, not, nat_lt, if◌then◌else◌, is_some, List, [], ◌∷◌, map, Option, Some, None}
use Rattle.std.specs.Option.{option_or}
use Rattle.h2_spec.specs.declared.conforming.Observed.{Observed}
use Rattle.h2_cmd_judge.specs.Events.{shown_by}
use Rattle.h2_cmd_judge.specs.Judges.{error_of, judged, lawful_reaction, reaction_with, softened, worse}
use Rattle.h2_cmd_judge.specs.declared.case.Due.{Due}
use Rattle.h2_cmd_judge.specs.declared.case.Finding.{Finding}
use Rattle.h2_cmd_judge.specs.declared.event.Event.{Event}
use Rattle.h2_cmd_judge.specs.declared.event.Event.TheVariants.{Goaway, Reset, Answered, Ended, Acknowledged, Pong, Credit, Unreadable}
use Rattle.h2_cmd_judge.specs.declared.event.Item.{Item}
use Rattle.h2_cmd_judge.specs.declared.event.Seen.{Seen}
use Rattle.h2_cmd_judge.specs.declared.event.Shown.{Shown}
use Rattle.h2_cmd_judge.specs.declared.judge.Ending.{Ending}
use Rattle.h2_cmd_judge.specs.declared.judge.Peer.{Peer}
use Rattle.h2_cmd_judge.specs.declared.judge.Reaction.{Reaction}
use Rattle.h2_cmd_judge.specs.declared.judge.Verdict.{Verdict}
use Rattle.h2_cmd_judge.specs.declared.judge.Verdict.TheVariants.{Same, Broken}

-- what is found in a case
pub record Judgement : Type 0 where
  pub verdict : Verdict
  pub findings : List Finding
  pub stray : Option ℕ
  pub unreadable : Option ℕ

-- ---- what belongs to no item

-- a stream is reset by an error, and no frame of the client is on it or on a higher one (RFC 9113, 6.4)
abbrev pub stray_in : (highest : ℕ) → Event → Option ℕ
stray_in highest (Goaway code) = None
stray_in highest (Reset stream code) = if not (code == 0) && nat_lt highest stream then Some stream else None
stray_in highest (Answered stream status ends) = None
stray_in highest (Ended stream) = None
stray_in highest Acknowledged = None
stray_in highest (Pong octets) = None
stray_in highest (Credit stream octets) = None
stray_in highest (Unreadable stream) = None

-- the first one
abbrev pub stray_of : (highest : ℕ) → List Seen → Option ℕ
stray_of highest [] = None
stray_of highest (e ∷ es) = option_or (stray_in highest e.event) (stray_of highest es)

-- a field block that can't be read (4.3)
abbrev pub unreadable_in : Event → Option ℕ
unreadable_in (Goaway code) = None
unreadable_in (Reset stream code) = None
unreadable_in (Answered stream status ends) = None
unreadable_in (Ended stream) = None
unreadable_in Acknowledged = None
unreadable_in (Pong octets) = None
unreadable_in (Credit stream octets) = None
unreadable_in (Unreadable stream) = Some stream

-- the first one
abbrev pub unreadable_of : List Seen → Option ℕ
unreadable_of [] = None
unreadable_of (e ∷ es) = option_or (unreadable_in e.event) (unreadable_of es)

-- ---- beside an item

-- what the server did, where this server has this error, or none
abbrev pub seen_with : Option Observed → Item → (own theirs : Shown) → Ending → Peer → Option Reaction
seen_with (Some error) item own theirs ending peer = Some (reaction_with (error_of theirs) item theirs ending peer)
seen_with None item own theirs ending peer = lawful_reaction (error_of theirs) item own theirs ending

abbrev pub found_with : Due → (own theirs : Shown) → Ending → Peer → Finding
found_with due own theirs ending peer = record {
  verdict = softened due.is_left (judged due.item own theirs ending peer);
  own = error_of own;
  seen = seen_with (error_of own) due.item own theirs ending peer;
  elsewhere = theirs.elsewhere;
}

-- what is found beside an item, by what this server does in the case and what the server did
abbrev pub found_beside : (own theirs : List Seen) → Ending → Peer → Due → Finding
found_beside own theirs ending peer due = found_with due (shown_by due.item own) (shown_by due.item theirs) ending peer

-- ---- in the case

-- the worse of two verdicts, where there is one before
abbrev pub worse_or : Option Verdict → Verdict → Verdict
worse_or (Some before) verdict = worse before verdict
worse_or None verdict = verdict

-- the worst of a verdict and those of findings
abbrev pub worst_after : Option Verdict → List Finding → Option Verdict
worst_after before [] = before
worst_after before (f ∷ fs) = worst_after (Some (worse_or before f.verdict)) fs

abbrev pub worst : List Finding → Option Verdict
worst findings = worst_after None findings

-- where no item is judged, nothing was done otherwise
abbrev pub or_same : Option Verdict → Verdict
or_same (Some verdict) = verdict
or_same None = Same

abbrev pub case_verdict : List Finding → (stray unreadable : Option ℕ) → Verdict
case_verdict findings stray unreadable = if is_some stray || is_some unreadable then Broken else or_same (worst findings)

abbrev pub judgement_with : List Finding → (stray unreadable : Option ℕ) → Judgement
judgement_with findings stray unreadable = record { verdict = case_verdict findings stray unreadable; findings = findings; stray = stray; unreadable = unreadable }

-- the verdict on a server that did `theirs`, where this server does `own`
abbrev pub judgement : List Due → (highest : ℕ) → (own theirs : List Seen) → Ending → Peer → Judgement
judgement dues highest own theirs ending peer =
    judgement_with (map (found_beside own theirs ending peer) dues) (stray_of highest theirs) (unreadable_of theirs)
