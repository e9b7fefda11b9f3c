-- A connection that is explained over all octets: its result, and what is written.
use Rattle.std.specs.Prelude.{◌≡◌, ◌⊎◌, ℕ, ◌+◌, ◌++◌, Bool, true, false, not, ◌&&◌, ◌||◌, ◌==◌, nat_lt, if◌then◌else◌, List, [], ◌∷◌, length, drop, Option, Some, None, is_some, option_map, Result, Ok, Err}
use Rattle.h2_spec.specs.Causes.Errors.{code_number}
use Rattle.h2_spec.specs.Frames.Parse.{Stop}
use Rattle.h2_spec.specs.State.{State, ended_code}
use Rattle.h2_spec.specs.Trace.{Run, next_event, trace}
use Rattle.h2_conn.specs.Connection.{Connection}
use Rattle.h2_explain_step.specs.Explained.{ExplainsItem, IsTextOf, stream_in}
use Rattle.h2_explain_text.specs.Lines.{EndsLine, EndsLineIf}
use Rattle.h2_explain_text.specs.Rest.{is_said}
use Rattle.h2_explain_item.specs.Item.{head_in}
use Rattle.h2_explain_item.specs.Warnings.{AreWarnings, warning_count}
use Rattle.h2_explain_item.specs.declared.item.Explained.{Explained}
use Rattle.h2_explain_item.specs.declared.diagnosis.special.CaseFacts.{CaseFacts}
use Rattle.h2_explain_item.specs.declared.diagnosis.warning.Warnings.{Warnings}
use Rattle.h2_explain.specs.declared.verdict.ClientVerdict.{ClientVerdict}
use Rattle.h2_explain.specs.TallyWords.{EndsWithTally}
use Rattle.h2_explain.specs.Verdicts.{IsVerdict, Tallied, TalliesItem, no_tally, verdict_at}
use Rattle.h2_explain.specs.declared.run.ExplainFault.{ExplainFault}
use Rattle.h2_explain.specs.declared.run.ExplainFault.TheVariants.{NoMemory, NotWritten}
use Rattle.h2_explain.specs.declared.run.Form.{Form}
use Rattle.h2_explain.specs.declared.run.Summary.{Summary}

-- how many items a run had, the code of the connection error that ended it, if one did, and what is said about the
-- client
abbrev pub summary_of : Run → ClientVerdict → Summary
summary_of run verdict = record { items = length run.events; ended = option_map code_number (ended_code run.state.core.phase); verdict = verdict }

-- the same of the run of a connection over octets
abbrev pub summary_over : State → List ℕ → ClientVerdict → Summary
summary_over s octets verdict = summary_of (trace s octets) verdict

-- what is summed up of a run
abbrev pub IsSummary : State → List ℕ → Summary → Type 0
IsSummary s octets summary = (summary ≡ summary_over s octets summary.verdict) × IsVerdict s octets summary.verdict

-- what sums up a connection of which this was counted, in this state, after that many items, with that many octets left; where
-- nobody is blamed since an item, what was counted is all that is said
abbrev pub summary_since : (since : Option ℕ) → Tallied → State → (items left : ℕ) → Summary
summary_since None t s items left = record { items = items; ended = option_map code_number (ended_code s.core.phase); verdict = verdict_at t s left }
summary_since (Some since) t s items left = record {
  items = items;
  ended = None;
  verdict = record { broken = t.broken; limited = t.limited; unfinished = false };
}

-- whether a write failed
abbrev pub not_written : {A : Type 0} → Result A ExplainFault → Bool
not_written (Ok x) = false
not_written (Err NoMemory) = false
not_written (Err NotWritten) = true

-- ---- what is written

-- the output gained a text of which P holds
abbrev pub Gains : (List ℕ → Type 0) → Option (List ℕ) → Option (List ℕ) → Type 0
Gains P before after = (held : List ℕ) → before ≡ Some held → (text : List ℕ) × (after ≡ Some (held ++ text)) × P text

-- whether a stream is shown: each, unless one is named
abbrev pub shows_stream : Option ℕ → ℕ → Bool
shows_stream None id = true
shows_stream (Some only) id = only == id

-- whether an item is an error, is ignored, or has a warning
abbrev pub is_notable : Explained → Warnings → Bool
is_notable x ws = is_some x.cause || (is_some x.ignored || nat_lt 0 (warning_count ws))

-- whether an item with these warnings is shown
abbrev pub shows_item : Form → Explained → Warnings → Bool
shows_item form x ws = shows_stream form.stream (stream_in (head_in x.what)) && (not form.errors || is_notable x ws)

-- whether the server's opening is shown: it belongs to the connection, and is no error
abbrev pub shows_opening : Form → Bool
shows_opening form = not form.errors && shows_stream form.stream 0

-- the text of an item, after which the connection is in this state, where it is shown; else nothing
abbrev pub IsTextIf : Bool → Form → State → Explained → List ℕ → Type 0
IsTextIf false form s x t = t ≡ []
IsTextIf true form s x t = IsTextOf form.json form.color form.brief s x t

-- the text of an item in a form
abbrev pub IsItemText : Form → State → Explained → List ℕ → Type 0
IsItemText form s x t = (f : CaseFacts) × (ws : Warnings) × AreWarnings x f ws × IsTextIf (shows_item form x ws) form s x t

-- lines, or nothing
abbrev pub EndsLineOrNone : (color : Bool) → List ℕ → Type 0
EndsLineOrNone color t = (t ≡ []) ⊎ EndsLine color t

-- the lines of warnings, of live streams, where there are any, and of `--strict`, which is the last
abbrev pub AreEndLines : (since : Option ℕ) → (strict color : Bool) → State → (items : ℕ) → Tallied → List ℕ → Type 0
AreEndLines since false color s items tally t = EndsLineOrNone color t
AreEndLines since true color s items tally t = EndsWithTally since color s items tally t

-- the text after that many items, of which this was counted, in this state: lines where octets are left or none came, and then
-- those; in JSON always a line
abbrev pub IsRestOf : (since : Option ℕ) → (json strict color : Bool) → State → (items : ℕ) → Tallied → (left : ℕ) → List ℕ → Type 0
IsRestOf since true strict color s items tally left t = EndsLine false t
IsRestOf since false strict color s items tally left t =
    (rest lines : List ℕ) × (t ≡ rest ++ lines) × EndsLineIf (is_said items left) color rest × AreEndLines since strict color s items tally lines

abbrev pub IsRestText : (since : Option ℕ) → Form → State → (items : ℕ) → Tallied → (left : ℕ) → List ℕ → Type 0
IsRestText since form s items tally left t = IsRestOf since form.json form.strict form.color s items tally left t

-- how an explanation ends after that many items, of which this was counted, where these octets are left: it is cut short, as
-- memory was refused; or there is no item more
abbrev pub Ends : Form → (cut : Bool) → State → List ℕ → (items : ℕ) → Tallied → List ℕ → Type 0
Ends form true s b items tally t = t ≡ []
Ends form false s b items tally t = (next_event s b ≡ Stop) × IsRestText None form s items tally (length b) t

-- the texts of these items, one after another, each of which the connection takes after the others; that many items
-- came before them, of which this was counted, and that many octets
abbrev pub AreExplained : Form → (cut : Bool) → State → List ℕ → (items offset : ℕ) → Tallied → List Explained → List ℕ → Type 0
AreExplained form cut s b items offset tally [] t = Ends form cut s b items tally t
AreExplained form cut s b items offset tally (x ∷ xs) t =
    (c : Connection) × ExplainsItem s b (items + 1) offset c x × (tally' : Tallied) × TalliesItem tally x tally'
    × (first : List ℕ) × (rest : List ℕ) × IsItemText form c.state x first × (t ≡ first ++ rest)
    × AreExplained form cut c.state (drop x.used b) (items + 1) (offset + x.used) tally' xs rest

-- the explanation of a connection over octets: of each of its items and of the rest, or of some first items
abbrev pub IsExplanation : Form → (cut : Bool) → State → List ℕ → List ℕ → Type 0
IsExplanation form cut s b t = (xs : List Explained) × AreExplained form cut s b 0 0 no_tally xs t

-- what was written of an item, or of the rest: nothing where memory was refused
abbrev pub IsWritten : {A : Type 0} → (List ℕ → Type 0) → Result A ExplainFault → List ℕ → Type 0
IsWritten P (Ok x) t = P t
IsWritten P (Err fault) t = t ≡ []
