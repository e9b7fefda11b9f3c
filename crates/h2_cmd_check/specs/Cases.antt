-- A case: a connection of its own, and lines. The octets of the lines of the script are played on it. Each other line
-- says something of the run of the octets above it, or is a command to a debugger of that run, of whose position the lines
-- after it speak, up to the next octets; the case holds where all of them do.
use Rattle.std.specs.Prelude.{◌≡◌, ℕ, Bool, true, false, ◌&&◌, ◌||◌, not, List, [], ◌∷◌, ◌++◌, length, drop, map, codes, if◌then◌else◌, Option, Some, None}
use Rattle.std.specs.Str.{bytes_eq}
use Rattle.h2_spec.specs.Requests.Answer.{Entry}
use Rattle.h2_spec.specs.Causes.CauseWords.{cause_name}
use Rattle.h2_spec.specs.Causes.IgnoredWords.{ignored_name}
use Rattle.h2_spec.specs.Opening.{opening_octets}
use Rattle.h2_spec.specs.Texts.Show.{show}
use Rattle.h2_spec.specs.State.{State, opening}
use Rattle.h2_spec.specs.Trace.{trace}
use Rattle.h2_spec.specs.Texts.View.{view}
use Rattle.h2_spec.specs.declared.causes.Cause.{Cause}
use Rattle.h2_spec.specs.declared.connection.Config.{Config}
use Rattle.h2_spec.specs.declared.ignored.Ignored.{Ignored}
use Rattle.h2_debug.specs.Debugging.{Debugging}
use Rattle.h2_debug.specs.Replies.{Answer}
use Rattle.h2_debug.specs.Loaded.{loaded}
use Rattle.h2_cmd_check.specs.Commands.{answered, debugger_or, is_present, is_refusal, left_with, text_by}
use Rattle.h2_cmd_check.specs.Frames.{is_none, sends, spoken_by}
use Rattle.h2_cmd_check.specs.ItemTexts.{AreTextsOf, octets_at, text_before}
use Rattle.h2_cmd_cases.specs.Lines as line
use Rattle.h2_cmd_cases.specs.Files.{expect_something}
use Rattle.h2_cmd_cases.specs.Lines.{CaseLine, line_said}
use Rattle.h2_cmd_check.specs.ItemsTaken.{Sight, sight, sight_by}
use Rattle.h2_cmd_check.specs.Texts.{explains, shows}
use Rattle.h2_cmd_check.specs.declared.case_debugger.CaseDebugger.{CaseDebugger}
use Rattle.h2_cmd_check.specs.declared.case_debugger.CaseDebugger.TheVariants.{Absent, Present}

-- the state that a case begins in, the octets that were sent before anything came, the texts of its items, and the book,
-- the limits and the settings of its connection, which those of a debugger are too
pub record Start : Type 0 where
  pub state : State
  pub sent : List ℕ
  pub texts : List (List ℕ)
  pub book : List Entry
  pub config : Config

-- a place between two lines: the octets of the lines above, how many of the octets sent lines have spoken about, whether a
-- line has since the last octets or the last command, and the debugger
pub record Place : Type 0 where
  pub above : List ℕ
  pub spoken : ℕ
  pub speaks : Bool
  pub debugging : CaseDebugger

-- what is seen of all items of the octets above a place
abbrev pub sight_above : Start → Place → Sight
sight_above start here = sight start.state start.sent here.above

-- what is seen at a place: after all items, or at the position of the debugger
abbrev pub sight_at : Start → Place → Sight
sight_at start here = sight_by here.debugging (sight_above start here)

-- the text of the state at a place; with a debugger what `show` prints there
abbrev pub text_at : Start → Place → List ℕ
text_at start here = text_by here.debugging (show (view (trace start.state here.above).state))

-- the text of `explain` for the item before a place
abbrev pub explained_at : Start → Place → List ℕ
explained_at start here = text_before start.texts (sight_at start here).items

-- the octets sent that no line has spoken about
abbrev pub unspoken : Start → Place → List ℕ
unspoken start here = drop here.spoken (sight_at start here).sent

-- ---- more octets

-- where a line has spoken about what was sent since the last octets, nothing of it is left
abbrev pub closes : Start → Place → Bool
closes start here = not here.speaks || is_none (unspoken start here)

-- what was sent before the first octets counts only where a line has spoken about it, and what was sent before commands
-- does not count after them
abbrev pub passed : Start → Place → ℕ
passed start here = if is_present here.debugging || (not here.speaks && is_none here.above) then length (sight_above start here).sent else here.spoken

-- a line of the script has to be one
abbrev pub plays : Start → Place → Option (List ℕ) → Bool
plays start here None = false
plays start here (Some []) = true
plays start here (Some (octet ∷ octets)) = closes start here

abbrev pub played : Start → Place → Option (List ℕ) → Place
played start here None = here
played start here (Some []) = here
played start here (Some (octet ∷ octets)) = record { above = here.above ++ octet ∷ octets; spoken = passed start here; speaks = false; debugging = left_with (octet ∷ octets) here.debugging }

-- ---- a command

-- the debugger of a place: a new one, over the octets above, where no command came yet
abbrev pub debugger_at : Start → Place → Debugging
debugger_at start here = debugger_or here.debugging (loaded start.book start.config here.above)

-- what it answers to a line
abbrev pub answer_at : Start → Place → List ℕ → Answer
answer_at start here text = answered (debugger_at start here) text

-- a command has to be one, and not to be refused
abbrev pub commands : Start → Place → List ℕ → Bool
commands start here text = closes start here && not (is_refusal (answer_at start here text).text)

-- then nothing is spoken about at the new position
abbrev pub commanded : Start → Place → List ℕ → Place
commanded start here text = record { above = here.above; spoken = 0; speaks = false; debugging = Present (answer_at start here text).after }

-- ---- what is said about the items

-- the name of a cause, a dash for none
abbrev pub cause_text : Option Cause → List ℕ
cause_text None = codes "-"
cause_text (Some cause) = cause_name cause

-- the item before is an error for this cause; a dash: no item is one
abbrev pub errs : Sight → List ℕ → Bool
errs seen text = bytes_eq text (cause_text (if bytes_eq text (codes "-") then seen.first else seen.cause))

-- the name of a reason, a dash for none
abbrev pub reason_text : Option Ignored → List ℕ
reason_text None = codes "-"
reason_text (Some reason) = ignored_name reason

-- the item before is ignored for this reason; a dash: it is not ignored
abbrev pub ignores : Sight → List ℕ → Bool
ignores seen text = bytes_eq text (reason_text seen.ignored)

-- ---- a line

-- a line holds at a place
abbrev pub holds : Start → Place → CaseLine → Bool
holds start here (line.Script text) = plays start here (octets_at text)
holds start here (line.Title text) = true
holds start here (line.Unspaced text) = false
holds start here (line.Words text) = true
holds start here (line.Sent text) = sends text (unspoken start here)
holds start here (line.Shown text) = shows (text_at start here) text
holds start here (line.Cause text) = errs (sight_at start here) text
holds start here (line.Reason text) = ignores (sight_at start here) text
holds start here (line.Explained text) = explains (explained_at start here) text
holds start here (line.Command text) = commands start here text

-- the place after a line that holds
abbrev pub behind : Start → Place → CaseLine → Place
behind start here (line.Script text) = played start here (octets_at text)
behind start here (line.Title text) = here
behind start here (line.Unspaced text) = here
behind start here (line.Words text) = here
behind start here (line.Sent text) = record { above = here.above; spoken = spoken_by text (unspoken start here) (length (sight_at start here).sent) here.spoken; speaks = true; debugging = here.debugging }
behind start here (line.Shown text) = here
behind start here (line.Cause text) = here
behind start here (line.Reason text) = here
behind start here (line.Explained text) = here
behind start here (line.Command text) = commanded start here text

-- ---- a case

-- all lines from a place on hold
abbrev pub all_hold : Start → Place → List CaseLine → Bool
all_hold start here [] = closes start here
all_hold start here (said ∷ more) = holds start here said && all_hold start (behind start here said) more

-- before the first line
abbrev pub first_place : Place
first_place = record { above = []; spoken = 0; speaks = false; debugging = Absent }

-- the start of a case with this book, these limits and these settings, and of whose items these are the texts
abbrev pub start_of : List Entry → Config → List (List ℕ) → Start
start_of book config texts = record { state = opening book config; sent = opening_octets config; texts = texts; book = book; config = config }

-- the run of the octets of these lines, with this book, these limits and these settings, meets what they expect
unfoldable pub case_holds : List Entry → Config → (texts lines : List (List ℕ)) → Bool
case_holds book config texts lines = all_hold (start_of book config texts) first_place (map line_said lines)

-- ---- the verdict

pub data Outcome : Type 0 where
  -- it expects nothing
  Skipped : Outcome
  Holds : Outcome
  Fails : Outcome

abbrev pub outcome : (holds expects : Bool) → Outcome
outcome true true = Holds
outcome true false = Skipped
outcome false expects = Fails

-- the verdict on a case of whose items these are the texts
abbrev pub outcome_of : List Entry → Config → (texts lines : List (List ℕ)) → Outcome
outcome_of book config texts lines = outcome (case_holds book config texts lines) (expect_something lines)

-- the verdict on a case
abbrev pub IsOutcome : List Entry → Config → List (List ℕ) → Outcome → Type 0
IsOutcome book config lines o = (texts : List (List ℕ)) × AreTextsOf book config lines texts × (o ≡ outcome_of book config texts lines)
