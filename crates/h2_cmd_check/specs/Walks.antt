-- A walk over the lines of a case: how far it has got, and what it has found.
use Rattle.std.specs.Prelude.{◌≡◌, ℕ, ◌+◌, ◌++◌, ◌≤◌, Bool, true, false, ◌&&◌, ◌||◌, not, List, [], codes, length, drop, map, string_bytes, if◌then◌else◌, Option, Some, None, is_some}
use Rattle.h2_conn.specs.Connection.{Connection, going}
use Rattle.h2_spec.specs.Frames.Parse.{parse_all}
use Rattle.h2_spec.specs.Trace.{next_event}
use Rattle.h2_debug.specs.Debugging.{Debugging}
use Rattle.h2_debug.specs.Loaded.{loaded}
use Rattle.h2_cmd_check.specs.Blessed.{held_line, held_text, kept_line}
use Rattle.h2_cmd_check.specs.Cases.{Outcome, Place, Start, Skipped, Holds, Fails, behind, holds, sight_above}
use Rattle.h2_cmd_check.specs.Commands.{answered, debugger_or, is_present, is_refusal, left_with}
use Rattle.h2_cmd_check.specs.Frames.{is_none, octets_next, sends, spoken_by}
use Rattle.h2_cmd_cases.specs.Lines.{CaseLine}
use Rattle.h2_cmd_check.specs.ItemsTaken.{Sight, seen_by, sight_by}
use Rattle.h2_cmd_check.specs.declared.case_debugger.CaseDebugger.TheVariants.{Present}
use Rattle.h2_cmd_check.specs.declared.command.Given.{Given}
use Rattle.h2_cmd_check.specs.declared.walk.Walk.{Walk}
use Rattle.h2_cmd_check.specs.Tap.{Gains}
use Rattle.h2_cmd_check.specs.declared.growing.Growing.{Growing}
use Rattle.h2_cmd_check.specs.declared.verdict.CaseVerdict.{CaseVerdict}
use Rattle.h2_cmd_check.specs.declared.verdict.CaseVerdict.TheVariants as verdict

-- the place of a walk
abbrev pub place_of : Walk → Place
place_of w = record { above = w.octets.items; spoken = w.spoken; speaks = w.speaks; debugging = w.debugger }

-- what is seen there
abbrev pub sight_here : Walk → Sight
sight_here w = sight_by w.debugger (seen_by w.seen)

abbrev pub sent_here : Walk → List ℕ
sent_here w = (sight_here w).sent

-- a start with what a value has
pub record Begins (start : Start) (given : Given) : Type 0 where
  pub texts_are : start.texts ≡ map string_bytes given.texts.now
  pub book_is : start.book ≡ given.book.now
  pub config_is : start.config ≡ given.config

-- each item has an octet at least, and those taken are among the octets
abbrev pub IsWithin : Walk → Type 0
IsWithin w = (w.seen.items ≤ w.at) × (w.at ≤ length w.octets.items)

-- the walk and its connection have got as far as the octets of its lines lead
pub record Walks (start : Start) (w : Walk) (c : Connection) : Type 0 where
  pub within : IsWithin w
  pub ready : c ≡ going c.state []
  pub state : (parse_all next_event start.state w.octets.items).state ≡ c.state
  pub rest : (parse_all next_event start.state w.octets.items).rest ≡ drop w.at w.octets.items
  pub seen : seen_by w.seen ≡ sight_above start (place_of w)

-- the walk has found whether something holds, and all else is as before
pub record Finds (b : Bool) (w w' : Walk) : Type 0 where
  pub found : w'.holds ≡ (w.holds && b)
  pub octets : w'.octets ≡ w.octets
  pub at : w'.at ≡ w.at
  pub seen : w'.seen ≡ w.seen
  pub debugger : w'.debugger ≡ w.debugger
  pub speaks : w'.speaks ≡ w.speaks
  pub spoken : b ≡ true → w'.spoken ≡ w.spoken

-- the octets that were sent and that no line has spoken about
abbrev pub left_by : Walk → List ℕ
left_by w = drop w.spoken (sent_here w)

-- more octets come, or the case ends
pub record Closes (w w' : Walk) : Type 0 where
  pub found : w'.holds ≡ (w.holds && (not w.speaks || is_none (left_by w)))
  pub octets : w'.octets ≡ w.octets
  pub at : w'.at ≡ w.at
  pub seen : w'.seen ≡ w.seen
  pub debugger : w'.debugger ≡ w.debugger
  pub speaks : w'.speaks ≡ false
  pub spoken : (not w.speaks || is_none (left_by w)) ≡ true → w'.spoken ≡ (if not w.speaks && is_none w.octets.items then length (sent_here w) else w.spoken)

-- its debugger is fed more octets; where here was its position, what was sent before is not looked at any more
pub record Leaves (more : List ℕ) (w w' : Walk) : Type 0 where
  pub found : w'.holds ≡ w.holds
  pub octets : w'.octets ≡ w.octets
  pub at : w'.at ≡ w.at
  pub seen : w'.seen ≡ w.seen
  pub speaks : w'.speaks ≡ w.speaks
  pub debugger : w'.debugger ≡ left_with more w.debugger
  pub spoken : w'.spoken ≡ (if is_present w.debugger then length w.seen.sent.items else w.spoken)

-- the debugger of a walk, or a new one
abbrev pub debugger_for : Given → Walk → Debugging
debugger_for given w = debugger_or w.debugger (loaded given.book.now given.config w.octets.items)

-- here is the position of its debugger
pub record Loads (given : Given) (w w' : Walk) : Type 0 where
  pub found : w'.holds ≡ w.holds
  pub octets : w'.octets ≡ w.octets
  pub at : w'.at ≡ w.at
  pub seen : w'.seen ≡ w.seen
  pub speaks : w'.speaks ≡ w.speaks
  pub debugger : w'.debugger ≡ Present (debugger_for given w)

-- it was given a line, which it refused with a fault or not; nothing is spoken about at its position
pub record Commands (given : Given) (line : List ℕ) (fault : Option ℕ) (w w' : Walk) : Type 0 where
  pub found : w'.holds ≡ w.holds
  pub octets : w'.octets ≡ w.octets
  pub at : w'.at ≡ w.at
  pub seen : w'.seen ≡ w.seen
  pub speaks : w'.speaks ≡ w.speaks
  pub spoken : w'.spoken ≡ 0
  pub debugger : w'.debugger ≡ Present (answered (debugger_for given w) line).after
  pub refused : is_some fault ≡ is_refusal (answered (debugger_for given w) line).text

-- the next frame that was sent was compared with one that is wanted: it has that many octets, if it is that one
pub record Compares (next : Option ℕ) (w w' : Walk) : Type 0 where
  pub found : w'.holds ≡ (w.holds && is_some next)
  pub octets : w'.octets ≡ w.octets
  pub at : w'.at ≡ w.at
  pub seen : w'.seen ≡ w.seen
  pub debugger : w'.debugger ≡ w.debugger
  pub speaks : w'.speaks ≡ w.speaks
  pub spoken : is_some next ≡ true → w'.spoken ≡ w.spoken + octets_next next

-- a line has spoken about what was sent
pub record Speaks (text : List ℕ) (w w' : Walk) : Type 0 where
  pub found : w'.holds ≡ (w.holds && sends text (left_by w))
  pub octets : w'.octets ≡ w.octets
  pub at : w'.at ≡ w.at
  pub seen : w'.seen ≡ w.seen
  pub debugger : w'.debugger ≡ w.debugger
  pub speaks : w'.speaks ≡ true
  pub spoken : sends text (left_by w) ≡ true → w'.spoken ≡ spoken_by text (left_by w) (length (sent_here w)) w.spoken

-- the walk has found whether something holds, and if so is at this place
pub record Goes (b : Bool) (there : Place) (w w' : Walk) : Type 0 where
  pub found : w'.holds ≡ (w.holds && b)
  pub place : b ≡ true → place_of w' ≡ there

-- the walk goes over a line
abbrev pub Passes : Start → CaseLine → Walk → Walk → Type 0
Passes start said w w' = Goes (holds start (place_of w) said) (behind start (place_of w) said) w w'

-- the outcome that a value has
abbrev pub outcome_by : CaseVerdict → Outcome
outcome_by verdict.Skipped = Skipped
outcome_by verdict.Holds = Holds
outcome_by (verdict.Fails wrongs) = Fails

-- ---- a walk that writes a case anew

-- more octets come: nothing is compared
pub record Lets (w w' : Walk) : Type 0 where
  pub octets : w'.octets ≡ w.octets
  pub at : w'.at ≡ w.at
  pub seen : w'.seen ≡ w.seen
  pub debugger : w'.debugger ≡ w.debugger
  pub speaks : w'.speaks ≡ false
  pub spoken : w'.spoken ≡ (if not w.speaks && is_none w.octets.items then length (sent_here w) else w.spoken)

-- a line that says that a frame is sent stays, where it is the next one, which has that many octets; its line is this
pub record KeepsFrame (line : List ℕ) (wanted : Option (List ℕ)) (next : Option ℕ) (w w' : Walk) (g g' : Growing) : Type 0 where
  pub octets : w'.octets ≡ w.octets
  pub at : w'.at ≡ w.at
  pub seen : w'.seen ≡ w.seen
  pub debugger : w'.debugger ≡ w.debugger
  pub speaks : w'.speaks ≡ (if is_some next then true else w.speaks)
  pub spoken : w'.spoken ≡ (if is_some next then w.spoken + octets_next next else w.spoken)
  pub text : Gains (if is_some next then held_line line wanted else []) g g'

-- a line that says that no frame is left stays, where none is
pub record KeepsNone (line : List ℕ) (w w' : Walk) (g g' : Growing) : Type 0 where
  pub octets : w'.octets ≡ w.octets
  pub at : w'.at ≡ w.at
  pub seen : w'.seen ≡ w.seen
  pub debugger : w'.debugger ≡ w.debugger
  pub speaks : w'.speaks ≡ (if is_none (left_by w) then true else w.speaks)
  pub spoken : w'.spoken ≡ w.spoken
  pub text : Gains (if is_none (left_by w) then codes ";< " ++ kept_line line else []) g g'

-- a line that says what is sent stays, where it holds
pub record Keeps (line : List ℕ) (w w' : Walk) (g g' : Growing) : Type 0 where
  pub octets : w'.octets ≡ w.octets
  pub at : w'.at ≡ w.at
  pub seen : w'.seen ≡ w.seen
  pub debugger : w'.debugger ≡ w.debugger
  pub speaks : w'.speaks ≡ (if sends line (left_by w) then true else w.speaks)
  pub spoken : w'.spoken ≡ (if sends line (left_by w) then spoken_by line (left_by w) (length (sent_here w)) w.spoken else w.spoken)
  pub text : Gains (held_text line (left_by w)) g g'

-- all that was sent is spoken about, and this text was written
pub record Tells (spoke : Bool) (lines : List ℕ) (w w' : Walk) (g g' : Growing) : Type 0 where
  pub octets : w'.octets ≡ w.octets
  pub at : w'.at ≡ w.at
  pub seen : w'.seen ≡ w.seen
  pub debugger : w'.debugger ≡ w.debugger
  pub speaks : w'.speaks ≡ spoke
  pub spoken : w'.spoken ≡ length (sent_here w)
  pub text : Gains lines g g'

-- the walk is at this place, and this text was written
abbrev pub Writes : List ℕ → Place → Walk → Growing → Growing → Type 0
Writes text there w g g' = (place_of w ≡ there) × Gains text g g'
