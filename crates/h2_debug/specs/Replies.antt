-- What a command does to a debugger, and what is printed for it.
use Rattle.std.specs.Prelude.{◌≡◌, ◌⊎◌, ℕ, ◌+◌, ◌-◌, ◌++◌, ◌==◌, ◌&&◌, not, Bool, true, false, nat_lt, min, if◌then◌else◌, List, [], ◌∷◌, codes, decimal, Option, Some, None, Result, Ok, Err}
use Rattle.h2_spec.specs.Texts.Debug.{stop}
use Rattle.h2_spec.specs.Texts.Show.{joined, octets_text, show}
use Rattle.h2_spec.specs.Texts.View.{view}
use Rattle.h2_debug.specs.Debugging.{Debugging, moved_counting, moved}
use Rattle.h2_debug.specs.Faults.{fault_number}
use Rattle.h2_debug.specs.Places.{at, cause_at, end, events, ignored_at, sent_octets_at}
use Rattle.h2_debug.specs.declared.fault.DebugFault.{DebugFault}
use Rattle.h2_spec.specs.declared.special_cases.SpecialCase.{SpecialCase}
use Rattle.h2_debug.specs.Cases.{can_be_special, case_at}
use Rattle.h2_debug.specs.Commands.{Command, Step, Back, Go, Run, BreakOn, Clear, Show, Why}
use Rattle.h2_explain_text.specs.Why.{why_lines}
use Rattle.h2_debug.specs.declared.commands.reply.Reply.{Reply}
use Rattle.h2_debug.specs.declared.commands.reply.Reply.TheVariants as code

-- a word, a number and a line feed
unfoldable pub number_line : List ℕ → ℕ → List ℕ
number_line word number = joined (word ∷ decimal number ∷ codes "\n" ∷ [])

-- the line of a fault
abbrev pub fault_line : ℕ → List ℕ
fault_line number = number_line (codes "fault ") number

-- the line of a position
abbrev pub at_line : ℕ → List ℕ
at_line position = number_line (codes "at ") position

-- a position, the octets that its item sent, and the text of the state
unfoldable pub place_text : ℕ → List ℕ → List ℕ → List ℕ
place_text position sent state = joined (codes "at " ∷ decimal position ∷ codes "\nsent " ∷ octets_text sent ∷ codes "\n" ∷ []) ++ state

-- the same of a debugger
abbrev pub shown_text : Debugging → List ℕ
shown_text d = place_text d.position (sent_octets_at d.run d.position) (show (view (at d.run d.position)))

-- why the item at the position of a debugger was an error, or was ignored, and which special case that is
abbrev pub why_text : Debugging → Option SpecialCase → List ℕ
why_text d case = why_lines (at d.run d.position).core.phase (cause_at d.run d.position) (ignored_at d.run d.position) case

-- a text, and the debugger after it
pub record Answer : Type 0 where
  pub text : List ℕ
  pub after : Debugging

abbrev pub arrived : ℕ → Debugging → Answer
arrived p d = record { text = at_line p; after = d }

abbrev pub refused : ℕ → Debugging → Answer
refused fault d = record { text = fault_line fault; after = d }

abbrev pub done : Debugging → Answer
done d = record { text = codes "ok\n"; after = d }

-- the answer to a line where memory is given: 27 where it is no command
abbrev pub answer : Debugging → Option Command → Answer
answer d None = refused 27 d
answer d (Some (Step n)) =
    if nat_lt 0 n && d.position == end d.run then refused 19 d
    else arrived (min (d.position + n) (end d.run)) (moved (min (d.position + n) (end d.run)) d)
answer d (Some (Back n)) =
    if nat_lt 0 n && d.position == 0 then refused 20 d else arrived (d.position - n) (moved_counting (d.position - n) d)
answer d (Some (Go p)) = if nat_lt (end d.run) p then refused 21 d else arrived p (moved_counting p d)
answer d (Some Run) =
    if d.position == end d.run then refused 19 d
    else arrived (stop d.breaks (events d.run) d.position) (moved (stop d.breaks (events d.run) d.position) d)
answer d (Some (BreakOn b)) = done (record d { breaks = d.breaks ++ b ∷ [] })
answer d (Some Clear) = done (record d { breaks = [] })
answer d (Some Show) = record { text = shown_text d; after = d }
answer d (Some Why) = record { text = why_text d (case_at d.run d.position); after = d }

-- whether a command takes memory: a move that is not refused, a breakpoint, and the rule of an item that can be a special case;
-- no other text does
abbrev pub takes_memory : Debugging → Option Command → Bool
takes_memory d None = false
takes_memory d (Some (Step n)) = nat_lt 0 n && not (d.position == end d.run)
takes_memory d (Some (Back n)) = nat_lt 0 n && not (d.position == 0)
takes_memory d (Some (Go p)) = true
takes_memory d (Some Run) = not (d.position == end d.run)
takes_memory d (Some (BreakOn b)) = true
takes_memory d (Some Clear) = false
takes_memory d (Some Show) = false
takes_memory d (Some Why) = can_be_special (cause_at d.run d.position) (ignored_at d.run d.position)

-- the answer, or memory was refused and the debugger is as it was
abbrev pub Obeys : Debugging → Option Command → List ℕ → Debugging → Type 0
Obeys d command text after = ((text ≡ (answer d command).text) × (after ≡ (answer d command).after))
    ⊎ ((takes_memory d command ≡ true) × (text ≡ fault_line 0) × (after ≡ d))

-- the text of a reply of this debugger
abbrev pub reply_text : Debugging → Reply → List ℕ
reply_text d (code.At position) = at_line position
reply_text d code.Done = codes "ok\n"
reply_text d (code.Refused fault) = fault_line fault
reply_text d code.Shown = shown_text d
reply_text d (code.Explained case) = why_text d case

-- the reply to `why`, to a move, and to a breakpoint
abbrev pub why_reply : Result (Option SpecialCase) DebugFault → Reply
why_reply (Ok case) = code.Explained case
why_reply (Err fault) = code.Refused (fault_number fault)

abbrev pub moved_reply : Result ℕ DebugFault → Reply
moved_reply (Ok position) = code.At position
moved_reply (Err fault) = code.Refused (fault_number fault)

abbrev pub set_reply : Result (Unit {0}) DebugFault → Reply
set_reply (Ok u) = code.Done
set_reply (Err fault) = code.Refused (fault_number fault)
