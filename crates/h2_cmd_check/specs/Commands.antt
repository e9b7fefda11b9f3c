-- Commands of the debugger of a case: how one is answered, and whether it is refused.
use Rattle.std.specs.Prelude.{ℕ, ◌==◌, Bool, true, false, List, nat_eq, codes, Option, Some, None}
use Rattle.std.specs.List.{starts_with}
use Rattle.h2_debug.specs.Debugging.{Debugging, fed}
use Rattle.h2_debug.specs.Commands.{command_of}
use Rattle.h2_debug.specs.Replies.{Answer, answer, shown_text}
use Rattle.h2_debug.specs.declared.commands.reply.Reply.{Reply}
use Rattle.h2_debug.specs.declared.commands.reply.Reply.TheVariants as code
use Rattle.h2_cmd_check.specs.declared.case_debugger.CaseDebugger.{CaseDebugger}
use Rattle.h2_cmd_check.specs.declared.case_debugger.CaseDebugger.TheVariants.{Absent, Present, Left}

-- what a debugger answers to a line where memory is given, and the debugger after it
unfoldable pub answered : Debugging → List ℕ → Answer
answered d line = answer d (command_of line)

-- an answer is the line of a fault
abbrev pub is_refusal : List ℕ → Bool
is_refusal text = starts_with nat_eq text (codes "fault ")

-- ---- the debugger of a case

-- the one that is there, else a new one
abbrev pub debugger_or : CaseDebugger → Debugging → Debugging
debugger_or Absent new = new
debugger_or (Present d) new = d
debugger_or (Left d) new = d

-- here is its position
abbrev pub is_present : CaseDebugger → Bool
is_present Absent = false
is_present (Present d) = true
is_present (Left d) = false

-- more octets come: it is fed them, and here is its position no longer
abbrev pub left_with : List ℕ → CaseDebugger → CaseDebugger
left_with more Absent = Absent
left_with more (Present d) = Left (fed more d)
left_with more (Left d) = Left (fed more d)

-- where here is its position, what its command `show` prints
abbrev pub text_by : CaseDebugger → List ℕ → List ℕ
text_by Absent text = text
text_by (Present d) text = shown_text d
text_by (Left d) text = text

-- ---- replies

-- the number of the fault that a reply is, if it is one
abbrev pub fault_in : Reply → Option ℕ
fault_in (code.Refused fault) = Some fault
fault_in (code.At position) = None
fault_in code.Done = None
fault_in code.Shown = None
fault_in (code.Explained case) = None

-- memory was refused
abbrev pub is_memory_fault : Option ℕ → Bool
is_memory_fault None = false
is_memory_fault (Some fault) = fault == 0
