-- What is after the last item, and what these octets lack to be an item.
use Rattle.std.specs.Prelude.{ℕ, ◌+◌, ◌-◌, ◌*◌, Bool, true, false, ◌||◌, ◌==◌, List, length, slice_index, nat_lt, if◌then◌else◌, Option, Some, None, option_map}
use Rattle.h2_spec.specs.declared.connection.Phase.{Phase}
use Rattle.h2_spec.specs.declared.connection.Phase.TheVariants.{Preface, Settings, Running, Ended}
use Rattle.h2_spec.specs.declared.frames.Head.{Head}
use Rattle.h2_spec.specs.Causes.Errors.{code_number}
use Rattle.h2_spec.specs.Frames.Frame.{head_at}
use Rattle.h2_spec.specs.State.{State, ended_code}
use Rattle.h2_explain_text.specs.declared.rest.Awaited.TheVariants as awaited
use Rattle.h2_explain_text.specs.declared.rest.Missing.{Missing}
use Rattle.h2_explain_text.specs.declared.rest.InputRest.{InputRest}

-- what that many octets of a preface lack: it has 24 (3.4)
abbrev pub missing_of_preface : ℕ → Missing
missing_of_preface count = record { what = awaited.Preface; needs = 24 - count; at_least = false; head = None }

-- what octets lack that are not the whole head of a frame: they begin with its length, in three octets (4.1)
abbrev pub missing_of_front : List ℕ → Missing
missing_of_front b =
    if nat_lt (length b) 3 then record { what = awaited.Frame; needs = 9 - length b; at_least = true; head = None }
    else record { what = awaited.Frame; needs = 9 + (65536 * slice_index b 0 + 256 * slice_index b 1 + slice_index b 2) - length b; at_least = false; head = None }

-- what octets of a frame lack: nine of its head and those of its payload (4.1)
abbrev pub missing_of_frame : Option Head → List ℕ → Missing
missing_of_frame None b = missing_of_front b
missing_of_frame (Some h) b = record { what = awaited.Frame; needs = 9 + h.length - length b; at_least = false; head = Some h }

-- what octets lack to be the next item
abbrev pub missing_of : Phase → List ℕ → Missing
missing_of Preface b = missing_of_preface (length b)
missing_of Settings b = missing_of_frame (head_at b) b
missing_of Running b = missing_of_frame (head_at b) b
missing_of (Ended code) b = missing_of_frame (head_at b) b

-- what is after the last item of a connection that had that many
abbrev pub rest_of : State → (items offset : ℕ) → List ℕ → InputRest
rest_of s items offset b = record {
  items = items;
  offset = offset;
  octets = length b;
  ended = option_map code_number (ended_code s.core.phase);
  missing = missing_of s.core.phase b;
}

-- whether something is said after that many items where that many octets are left: of these, or that no octets came at
-- all
abbrev pub is_said : (items left : ℕ) → Bool
is_said items left = nat_lt 0 left || items == 0
