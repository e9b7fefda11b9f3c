-- A run that is reported place by place, and written as it is made.
use Rattle.std.specs.Prelude.{◌≡◌, ℕ, ◌++◌, Bool, true, false, List, [], Option, Some, Result, Ok, Err}
use Rattle.std.specs.List.{concat}
use Rattle.h2_spec.specs.State.{State}
use Rattle.h2_spec.specs.Texts.View.{view}
use Rattle.h2_cmd_batch.specs.Printing.{OrCutShort, Printed, done, failed_after}
use Rattle.h2_cmd_batch.specs.Printed.{item_text, places_from, sent_and_state}
use Rattle.h2_cmd_batch.specs.declared.commands.each.PrintFault.{PrintFault}
use Rattle.h2_cmd_batch.specs.declared.commands.each.PrintFault.TheVariants.{Fault, NotWritten}

-- whether a write failed
abbrev pub not_written : Result (Unit {0}) PrintFault → Bool
not_written (Ok u) = false
not_written (Err (Fault fault)) = false
not_written (Err NotWritten) = true

-- what is reported in all, where a text was written and then it ended so
abbrev pub printed_after : List ℕ → Result (Unit {0}) PrintFault → Printed
printed_after text (Ok u) = done text
printed_after text (Err (Fault fault)) = failed_after text fault
printed_after text (Err NotWritten) = record { text = text; status = 3 }

-- the output gained a text, and that it ended so leads to such an answer
abbrev pub WritesSome : (Printed → Type 0) → Result (Unit {0}) PrintFault → Option (List ℕ) → Option (List ℕ) → Type 0
WritesSome is_such ended before after = (held : List ℕ) → before ≡ Some held → (text : List ℕ) × (after ≡ Some (held ++ text)) × is_such (printed_after text ended)

-- what is fed to a connection before it is reported
abbrev pub fed_first : Bool → List ℕ → List ℕ
fed_first true octets = []
fed_first false octets = octets

-- what is reported of a state, for which this was sent: the places of its run over the octets, or some first of them;
-- or what was sent, and the state
abbrev pub PrintsRun : Bool → State → List ℕ → List ℕ → Printed → Type 0
PrintsRun true s sent octets t = let places = places_from (item_text 0 sent (view s)) s octets in OrCutShort places (done (concat places)) t
PrintsRun false s sent octets t = t ≡ done (sent_and_state sent (view s))
