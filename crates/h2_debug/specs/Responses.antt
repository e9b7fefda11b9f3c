-- What is printed after the first line of a session.
use Rattle.std.specs.Prelude.{◌≡◌, ℕ, Bool, true, false, List, [], Option, Some}
use Rattle.h2_debug.specs.Debugging.{Debugging}
use Rattle.h2_debug.specs.SessionFaults.{fault_number}
use Rattle.h2_debug.specs.Session.{IsFollowed, Printed, Prints, closed, failed}
use Rattle.h2_debug.specs.declared.commands.session_fault.SessionFault.{SessionFault}
use Rattle.h2_debug.specs.declared.commands.line.LineEnd.{LineEnd}
use Rattle.h2_debug.specs.declared.commands.line.LineEnd.TheVariants.{Input, LineFeed}

-- nothing more after a line that ends with the input, else the answers to the lines that are ahead, at most that many
-- octets
abbrev pub IsResponse : Debugging → LineEnd → ℕ → Option (List ℕ) → Bool → Option (List ℕ) → Bool → Option (List ℕ) → Option (List ℕ) → ℕ → Type 0
IsResponse d Input limit octets input_failed rest output_failed before after status = output_failed ≡ false → (held : List ℕ) → before ≡ Some held → Prints (closed true []) held after status
IsResponse d LineFeed limit ahead input_failed rest output_failed before after status = output_failed ≡ false → (octets held : List ℕ) → ahead ≡ Some octets → before ≡ Some held
    → (t : Printed) × IsFollowed d limit octets input_failed rest t × Prints t held after status

-- the line of a fault that ends the session
abbrev pub IsRefusal : SessionFault → Bool → Option (List ℕ) → Option (List ℕ) → ℕ → Type 0
IsRefusal fault output_failed before after status = output_failed ≡ false → (held : List ℕ) → before ≡ Some held → Prints (failed (fault_number fault)) held after status
