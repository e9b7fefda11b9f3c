-- Why the items of a run were errors, or were ignored (RFC 9113, 5.4).
use Rattle.std.specs.Prelude.{ℕ, zero, suc, List, [], ◌∷◌, None}
use Rattle.h2_spec.specs.Effect.{cause_of}
use Rattle.h2_spec.specs.Frames.Frame.{Item}
use Rattle.h2_spec.specs.Causes.Ignored.{ignored_of}
use Rattle.h2_spec.specs.State.{State}
use Rattle.h2_spec.specs.Trace.{Event}
use Rattle.h2_conn.specs.declared.report.TakenItem.{TakenItem}
use Rattle.h2_debug.specs.declared.reasons.Reasons.{Reasons}

abbrev pub no_reasons : Reasons
no_reasons = record { cause = None; ignored = None }

-- of an item in a state
abbrev pub reasons_of : State → Item → Reasons
reasons_of s item = record { cause = cause_of s item; ignored = ignored_of s item }

-- of an item that was taken
abbrev pub reasons_by : TakenItem → Reasons
reasons_by taken = record { cause = taken.cause; ignored = taken.ignored }

-- of the item at a place in a list, which begins in this state; none at 0 and after the list
abbrev pub reasons_in : State → List Event → ℕ → Reasons
reasons_in s events zero = no_reasons
reasons_in s [] (suc p) = no_reasons
reasons_in s (e ∷ events) (suc zero) = reasons_of s e.item
reasons_in s (e ∷ events) (suc (suc p)) = reasons_in e.state events (suc p)
