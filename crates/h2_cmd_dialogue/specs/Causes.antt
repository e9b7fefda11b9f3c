-- Why the server ended a connection.
use Rattle.std.specs.Prelude.{ℕ, zero, suc, List, drop, length, Option, None}
use Rattle.h2_spec.specs.Effect.{cause_of}
use Rattle.h2_spec.specs.Frames.Parse.{Front, Stop, One}
use Rattle.h2_spec.specs.State.{State}
use Rattle.h2_spec.specs.Trace.{Event, next_event}
use Rattle.h2_spec.specs.declared.causes.Cause.{Cause}

abbrev pub cause_after : State → List ℕ → Option Cause → Front State Event → (State → List ℕ → Option Cause → Option Cause) → Option Cause
cause_after s octets cause Stop follow = cause
cause_after s octets cause (One e t used) follow = follow t (drop used octets) (cause_of s e.item)

-- the cause of the last of at most this many items; this one where there is none
abbrev pub cause_upto : ℕ → State → List ℕ → Option Cause → Option Cause
cause_upto zero s octets cause = cause
cause_upto (suc more) s octets cause = cause_after s octets cause (next_event s octets) (cause_upto more)

-- the cause of the last item's error, if it is one
abbrev pub last_cause : State → List ℕ → Option Cause
last_cause s octets = cause_upto (length octets) s octets None
