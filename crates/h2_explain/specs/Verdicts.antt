-- What a run says of a client: the errors and warnings of its items, and the exit status of `--strict`.
use Rattle.std.specs.Prelude.{◌≡◌, ℕ, ◌+◌, ◌-◌, ◌^◌, min, Bool, true, false, ◌&&◌, ◌||◌, not, if◌then◌else◌, List, [], ◌∷◌, ◌++◌, drop, length, nat_lt, Option, Some, None, is_some}
use Rattle.h2_spec.specs.Frames.Parse.{Stop}
use Rattle.h2_spec.specs.State.{State}
use Rattle.h2_spec.specs.Stream.{next_waiting}
use Rattle.h2_spec.specs.Trace.{next_event}
use Rattle.h2_spec.specs.declared.causes.Cause.{Cause}
use Rattle.h2_spec.specs.declared.rules.ClientDuty.{ClientDuty}
use Rattle.h2_spec.specs.declared.rules.ClientDuty.TheVariants as client_duty
use Rattle.h2_conn.specs.Connection.{Connection, is_ended}
use Rattle.h2_explain_step.specs.Explained.{ExplainsItem}
use Rattle.h2_explain_item.specs.Warnings.{AreWarnings, broken_count, duty_of_error, duty_of_reason, is_breach, warning_count}
use Rattle.h2_explain_item.specs.declared.item.Explained.{Explained}
use Rattle.h2_explain_item.specs.declared.diagnosis.special.CaseFacts.{CaseFacts}
use Rattle.h2_explain.specs.declared.verdict.ClientVerdict.{ClientVerdict}
use Rattle.h2_explain_item.specs.declared.diagnosis.warning.Warnings.{Warnings}

-- what is counted of items: the causes of their errors, in order; how many warnings they have; whether the client broke a
-- rule, and whether it was above a limit of this server
pub record Tallied : Type 0 where
  pub errors : List Cause
  pub warnings : ℕ
  pub broken : Bool
  pub limited : Bool

abbrev pub no_tally : Tallied
no_tally = record { errors = []; warnings = 0; broken = false; limited = false }

abbrev pub cause_in : Option Cause → List Cause
cause_in None = []
cause_in (Some cause) = cause ∷ []

-- whether it is a limit of this server that the client was above
abbrev pub is_limit : ClientDuty → Bool
is_limit client_duty.MustNot = false
is_limit client_duty.Must = false
is_limit client_duty.Breach = false
is_limit client_duty.Limit = true
is_limit client_duty.Nothing = false

-- whether the client broke a rule with an item: by its error, by why it is ignored, or by a warning that is no note
abbrev pub breaks_rule : Explained → CaseFacts → Warnings → Bool
breaks_rule x f w = (is_breach (duty_of_error x.cause x f) || is_breach (duty_of_reason x.ignored f)) || nat_lt 0 (broken_count w)

-- with one item more, with what decides the special case of its rule, and with its warnings
abbrev pub tally_with : Tallied → Explained → CaseFacts → Warnings → Tallied
tally_with t x f w = record {
  errors = t.errors ++ cause_in x.cause;
  warnings = min (t.warnings + warning_count w) (2 ^ 64 - 1);
  broken = t.broken || breaks_rule x f w;
  limited = t.limited || is_limit (duty_of_error x.cause x f);
}

-- the same, with its warnings
abbrev pub TalliesItem : Tallied → Explained → Tallied → Type 0
TalliesItem t x t' = (f : CaseFacts) × (ws : Warnings) × AreWarnings x f ws × (t' ≡ tally_with t x f ws)

-- whether an answer waits for a window of the client's, and the connection goes on (6.9)
abbrev pub is_answer_unfinished : State → Bool
is_answer_unfinished s = not (is_ended s.core.phase) && is_some (next_waiting 0 s.streams)

-- what is said about a client where the run ends in this state, and that many octets are left
abbrev pub verdict_at : Tallied → State → ℕ → ClientVerdict
verdict_at t s left = record {
  broken = t.broken;
  limited = t.limited;
  unfinished = (nat_lt 0 left && not (is_ended s.core.phase)) || is_answer_unfinished s;
}

-- the exit status of `--strict`: 5 where the client broke a rule, else 6 where it was above a limit of this server, else 7
-- where octets of a frame are left or an answer waits, else 4 where a connection error ended the connection
abbrev pub strict_status : ClientVerdict → (ended : Bool) → ℕ
strict_status v ended = if v.broken then 5 else if v.limited then 6 else if v.unfinished then 7 else if ended then 4 else 0

-- the tally over the items that a connection takes of octets, from this one on, and the verdict after the last
abbrev pub AreTallied : State → List ℕ → (number offset : ℕ) → List Explained → Tallied → ClientVerdict → Type 0
AreTallied s b number offset [] t v = (next_event s b ≡ Stop) × (v ≡ verdict_at t s (length b))
AreTallied s b number offset (x ∷ xs) t v =
    (c : Connection) × ExplainsItem s b number offset c x
    × (t' : Tallied) × TalliesItem t x t' × AreTallied c.state (drop x.used b) (number + 1) (offset + x.used) xs t' v

-- the verdict on a run over octets
abbrev pub IsVerdict : State → List ℕ → ClientVerdict → Type 0
IsVerdict s b v = (xs : List Explained) × AreTallied s b 1 0 xs no_tally v
