-- What an explanation reports: where its text is, and the status of its run.
use Rattle.std.proofs.Common.{◌≡◌, ◌⊎◌, ◌<◌, ◌≤◌, ℕ, Bool, true, false, List, Option, Some, None, Ok, Err, refl, sym, subst, ap, ◌∙◌, if◌then◌else◌, inl, inr, is_some, option_map, length, le-ltb, lt-ltb}
use Rattle.std.specs.Option.{IsSomeAnd}
use Rattle.h2_spec.specs.Requests.Answer.{Entry}
use Rattle.h2_spec.specs.declared.connection.Config.{Config}
use Rattle.h2_spec.specs.Causes.Errors.{code_number}
use Rattle.h2_spec.specs.State.{State, ended_code, is_allowed}
use Rattle.h2_spec.specs.Trace.{trace}
use Rattle.h2_spec.specs.declared.connection.Phase.{Phase}
use Rattle.h2_spec.specs.declared.connection.Phase.TheVariants.{Preface, Settings, Running, Ended}
use Rattle.h2_explain.specs.Explains.{IsExplanation, IsSummary, not_written}
use Rattle.h2_explain.specs.Verdicts.{IsVerdict, strict_status}
use Rattle.h2_explain.specs.declared.verdict.ClientVerdict.{ClientVerdict}
use Rattle.h2_explain.specs.declared.run.Form.{Form}
use Rattle.h2_explain.specs.declared.run.Summary.{Summary}
use Rattle.h2_explain.specs.declared.run.ExplainFault.{ExplainFault}
use Rattle.h2_explain.specs.declared.run.ExplainFault.TheVariants as explained
use Rattle.h2_cmd_run.specs.ExplainProgram.{IsStatus, ReportsFile, ReportsIfShort, ReportsInput, ReportsRead, ReportsRun, ReportsSpelled, ReportsText, end_of, explained_after, is_over, outcome_status, run_status}
use Rattle.h2_cmd_batch.specs.Input.{IsUnread, input_fault, most}
use Rattle.h2_cmd_batch.specs.Printing.{Printed, failed_as}
use Rattle.h2_cmd_run.specs.declared.explain.ExplainOutcome.{ExplainOutcome}
use Rattle.h2_cmd_batch.specs.declared.fault.BenchFault.{BenchFault}
use Rattle.h2_cmd_batch.specs.declared.fault.BenchFault.TheVariants.{NoMemory, Read}

-- ---- the status

abbrev pub plain_status : Bool → ℕ
plain_status ended = if ended then 4 else 0

status-at : (phase : Phase) → plain_status (is_some (option_map code_number (ended_code phase))) ≡ run_status phase
status-at Preface = refl
status-at Settings = refl
status-at Running = refl
status-at (Ended code) = refl

over-at : (phase : Phase) → is_some (option_map code_number (ended_code phase)) ≡ is_over phase
over-at Preface = refl
over-at Settings = refl
over-at Running = refl
over-at (Ended code) = refl

abbrev pub outcome : (strict ended : Bool) → ClientVerdict → ExplainOutcome
outcome strict ended v = record { strict = strict; ended = ended; verdict = v }

status-is : (strict ended : Bool) (s : State) (octets : List ℕ) (v : ClientVerdict) → IsVerdict s octets v → ended ≡ is_some (option_map code_number (ended_code (trace s octets).state.core.phase))
    → IsStatus strict s octets (outcome_status (outcome strict ended v))
status-is true ended s octets v said is = (v, said, ap (λ (b : Bool). strict_status v b) (is ∙ over-at (trace s octets).state.core.phase))
status-is false ended s octets v said is = ap plain_status is ∙ status-at (trace s octets).state.core.phase

-- it is that of the phase in which its run ends, or that of what is said about the client
pub status-of : (form : Form) (s : State) (octets text : List ℕ) (summary : Summary) (b : Bool) → IsExplanation form false s octets text → IsSummary s octets summary → b ≡ is_some summary.ended
    → ReportsRun form s octets (explained_after form.json text (Ok (outcome form.strict b summary.verdict)))
status-of form s octets text summary b explains is same =
    inl (status-is form.strict b s octets summary.verdict is.1 (same ∙ ap (λ (t : Summary). is_some t.ended) is.0), explains)

-- an explanation that was cut short
pub end-reports : (form : Form) (s : State) (octets text : List ℕ) (f : ExplainFault) → IsExplanation form true s octets text → not_written {A = Summary} (Err f) ≡ false → ReportsRun form s octets (explained_after form.json text (Err (end_of f)))
end-reports form s octets text explained.NoMemory explains e = inr (inr (text, explains, refl))
end-reports form s octets text explained.NotWritten explains e = cc

-- ---- where the text is

short : (form : Form) (raw : Bool) (book : List Entry) (config : Config) (text : List ℕ) (t : Printed) → length text ≤ most → ReportsText form raw book config text t → ReportsRead form raw book config text t
short form raw book config text t within x = subst (λ (b : Bool). ReportsIfShort form raw b book config text t) (sym (le-ltb most (length text) within)) x

long : (form : Form) (raw : Bool) (book : List Entry) (config : Config) (text : List ℕ) → most < length text → ReportsRead form raw book config text (failed_as form.json Read)
long form raw book config text h = subst (λ (b : Bool). ReportsIfShort form raw b book config text (failed_as form.json Read)) (sym (lt-ltb most (length text) h)) refl

pub file-read : (form : Form) (raw : Bool) (book : List Entry) (config : Config) (file : Option (List ℕ)) (text : List ℕ) (t : Printed) → file ≡ Some text → length text ≤ most → ReportsText form raw book config text t → ReportsFile form raw book config file t
file-read form raw book config file text t is within x = subst (λ (f : Option (List ℕ)). ReportsFile form raw book config f t) (sym is) (short form raw book config text t within x)

pub file-missing : (form : Form) (raw : Bool) (book : List Entry) (config : Config) (file : Option (List ℕ)) → file ≡ None → ReportsFile form raw book config file (failed_as form.json Read)
file-missing form raw book config file is = subst (λ (f : Option (List ℕ)). ReportsFile form raw book config f (failed_as form.json Read)) (sym is) refl

pub file-long : (form : Form) (raw : Bool) (book : List Entry) (config : Config) (file : Option (List ℕ)) → IsSomeAnd file (λ octets. most < length octets) → ReportsFile form raw book config file (failed_as form.json Read)
file-long form raw book config (Some text) h = long form raw book config text h
file-long form raw book config None h = refl

pub input-read : (form : Form) (raw : Bool) (book : List Entry) (config : Config) (input : Option (List ℕ)) (broken : Bool) (text : List ℕ) (t : Printed) → broken ≡ false → ((known : List ℕ) → input ≡ Some known → text ≡ known) → length text ≤ most
    → ReportsText form raw book config text t → ReportsInput form raw book config input broken t
input-read form raw book config input broken text t well ok within x = subst (λ (b : Bool). ReportsInput form raw book config input b t) (sym well)
    (λ known is. subst (λ (u : List ℕ). ReportsRead form raw book config u t) (ok known is) (short form raw book config text t within x))

pub input-unread : (form : Form) (raw : Bool) (book : List Entry) (config : Config) (input : Option (List ℕ)) (broken : Bool) (fault : BenchFault) → IsUnread input broken fault
    → ((fault ≡ NoMemory) × (broken ≡ false)) ⊎ ReportsInput form raw book config input broken (failed_as form.json fault)
input-unread form raw book config input broken fault (inl memory) = inl memory
input-unread form raw book config input broken fault (inr unread) = inr (subst (λ (f : BenchFault). ReportsInput form raw book config input broken (failed_as form.json f)) (sym unread.0) (elim unread.1 [
  | inl broke ↦ subst (λ (b : Bool). ReportsInput form raw book config input b (failed_as form.json Read)) (sym broke) refl
  | inr much ↦ subst (λ (b : Bool). ReportsInput form raw book config input b (failed_as form.json Read)) (sym much.0) (λ known is. long form raw book config known (much.1 known is))
]))

-- a text that gives no octets, or is refused for the limits or for memory
pub none-given : (form : Form) (book : List Entry) (config : Config) (given : Option (List ℕ)) (fault : BenchFault) → fault ≡ input_fault given (is_allowed config)
    → ReportsSpelled form book config given (failed_as form.json fault)
none-given form book config given fault is = go given (is_allowed config) refl is
  where
    go : (given : Option (List ℕ)) (allowed : Bool) → is_allowed config ≡ allowed → fault ≡ input_fault given allowed → ReportsSpelled form book config given (failed_as form.json fault)
    go None allowed limits is = rw is refl
    go (Some octets) false limits is = rw (limits, is) refl
    go (Some octets) true limits is = rw (limits, is) (inr (inl refl))
