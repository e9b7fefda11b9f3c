-- How a server ends that explains its connections.
use Rattle.std.proofs.Common.{◌≡◌, ◌⊎◌, ℕ, Bool, false, List, [], ◌∷◌, Option, Result, Ok, Err, IfErr, IfOk, OnErr, refl, if◌then◌else◌, inl, inr, subst, sym, true}
use Rattle.h2_spec.specs.Requests.Answer.{Entry}
use Rattle.h2_spec.specs.State.{is_allowed}
use Rattle.h2_spec.specs.declared.connection.Config.{Config}
use Rattle.h2_cmd_batch.specs.Faults.{fault_line}
use Rattle.h2_serve.specs.Faults.{is_write, not_written}
use Rattle.h2_serve.specs.Passes.{gains-two}
use Rattle.h2_serve.specs.Serves.{Gains, Grew}
use Rattle.h2_serve.specs.Wires.{grown}
use Rattle.h2_explain.specs.declared.run.Form.{Form}
use Rattle.h2_serve.specs.Lines.{listening_line}
use Rattle.h2_serve.specs.Ports.{Event, Listening, localhost, start_of}
use Rattle.h2_serve.specs.Shown.{GainsAllShown, clients_status}
use Rattle.h2_serve.specs.declared.explained.explain.Clients.{Clients}
use Rattle.h2_serve.specs.declared.fault.ServeFault.{ServeFault}
use Rattle.h2_serve.specs.declared.fault.ServeFault.TheVariants.{NoMemory, BadConfig, Write, Socket}
use Rattle.h2_cmd_run.specs.ProgramEnd.{EndsInLine, EndsShown, IsReported}

-- a fault ended it and its line was printed, or the output failed
ended-in : (Shown : Type 0) (before after : Option (List ℕ)) (status : ℕ) → (status ≡ 1) ⊎ (status ≡ 3) → (status ≡ 1 → EndsInLine before after)
    → ((status ≡ 1) × EndsInLine before after) ⊎ ((status ≡ 3) ⊎ Shown)
ended-in Shown before after status (inl one) line = inl (one, line one)
ended-in Shown before after status (inr three) line = inr (inl three)

-- before the port is listened on
pub refused-shown : (Shown : Type 0) (fault : ℕ) (before after : Option (List ℕ)) (status : ℕ) → (status ≡ 1) ⊎ (status ≡ 3)
    → (status ≡ 1 → Gains before after (fault_line fault)) → ((status ≡ 1) × EndsInLine before after) ⊎ ((status ≡ 3) ⊎ Shown)
refused-shown Shown fault before after status is line = ended-in Shown before after status is (λ one. ([], fault, line one))

-- the line of a fault, after what was printed before
line-last : (fault : ℕ) (before now after : Option (List ℕ)) → Grew before now → Gains now after (fault_line fault) → EndsInLine before after
line-last fault before now after front line = (front.0, fault, gains-two before now after front.0 (fault_line fault) front.1 line)

reported-last : (fault : ServeFault) (before now after : Option (List ℕ)) → (is_write fault ≡ false → Grew before now)
    → IsReported (Err fault) now after → EndsInLine before after
reported-last NoMemory before now after grew line = line-last 0 before now after (grew refl) line
reported-last BadConfig before now after grew line = line-last 16 before now after (grew refl) line
reported-last Write before now after grew line = absurd line
reported-last Socket before now after grew line = line-last 28 before now after (grew refl) line

-- all connections were explained, in the form that was asked for
pub ends-shown : (IsBook : List Entry → Type 0) (form asked : Form) (strict : Bool) (book : List Entry) (config : Config) (port count : ℕ)
    (before now after : Option (List ℕ)) (log log' : Option (List Event)) (status : ℕ) (result : Result Clients ServeFault) → form ≡ asked → asked.strict ≡ strict → IsBook book
    → IfOk result (λ clients. (is_allowed config ≡ true) × GainsAllShown form (start_of book config) (listening_line port) count clients before now (grown log (Listening localhost port ∷ [])) log')
    → IfOk result (λ clients. (after ≡ now) × (status ≡ (if strict then clients_status clients else 0)))
    → OnErr result ((status ≡ 1) ⊎ (status ≡ 3)) → (not_written result ≡ false → Grew before now)
    → IfErr result (λ fault. status ≡ 1 → IsReported (Err fault) now after) → EndsShown IsBook asked config port count before after log log' status
ends-shown IsBook form asked strict book config port count before now after log log' status (Ok clients) same is_strict is shows says refused grew line =
    let gained = subst (λ (t : Option (List ℕ)). GainsAllShown form (start_of book config) (listening_line port) count clients before t (grown log (Listening localhost port ∷ [])) log') (sym says.0) shows.1 in
    inr (inr (
      book,
      is,
      (
        clients,
        shows.0,
        subst (λ (f : Form). GainsAllShown f (start_of book config) (listening_line port) count clients before after (grown log (Listening localhost port ∷ [])) log') same gained,
        subst (λ (b : Bool). status ≡ (if b then clients_status clients else 0)) (sym is_strict) says.1,
      ),
    ))
ends-shown IsBook form asked strict book config port count before now after log log' status (Err fault) same is_strict is shows says refused grew line =
    ended-in _ before after status refused (λ one. reported-last fault before now after grew (line one))
