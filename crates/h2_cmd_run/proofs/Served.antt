-- How a server ends in a fault.
use Rattle.std.proofs.Common.{◌≡◌, ◌⊎◌, ◌≤◌, ℕ, ◌++◌, Bool, List, [], ◌∷◌, Option, Result, Ok, Err, OnErr, OnOk, inl, inr, refl, sym, subst, arith}
use Rattle.std.proofs.lemmas.List.{append-nil}
use Rattle.h2_cmd_batch.specs.Faults.{fault_line}
use Rattle.h2_serve.specs.Lines.{listening_line, end_lines}
use Rattle.h2_spec.specs.Requests.Answer.{Entry}
use Rattle.h2_spec.specs.State.{is_allowed}
use Rattle.h2_spec.specs.declared.connection.Config.{Config}
use Rattle.h2_serve.specs.Wires.{grown}
use Rattle.h2_serve.specs.Passes.{gains-two}
use Rattle.h2_serve.specs.Ports.{Event, Listening, ListensSome, Start, localhost, start_of}
use Rattle.h2_serve.specs.Serves.{Gains, GainsLines, ListensAs, Serves}
use Rattle.h2_serve.specs.declared.fault.ServeFault.{ServeFault}
use Rattle.h2_serve.specs.declared.fault.ServeFault.TheVariants.{NoMemory, BadConfig, Write, Socket}
use Rattle.h2_cmd_run.specs.ProgramEnd.{DrivesNoOther, EndsInFault, IsReported, IsServed}

-- a fault before the port is listened on
pub ends-at-once : (port count fault : ℕ) (before after : Option (List ℕ)) → Gains before after (fault_line fault) → EndsInFault port count before after
ends-at-once port count fault before after line = record { fault = fault; text = []; front = inl refl; printed = line }

ends-later : (port count served fault : ℕ) (before now after : Option (List ℕ)) → served ≤ count → GainsLines (listening_line port) served before now
    → Gains now after (fault_line fault) → EndsInFault port count before after
ends-later port count served fault before now after few lines line = record {
  fault = fault;
  text = listening_line port ++ end_lines 1 lines.0;
  front = inr (lines.0, omega (arith, few, lines.1), refl);
  printed = gains-two before now after (listening_line port ++ end_lines 1 lines.0) (fault_line fault) lines.2 line;
}

-- or later
pub ends-reported : (start : Start) (allowed : Bool) (port count : ℕ) (before now after : Option (List ℕ)) (log log' : Option (List Event)) (result : Result (Unit {0}) ServeFault)
    → ListensAs start allowed port count before now log log' result → IsReported result now after → EndsInFault port count before after
ends-reported start allowed port count before now after log log' (Ok u) listens line = absurd line
ends-reported start allowed port count before now after log log' (Err NoMemory) listens line =
    ends-later port count listens.1.0 0 before now after listens.1.1 listens.1.2 line
ends-reported start allowed port count before now after log log' (Err BadConfig) listens line =
    record {
      fault = 16;
      text = listening_line port;
      front = inr ([], omega arith, sym (append-nil (listening_line port)));
      printed = gains-two before now after (listening_line port) (fault_line 16) listens.1 line;
    }
ends-reported start allowed port count before now after log log' (Err Write) listens line = absurd line
ends-reported start allowed port count before now after log log' (Err Socket) (inl same) line =
    ends-at-once port count 28 before after (subst (λ (k : Option (List ℕ)). Gains k after (fault_line 28)) same line)
ends-reported start allowed port count before now after log log' (Err Socket) (inr later) line =
    ends-later port count later.1.0 28 before now after (omega (arith, later.1.1)) later.1.2 line

-- all connections were served
pub served-all : (book : List Entry) (config : Config) (port asked count : ℕ) (before now after : Option (List ℕ)) (log log' : Option (List Event))
    (result : Result (Unit {0}) ServeFault) (status : ℕ) → port ≡ asked
    → ListensAs (start_of book config) (is_allowed config) port count before now log log' result → OnOk result (after ≡ now)
    → OnErr result ((status ≡ 1) ⊎ (status ≡ 3)) → status ≡ 0 → IsServed book config asked count before after log log'
served-all book config port asked count before now after log log' (Ok u) status same listens kept refused zero =
    subst (λ (p : ℕ). IsServed book config p count before after log log') same
    (listens.0, subst (λ (t : Option (List ℕ)). Serves (start_of book config) (listening_line port) count before t (grown log (Listening localhost port ∷ [])) log') (sym kept) listens.1)
served-all book config port asked count before now after log log' (Err fault) status same listens kept (inl one) zero = cc
served-all book config port asked count before now after log log' (Err fault) status same listens kept (inr three) zero = cc

-- and nothing else was done with the port and its clients
pub drives-with : (IsBook : List Entry → Type 0) (book : List Entry) (config : Config) (port asked count : ℕ) (log log' : Option (List Event)) → IsBook book → port ≡ asked
    → ListensSome (start_of book config) port count log log' → DrivesNoOther IsBook config asked count log log'
drives-with IsBook book config port asked count log log' is same wires =
    inr (book, is, subst (λ (p : ℕ). ListensSome (start_of book config) p count log log') same wires)
