-- What a server prints of connections that are explained, where the octets that its output holds are known; and the
-- verdict on their clients.
use Rattle.std.specs.Prelude.{◌≡◌, ◌<◌, ℕ, zero, suc, ◌+◌, ◌++◌, Bool, ◌||◌, if◌then◌else◌, true, false, List, [], ◌∷◌, Option, Some, None, is_none, is_some, Result, Ok, Err}
use Rattle.h2_serve.specs.Drives.{is_out_of_memory}
use Rattle.h2_serve.specs.Wires.{grown}
use Rattle.h2_serve.specs.declared.driving.drive_fault.DriveEnd.{DriveEnd}
use Rattle.h2_serve.specs.declared.driving.drive_fault.DriveFault.{DriveFault}
use Rattle.h2_serve.specs.declared.driving.drive_fault.DriveFault.TheVariants as drive
use Rattle.h2_explain.specs.Verdicts.{strict_status}
use Rattle.h2_explain.specs.declared.run.Form.{Form}
use Rattle.h2_explain.specs.declared.run.Summary.{Summary}
use Rattle.h2_serve.specs.Faults.{is_write, not_written}
use Rattle.h2_serve.specs.Lines.{end_line, open_line}
use Rattle.h2_serve.specs.Numbered.{prefix_of, prefixed}
use Rattle.h2_serve.specs.Ports.{Accepted, Closed, DrivesClient, Event, Seen, Start}
use Rattle.h2_serve.specs.Serves.{Gains}
use Rattle.h2_serve.specs.ExplainedConns.{Explains}
use Rattle.h2_serve.specs.declared.explained.explain.Clients.{Clients}
use Rattle.h2_serve.specs.declared.explained.explain.ClientEnd.{ClientEnd}
use Rattle.h2_serve.specs.declared.fault.ServeFault.{ServeFault}

-- how the line says that a connection ended: out of memory where some of its explanation is missing
abbrev pub told_end : (cut : Bool) → Result DriveEnd DriveFault → Result DriveEnd DriveFault
told_end cut end = if cut then Err drive.NoMemory else end

-- a client was accepted, its connection was driven from its start to its end, its wire was closed, and this is printed of
-- it: that it is open, the explanation of the octets that were read, each line after the number, and how it ended; nothing
-- sums it up only where it was refused memory while it was driven
pub record IsShown (form : Form) (start : Start) (number : ℕ) (summary : Option Summary) (all : List ℕ) (log log' : Option (List Event)) : Type 0 where
  pub octets : List ℕ
  pub text : List ℕ
  pub cut : Bool
  pub end : Result DriveEnd DriveFault
  pub before : Seen
  pub after : Seen
  pub driven : DrivesClient start before after end
  pub read : after.read ≡ grown before.read octets
  pub events : log' ≡ grown log (Accepted before ∷ Closed after ∷ [])
  pub explains : Explains form start.state octets text cut summary
  pub lost : is_none summary ≡ is_out_of_memory end
  pub printed : all ≡ open_line number ++ (prefixed (prefix_of form.json number) form.json true text ++ end_line number (told_end cut end))

-- the output gained this
abbrev pub GainsShown : Form → Start → (number : ℕ) → Option Summary → (before after : Option (List ℕ)) → (log log' : Option (List Event)) → Type 0
GainsShown form start number summary before after log log' =
    (all : List ℕ) × IsShown form start number summary all log log' × Gains before after all

-- the verdict on no clients
abbrev pub no_clients : Clients
no_clients = record { verdict = record { broken = false; limited = false; unfinished = false }; ended = false; lost = false }

-- with one client more; where nothing sums up its connection, the verdict on it is lost
abbrev pub with_client : Clients → Option Summary → Clients
with_client c None = record c { lost = true }
with_client c (Some s) = record {
  verdict = record {
    broken = c.verdict.broken || s.verdict.broken;
    limited = c.verdict.limited || s.verdict.limited;
    unfinished = c.verdict.unfinished || s.verdict.unfinished;
  };
  ended = c.ended || is_some s.ended;
  lost = c.lost;
}

-- the exit status of `--strict`: 1 where the verdict on a client is lost
abbrev pub clients_status : Clients → ℕ
clients_status c = if c.lost then 1 else strict_status c.verdict c.ended

-- what is printed of `count` connections, the first of which has this number; the verdict on all clients goes from `c` to
-- `c'`
abbrev pub AreShown : Form → Start → (number count : ℕ) → (c c' : Clients) → List ℕ → (log log' : Option (List Event)) → Type 0
AreShown form start number zero c c' all log log' = (c' ≡ c) × (all ≡ []) × (log' ≡ log)
AreShown form start number (suc count) c c' all log log' =
    (summary : Option Summary) × (first rest : List ℕ) × (mid : Option (List Event)) × IsShown form start number summary first log mid
    × (all ≡ first ++ rest) × AreShown form start (number + 1) count (with_client c summary) c' rest mid log'

-- after some text the output gained this of `count` connections, numbered from 1, and this is the verdict on their clients
abbrev pub GainsAllShown : Form → Start → List ℕ → (count : ℕ) → Clients → (before after : Option (List ℕ)) → (log log' : Option (List Event)) → Type 0
GainsAllShown form start front count clients before after log log' =
    (all : List ℕ) × AreShown form start 1 count no_clients clients all log log' × Gains before after (front ++ all)

-- the same of fewer than `count` connections
abbrev pub GainsSomeShown : Form → Start → List ℕ → (count : ℕ) → (before after : Option (List ℕ)) → (log log' : Option (List Event)) → Type 0
GainsSomeShown form start front count before after log log' =
    (shown : ℕ) × (shown < count) × ((clients : Clients) × GainsAllShown form start front shown clients before after log log')

-- whether the output failed while a connection was explained
abbrev pub unwritten : Result ClientEnd ServeFault → Bool
unwritten (Ok x) = not_written x.conclusion
unwritten (Err fault) = is_write fault
