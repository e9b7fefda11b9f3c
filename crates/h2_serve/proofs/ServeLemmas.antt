-- Lines that are printed one after another.
use Rattle.std.proofs.Common.{◌≡◌, ◌∙◌, ℕ, ◌+◌, ◌≤◌, Bool, true, false, List, [], ◌∷◌, ◌++◌, length, Option, Some, None, option_map, Result, Ok, Err, IfErr, OnOk, inl, inr, refl, subst, sym, ap, arith, append_assoc, length-append}
use Rattle.std.proofs.lemmas.List.{append-nil}
use Rattle.h2_serve.specs.declared.driving.drive_fault.DriveEnd.{DriveEnd}
use Rattle.h2_serve.specs.declared.driving.drive_fault.DriveFault.{DriveFault}
use Rattle.h2_serve.specs.Lines.{end_line, end_lines, listening_line}
use Rattle.h2_spec.specs.Causes.Errors.{code_number}
use Rattle.h2_spec.specs.State.{State, ended_code}
use Rattle.h2_conn.specs.Connection.{Connection, going}
use Rattle.h2_serve.specs.Drives.{Drives, EndsAs, drive_state, is_wire_fault}
use Rattle.h2_serve.specs.Wires.{grown}
use Rattle.h2_serve.specs.Ports.{Accepted, Closed, DrivesClient, Event, HandlesAll, HandlesOne, HandlesSome, IsDriven, Listening, ListensSome, Seen, Start, localhost, turns_allowed}
use Rattle.h2_serve.specs.Passes.{gains-two}
use Rattle.h2_serve.specs.Serves.{AcceptsAs, Gains, GainsLines, ListensAs, Serves, ServesAs, ServesOne}
use Rattle.h2_serve.specs.declared.fault.ServeFault.{ServeFault}
use Rattle.h2_serve.specs.declared.fault.ServeFault.TheVariants.{NoMemory, BadConfig, Write, Socket}

pub end_lines-append : (number : ℕ) (ends : List (Result DriveEnd DriveFault)) (end : Result DriveEnd DriveFault)
    → end_lines number (ends ++ end ∷ []) ≡ end_lines number ends ++ end_line (number + length ends) end
end_lines-append number [] end =
    let same : number + 0 ≡ number = omega arith in
    append-nil (end_line number end) ∙ ap (λ (n : ℕ). end_line n end) (sym same)
end_lines-append number (e ∷ es) end =
    let same : (number + 1) + length es ≡ number + length (e ∷ es) = omega arith in
    ap (λ (text : List ℕ). end_line number e ++ text) (end_lines-append (number + 1) es end
    ∙ ap (λ (n : ℕ). end_lines (number + 1) es ++ end_line n end) same)
    ∙ sym (append_assoc (end_line number e) (end_lines (number + 1) es) (end_line (number + length (e ∷ es)) end))

-- ---- wires

grown-grown : (known : Option (List Event)) (a b : List Event) → grown (grown known a) b ≡ grown known (a ++ b)
grown-grown None a b = refl
grown-grown (Some xs) a b = ap (λ (t : List Event). Some t) (append_assoc xs a b)

-- what a connection was that was driven
pub driven-from : (turns : ℕ) (s : State) (c last : Connection) (out out' : List ℕ) (before after : Seen) (end : Result DriveEnd DriveFault) → c ≡ going s []
    → Drives turns (drive_state before.read before.written before.lengths out c) (drive_state after.read after.written after.lengths out' last) end
    → EndsAs end (option_map code_number (ended_code last.state.core.phase)) out' → after.failed ≡ is_wire_fault end
    → IsDriven turns s out before out' after end
driven-from turns s c last out out' before after end is drives ends flag = record {
  last = last;
  drives =
      subst (λ (d : Connection). Drives turns (drive_state before.read before.written before.lengths out d) (drive_state after.read after.written after.lengths out' last) end)
      is drives;
  ends = ends;
  flag = flag;
}

pub drives-client : (start : Start) (s : State) (out : List ℕ) (end : Result DriveEnd DriveFault) (before after : Seen) (left : List ℕ)
    → s ≡ start.state → out ≡ start.out → IsDriven turns_allowed s out before left after end → DrivesClient start before after end
drives-client start s out end before after left is pending driven = (
  left,
  subst (λ (o : List ℕ). IsDriven turns_allowed start.state o before left after end) pending
      (subst (λ (t : State). IsDriven turns_allowed t out before left after end) is driven),
)

pub events-of : (before after : Seen) (log mid log' : Option (List Event)) → mid ≡ grown log (Accepted before ∷ []) → log' ≡ grown mid (Closed after ∷ [])
    → log' ≡ grown log (Accepted before ∷ Closed after ∷ [])
events-of before after log mid log' first last =
    last ∙ ap (λ (l : Option (List Event)). grown l (Closed after ∷ [])) first ∙ grown-grown log (Accepted before ∷ []) (Closed after ∷ [])

-- a client was accepted, driven and closed
pub handles-one : (start : Start) (s : State) (out : List ℕ) (end : Result DriveEnd DriveFault) (before after : Seen) (left : List ℕ)
    (log mid log' : Option (List Event)) → s ≡ start.state → out ≡ start.out
    → mid ≡ grown log (Accepted before ∷ []) → log' ≡ grown mid (Closed after ∷ [])
    → IsDriven turns_allowed s out before left after end → HandlesOne start end log log'
handles-one start s out end before after left log mid log' is pending first last driven =
    (before, after, drives-client start s out end before after left is pending driven, events-of before after log mid log' first last)

-- one client more
pub handles-more : (start : Start) (ends : List (Result DriveEnd DriveFault)) (end : Result DriveEnd DriveFault) (log mid log' : Option (List Event))
    → HandlesAll start ends log mid → HandlesOne start end mid log' → HandlesAll start (ends ++ end ∷ []) log log'
handles-more start [] end log mid log' are one =
    (log', subst (λ (l : Option (List Event)). HandlesOne start end l log') are one, refl)
handles-more start (e ∷ es) end log mid log' are one = (are.0, are.1, handles-more start es end are.0 mid log' are.2 one)

-- nobody was accepted
pub handles-none : (start : Start) (count : ℕ) (log log' : Option (List Event)) → log' ≡ log → HandlesSome start count log log'
handles-none start count log log' same = ([], omega arith, log, refl, inl same)

-- a client was accepted and let go
pub handles-none-but : (start : Start) (count : ℕ) (before : Seen) (log log' : Option (List Event)) → log' ≡ grown log (Accepted before ∷ [])
    → HandlesSome start count log log'
handles-none-but start count before log log' is = ([], omega arith, log, refl, inr (before, is))

-- one was served
pub handles-first : (start : Start) (end : Result DriveEnd DriveFault) (log log' : Option (List Event)) → HandlesOne start end log log'
    → HandlesSome start 1 log log'
handles-first start end log log' one = (end ∷ [], omega arith, log', (log', one, refl), inl refl)

handles-join : (start : Start) (ends more : List (Result DriveEnd DriveFault)) (log mid log' : Option (List Event))
    → HandlesAll start ends log mid → HandlesAll start more mid log' → HandlesAll start (ends ++ more) log log'
handles-join start [] more log mid log' are then = subst (λ (l : Option (List Event)). HandlesAll start more l log') are then
handles-join start (e ∷ es) more log mid log' are then = (are.0, are.1, handles-join start es more are.0 mid log' are.2 then)

-- some, and then some more
pub handles-then : (start : Start) (ends : List (Result DriveEnd DriveFault)) (served more count : ℕ) (log mid log' : Option (List Event))
    → length ends ≡ served → served + more ≤ count → HandlesAll start ends log mid → HandlesSome start more mid log' → HandlesSome start count log log'
handles-then start ends served more count log mid log' is within are some = (
  ends ++ some.0,
  omega (arith, is, within, some.1, length-append ends some.0),
  some.2,
  handles-join start ends some.0 log mid some.2 are some.3,
  some.4,
)

-- ---- lines

-- nothing is printed yet
pub no-lines : (start : Start) (known : Option (List ℕ)) (log : Option (List Event)) → Serves start [] 0 known known log log
no-lines start known log = ([], refl, λ held is. is ∙ ap (λ (t : List ℕ). Some t) (sym (append-nil held)), refl)

-- one connection more
pub lines-more : (start : Start) (text : List ℕ) (count number : ℕ) (before now after : Option (List ℕ)) (log mid log' : Option (List Event))
    → number ≡ count + 1 → Serves start text count before now log mid → ServesOne start number now after mid log'
    → Serves start text (count + 1) before after log log'
lines-more start text count number before now after log mid log' next lines line = (
  lines.0 ++ line.0 ∷ [],
  omega (arith, lines.1, length-append lines.0 (line.0 ∷ [])),
  λ held is.
      let place : number ≡ 1 + length lines.0 = omega (arith, next, lines.1) in
      line.1 (held ++ (text ++ end_lines 1 lines.0)) (lines.2 held is)
      ∙ ap (λ (t : List ℕ). Some t)
      (append_assoc held (text ++ end_lines 1 lines.0) (end_line number line.0)
      ∙ ap (λ (t : List ℕ). held ++ t)
      (append_assoc text (end_lines 1 lines.0) (end_line number line.0)
      ∙ ap (λ (t : List ℕ). text ++ t) (ap (λ (n : ℕ). end_lines 1 lines.0 ++ end_line n line.0) place
      ∙ sym (end_lines-append 1 lines.0 line.0)))),
  handles-more start lines.0 line.0 log mid log' lines.3 line.2,
)

-- its line was printed, or not
pub accepts : (start : Start) (number : ℕ) (before after : Option (List ℕ)) (log log' : Option (List Event)) (end : Result DriveEnd DriveFault)
    (result : Result (Unit {0}) ServeFault) → HandlesOne start end log log' → OnOk result (Gains before after (end_line number end))
    → IfErr result (λ fault. fault ≡ Write) → AcceptsAs start number before after log log' result
accepts start number before after log log' end (Ok u) one line fault = (end, line, one)
accepts start number before after log log' end (Err NoMemory) one line fault = cc
accepts start number before after log log' end (Err BadConfig) one line fault = cc
accepts start number before after log log' end (Err Write) one line fault = tt
accepts start number before after log log' end (Err Socket) one line fault = cc

-- the lines alone
pub lines-of : (start : Start) (text : List ℕ) (count : ℕ) (before after : Option (List ℕ)) (log log' : Option (List Event))
    → Serves start text count before after log log' → GainsLines text count before after
lines-of start text count before after log log' serves = (serves.0, serves.1, serves.2)

-- lines after a text that is printed first
pub lines-behind : (text : List ℕ) (count : ℕ) (before now after : Option (List ℕ)) → Gains before now text
    → GainsLines [] count now after → GainsLines text count before after
lines-behind text count before now after first lines =
    (lines.0, lines.1, gains-two before now after text (end_lines 1 lines.0) first lines.2)

is-true : (allowed : Bool) → (allowed ≡ false → ⊥) → allowed ≡ true
is-true false h = absurd (h refl)
is-true true h = refl

-- the line of the port was printed, and then connections were served
pub listens : (start : Start) (allowed : Bool) (port count : ℕ) (before now after : Option (List ℕ)) (log mid log' : Option (List Event))
    (result : Result (Unit {0}) ServeFault)
    → Gains before now (listening_line port) → mid ≡ grown log (Listening localhost port ∷ [])
    → (allowed ≡ false → result ≡ Err BadConfig) → (result ≡ Err BadConfig → allowed ≡ false)
    → ServesAs start count now after mid log' result → ListensAs start allowed port count before after log log' result
listens start allowed port count before now after log mid log' (Ok u) first here refused bad serves = (
  is-true allowed (λ no. let differ = refused no in cc),
  (
    serves.0,
    serves.1,
    gains-two before now after (listening_line port) (end_lines 1 serves.0) first serves.2,
    subst (λ (l : Option (List Event)). HandlesAll start serves.0 l log') here serves.3,
  ),
)
listens start allowed port count before now after log mid log' (Err NoMemory) first here refused bad serves = (
  is-true allowed (λ no. let differ = refused no in cc),
  (serves.0, serves.1, lines-behind (listening_line port) serves.0 before now after first serves.2),
)
listens start allowed port count before now after log mid log' (Err BadConfig) first here refused bad serves =
    (bad refl, (λ held is. serves.0 ∙ first held is), serves.1 ∙ here)
listens start allowed port count before now after log mid log' (Err Write) first here refused bad serves = tt
listens start allowed port count before now after log mid log' (Err Socket) first here refused bad serves =
    inr (
      is-true allowed (λ no. let differ = refused no in cc),
      (serves.0, serves.1, lines-behind (listening_line port) serves.0 before now after first serves.2),
    )

-- the wires after the port was listened on
pub listens-some : (start : Start) (port count : ℕ) (log mid log' : Option (List Event)) → mid ≡ grown log (Listening localhost port ∷ [])
    → HandlesSome start count mid log' → ListensSome start port count log log'
listens-some start port count log mid log' here some = inr (subst (λ (l : Option (List Event)). HandlesSome start count l log') here some)

-- the same, where what is written is said in another way
pub serves-written : (start : Start) (count : ℕ) (k l before after : Option (List ℕ)) (log log' : Option (List Event)) (result : Result (Unit {0}) ServeFault)
    → k ≡ before → l ≡ after → ServesAs start count k l log log' result → ServesAs start count before after log log' result
serves-written start count k l before after log log' result kb la serves =
    subst (λ (t : Option (List ℕ)). ServesAs start count t after log log' result) kb
    (subst (λ (t : Option (List ℕ)). ServesAs start count k t log log' result) la serves)
