-- What is printed of connections that are explained, one after another.
use Rattle.std.proofs.Common.{◌≡◌, ◌<◌, ◌≤◌, ◌⊎◌, inr, ◌∙◌, ℕ, zero, suc, ◌+◌, Bool, true, false, List, [], ◌∷◌, ◌++◌, length, Option, Some, is_none, Result, Ok, Err, IfErr, IfOk, refl, sym, ap, subst, arith, append_assoc}
use Rattle.std.proofs.lemmas.Bool.{false≢true}
use Rattle.std.proofs.lemmas.List.{append-nil}
use Rattle.std.specs.Io.KnownBytes.{Appends}
use Rattle.h2_spec.specs.State.{State}
use Rattle.h2_serve.specs.declared.driving.drive_fault.DriveEnd.{DriveEnd}
use Rattle.h2_serve.specs.declared.driving.drive_fault.DriveFault.{DriveFault}
use Rattle.h2_explain.specs.declared.run.Form.{Form}
use Rattle.h2_explain.specs.declared.run.Summary.{Summary}
use Rattle.h2_serve.specs.Faults.{faults_limits, is_of_printing, not_written}
use Rattle.h2_serve.specs.Lines.{end_line, listening_line, open_line}
use Rattle.h2_serve.specs.Numbered.{prefix_of, prefixed}
use Rattle.h2_serve.specs.Drives.{HasRead, is_out_of_memory}
use Rattle.h2_serve.specs.Wires.{grown}
use Rattle.h2_serve.specs.Ports.{Accepted, Closed, Event, HandlesAll, HandlesSome, IsDriven, Seen, Start, turns_allowed}
use Rattle.h2_serve.specs.Passes.{gains-of, gains-two, grew-more, grew-none}
use Rattle.h2_serve.specs.Serves.{Gains, Grew, opening_fault}
use Rattle.h2_serve.specs.Shown.{AreShown, GainsAllShown, GainsShown, GainsSomeShown, IsShown, no_clients, told_end, with_client}
use Rattle.h2_serve.specs.ExplainedConns.{Explains, Shows}
use Rattle.h2_serve.proofs.ServeLemmas.{drives-client, events-of, handles-then}
use Rattle.h2_serve.specs.declared.explained.explain.Clients.{Clients}
use Rattle.h2_serve.specs.declared.explained.explain.ClientEnd.{ClientEnd}
use Rattle.h2_serve.specs.declared.explained.explained_conn.Conclusion.{Conclusion}
use Rattle.h2_serve.specs.declared.fault.ServeFault.{ServeFault}
use Rattle.h2_serve.specs.declared.fault.ServeFault.TheVariants.{BadConfig, NoMemory, Socket, Write}

gains-three : (k l m n : Option (List ℕ)) (a b c : List ℕ) → Gains k l a → Appends l m b → Gains m n c → Gains k n (a ++ (b ++ c))
gains-three k l m n a b c x y z = gains-two k l n a (b ++ c) x (gains-two l m n b c (gains-of l m b y) z)

-- ---- one connection

-- its lines were printed
pub next-shown : (form : Form) (start : Start) (t : State) (out : List ℕ) (number : ℕ) (k l m n : Option (List ℕ)) (log at log' : Option (List Event))
    (before after : Seen) (left : List ℕ) (shown : ClientEnd) (result : Result Conclusion ServeFault)
    → t ≡ start.state → out ≡ start.out → at ≡ grown log (Accepted before ∷ []) → log' ≡ grown at (Closed after ∷ [])
    → Gains k l (open_line number) → IsDriven turns_allowed t out before left after shown.end
    → IfOk shown.conclusion (λ x. HasRead (Shows form number x t l m) before.read after.read)
    → IfOk shown.conclusion (λ x. is_none x.summary ≡ is_out_of_memory shown.end)
    → IfOk result (λ x. Gains m n (end_line number (told_end x.is_cut shown.end)))
    → IfOk result (λ x. shown.conclusion ≡ Ok x)
    → IfOk result (λ x. GainsShown form start number x.summary k n log log')
next-shown form start t out number k l m n log at log' before after left shown (Err fault) is pending opened closed first driven says lost line same = tt
next-shown form start t out number k l m n log at log' before after left shown (Ok x) is pending opened closed first driven says lost line same =
    let read = subst (λ (r : Result Conclusion ServeFault). IfOk r (λ y. HasRead (Shows form number y t l m) before.read after.read)) same says in
    let shows = read.2 in
    let text : List ℕ = prefixed (prefix_of form.json number) form.json true shows.0 in (
      open_line number ++ (text ++ end_line number (told_end x.is_cut shown.end)),
      record {
        octets = read.0;
        text = shows.0;
        cut = x.is_cut;
        end = shown.end;
        before = before;
        after = after;
        driven = drives-client start t out shown.end before after left is pending driven;
        read = read.1;
        events = events-of before after log at log' opened closed;
        explains = subst (λ (u : State). Explains form u read.0 shows.0 x.is_cut x.summary) is shows.1;
        lost = subst (λ (r : Result Conclusion ServeFault). IfOk r (λ y. is_none y.summary ≡ is_out_of_memory shown.end)) same lost;
        printed = refl;
      },
      gains-three k l m n (open_line number) text (end_line number (told_end x.is_cut shown.end)) first shows.2 line,
    )

-- ---- several

are-more : (form : Form) (start : Start) (number count : ℕ) (c c' : Clients) (all more : List ℕ) (summary : Option Summary)
    (log mid log' : Option (List Event))
    → AreShown form start number count c c' all log mid → IsShown form start (number + count) summary more mid log'
    → AreShown form start number (suc count) c (with_client c' summary) (all ++ more) log log'
are-more form start number zero c c' all more summary log mid log' are is =
    let same : number + 0 ≡ number = omega arith in (
      summary,
      more,
      [],
      log',
      subst (λ (l : Option (List Event)). IsShown form start number summary more l log') are.2
          (subst (λ (n : ℕ). IsShown form start n summary more mid log') same is),
      ap (λ (t : List ℕ). t ++ more) are.1 ∙ sym (append-nil more),
      (ap (λ (x : Clients). with_client x summary) are.0, refl, refl),
    )
are-more form start number (suc count) c c' all more summary log mid log' are is =
    let same : number + suc count ≡ (number + 1) + count = omega arith in (
      are.0,
      are.1,
      are.2 ++ more,
      are.3,
      are.4,
      ap (λ (t : List ℕ). t ++ more) are.5 ∙ append_assoc are.1 are.2 more,
      are-more form start (number + 1) count (with_client c are.0) c' are.2 more summary are.3 mid log' are.6
          (subst (λ (n : ℕ). IsShown form start n summary more mid log') same is),
    )

-- what became of the wires
pub shown-handled : (form : Form) (start : Start) (number count : ℕ) (c c' : Clients) (all : List ℕ) (log log' : Option (List Event))
    → AreShown form start number count c c' all log log'
    → (ends : List (Result DriveEnd DriveFault)) × (length ends ≡ count) × HandlesAll start ends log log'
shown-handled form start number zero c c' all log log' are = ([], refl, are.2)
shown-handled form start number (suc count) c c' all log log' are =
    let first = are.4 in
    let more = shown-handled form start (number + 1) count (with_client c are.0) c' are.2 are.3 log' are.6 in
    (first.end ∷ more.0, ap suc more.1, (are.3, (first.before, first.after, first.driven, first.events), more.2))

-- nothing is printed yet
pub none-shown : (form : Form) (start : Start) (known : Option (List ℕ)) (log : Option (List Event))
    → GainsAllShown form start [] 0 no_clients known known log log
none-shown form start known log = ([], (refl, refl, refl), λ held is. is ∙ ap (λ (t : List ℕ). Some t) (sym (append-nil held)))

-- one connection more
pub more-shown : (form : Form) (start : Start) (front : List ℕ) (count number next : ℕ) (c : Clients) (summary : Option Summary)
    (before now after : Option (List ℕ)) (log mid log' : Option (List Event)) → number ≡ count + 1
    → next ≡ count + 1 → GainsAllShown form start front count c before now log mid → GainsShown form start number summary now after mid log'
    → GainsAllShown form start front next (with_client c summary) before after log log'
more-shown form start front count number next c summary before now after log mid log' place is lines line =
    let at : number ≡ 1 + count = omega (arith, place) in
    let more : suc count ≡ next = omega (arith, is) in (
      lines.0 ++ line.0,
      subst (λ (n : ℕ). AreShown form start 1 n no_clients (with_client c summary) (lines.0 ++ line.0) log log') more
          (are-more form start 1 count no_clients c lines.0 line.0 summary log mid log' lines.1
          (subst (λ (n : ℕ). IsShown form start n summary line.0 mid log') at line.1)),
      λ held is.
          line.2 (held ++ (front ++ lines.0)) (lines.2 held is)
          ∙ ap (λ (t : List ℕ). Some t) (append_assoc held (front ++ lines.0) line.0
          ∙ ap (λ (t : List ℕ). held ++ t) (append_assoc front lines.0 line.0)),
    )

-- the wires of those that were shown, and of some more
pub shown-then : (form : Form) (start : Start) (front : List ℕ) (shown more count : ℕ) (c : Clients) (before now : Option (List ℕ))
    (log mid log' : Option (List Event)) → shown + more ≤ count → GainsAllShown form start front shown c before now log mid
    → HandlesSome start more mid log' → HandlesSome start count log log'
shown-then form start front shown more count c before now log mid log' within lines some =
    let are = shown-handled form start 1 shown no_clients c lines.0 log mid lines.1 in
    handles-then start are.0 shown more count log mid log' are.1 within are.2 some

-- after a text that is printed first
shown-after : (form : Form) (start : Start) (front : List ℕ) (count : ℕ) (c : Clients) (before now after : Option (List ℕ)) (log mid log' : Option (List Event))
    → Gains before now front → mid ≡ log → GainsAllShown form start [] count c now after mid log'
    → GainsAllShown form start front count c before after log log'
shown-after form start front count c before now after log mid log' first same lines = (
  lines.0,
  subst (λ (l : Option (List Event)). AreShown form start 1 count no_clients c lines.0 l log') same lines.1,
  λ held is. lines.2 (held ++ front) (first held is)
      ∙ ap (λ (t : List ℕ). Some t) (append_assoc held front lines.0),
)

-- after the line of the port
pub listens-shown : (allowed : Bool) (form : Form) (start : Start) (port count : ℕ) (k l n : Option (List ℕ)) (log mid log' : Option (List Event))
    (result : Result Clients ServeFault)
    → Gains k l (listening_line port) → mid ≡ log → (allowed ≡ false → result ≡ Err BadConfig)
    → IfOk result (λ clients. GainsAllShown form start [] count clients l n mid log')
    → IfOk result (λ clients. (allowed ≡ true) × GainsAllShown form start (listening_line port) count clients k n log log')
listens-shown true form start port count k l n log mid log' (Ok clients) first same refused lines =
    (refl, shown-after form start (listening_line port) count clients k l n log mid log' first same lines)
listens-shown false form start port count k l n log mid log' (Ok clients) first same refused lines = let differ = refused refl in cc
listens-shown allowed form start port count k l n log mid log' (Err fault) first same refused lines = tt

-- ---- limits that are out of range

-- a fault of printing says nothing of limits, and is none of the socket
printing-limits : (fault : ServeFault) → is_of_printing fault ≡ true → faults_limits fault ≡ false
printing-limits NoMemory is = refl
printing-limits BadConfig is = absurd (false≢true is)
printing-limits Write is = refl
printing-limits Socket is = refl

pub prints-no-limits : {X : Type 0} (result : Result X ServeFault) → IfErr result (λ fault. is_of_printing fault ≡ true) → IfErr result (λ fault. faults_limits fault ≡ false)
prints-no-limits (Ok x) is = tt
prints-no-limits (Err fault) is = printing-limits fault is

printing-socket : (fault : ServeFault) (P : Type 0) → is_of_printing fault ≡ true → fault ≡ Socket → P
printing-socket fault P is e = absurd (false≢true (sym (ap is_of_printing e) ∙ is))

pub prints-no-socket : {X : Type 0} (result : Result X ServeFault) (P : Type 0) → IfErr result (λ fault. is_of_printing fault ≡ true) → IfErr result (λ fault. fault ≡ Socket → P)
prints-no-socket (Ok x) P is = tt
prints-no-socket (Err fault) P is = printing-socket fault P is

-- nor is a fault of opening
pub opens-no-socket : (allowed : Bool) (fault : ServeFault) (P : Type 0) → fault ≡ opening_fault allowed → fault ≡ Socket → P
opens-no-socket true fault P is e = cc
opens-no-socket false fault P is e = cc

-- fewer connections were printed, where the next one was not accepted
pub some-shown : (form : Form) (start : Start) (front : List ℕ) (shown count : ℕ) (c : Clients) (before now after : Option (List ℕ)) (log mid log' : Option (List Event))
    → shown < count → GainsAllShown form start front shown c before now log mid → (after ≡ now) × (log' ≡ mid)
    → GainsSomeShown form start front count before after log log'
some-shown form start front shown count c before now after log mid log' few lines same = (
  shown,
  few,
  (
    c,
    subst (λ (t : Option (List ℕ)). GainsAllShown form start front shown c before t log log') (sym same.0)
        (subst (λ (l : Option (List Event)). GainsAllShown form start front shown c before now log l) (sym same.1) lines),
  ),
)

-- after the line of the port
pub listens-some : (form : Form) (start : Start) (front : List ℕ) (count : ℕ) (k l n : Option (List ℕ)) (log mid log' : Option (List Event))
    (result : Result Clients ServeFault) → Gains k l front → mid ≡ log
    → IfErr result (λ fault. fault ≡ Socket → GainsSomeShown form start [] count l n mid log')
    → IfErr result (λ fault. fault ≡ Socket → (n ≡ k) ⊎ GainsSomeShown form start front count k n log log')
listens-some form start front count k l n log mid log' (Ok clients) first same told = tt
listens-some form start front count k l n log mid log' (Err fault) first same told = λ is.
    let some = told is in
    inr (some.0, some.1, (some.2.0, shown-after form start front some.0 some.2.0 k l n log mid log' first same some.2.1))

-- after the line of the port
pub listens-limits : (allowed : Bool) (front : List ℕ) (k l n : Option (List ℕ)) (log log' : Option (List Event)) (result : Result Clients ServeFault) → Gains k l front
    → IfErr result (λ fault. faults_limits fault ≡ true → (allowed ≡ false) × (n ≡ l) × (log' ≡ log))
    → IfErr result (λ fault. faults_limits fault ≡ true → (allowed ≡ false) × Gains k n front)
listens-limits allowed front k l n log log' (Ok clients) first told = tt
listens-limits allowed front k l n log log' (Err fault) first told = λ limits.
    let is = told limits in
    (is.0, subst (λ (t : Option (List ℕ)). Gains k t front) (sym is.1) first)

-- ---- whatever fault ended it, the output gained some text, unless it failed

-- what was printed of connections, and then some text
pub grew-shown : (form : Form) (start : Start) (front : List ℕ) (count : ℕ) (c : Clients) (k l m : Option (List ℕ)) (log log' : Option (List Event))
    → GainsAllShown form start front count c k l log log' → Grew l m → Grew k m
grew-shown form start front count c k l m log log' lines more = grew-more k l m (front ++ lines.0, lines.2) more

-- an output that is as it was
pub grew-same : (k l : Option (List ℕ)) → l ≡ k → Grew k l
grew-same k l same = subst (λ (t : Option (List ℕ)). Grew k t) (sym same) (grew-none k)

-- the line that a connection is open, its explanation, and the line of its end
pub grew-next : {X Y : Type 0} (shown : Result X ServeFault) (result : Result Y ServeFault) (front : List ℕ) (k l m n : Option (List ℕ))
    → Gains k l front → (not_written shown ≡ false → Grew l m) → (not_written result ≡ false → (not_written shown ≡ false) × Grew m n)
    → not_written result ≡ false → Grew k n
grew-next shown result front k l m n first explained ended well =
    let end = ended well in
    grew-more k l n (front, first) (grew-more l m n (explained end.0) end.1)
