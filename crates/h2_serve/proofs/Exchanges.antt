-- Turns, one after another: octets are read, fed and answered.
use Rattle.std.proofs.Common.{◌≡◌, ◌≢◌, ◌∙◌, ℕ, ◌+◌, ◌<◌, ◌≤◌, Bool, true, false, List, [], ◌∷◌, ◌++◌, length, take, Option, Result, Ok, Err, refl, ap, sym, subst, arith, append_assoc, length-append}
use Rattle.std.proofs.lemmas.List.{append-nil}
use Rattle.h2_spec.specs.declared.connection.Phase.{Phase}
use Rattle.h2_spec.specs.declared.connection.Phase.TheVariants.{Preface, Settings, Running, Ended}
use Rattle.h2_spec.specs.Frames.Frame.{NoItem}
use Rattle.h2_spec.specs.Frames.Parse.{Front, Stop, Parsed, parse_all, parse_first}
use Rattle.h2_spec.specs.State.{State}
use Rattle.h2_spec.specs.Trace.{Event, Run, event_on, left_by, next_event, next_item, sent_octets, trace}
use Rattle.h2_spec.proofs.ParseLaws.{parse_all-step}
use Rattle.h2_spec.proofs.TraceLaws.{event-uses}
use Rattle.h2_conn.specs.Connection.{Connection, going, is_ended}
use Rattle.h2_conn.specs.Runs.{Fed, Halts, fed}
use Rattle.h2_serve.specs.Wires.{Writes, grown}
use Rattle.h2_serve.specs.Drives.{AreNonempty, Drives, DrivesAs, ReadsAs, HasNoItem, HasRead, DriveState, drive_state, Exchanges, TakesTurns, FedOrHalted, TurnEndsAs, TakesTurn}
use Rattle.h2_serve.specs.declared.driving.drive_fault.DriveEnd.{DriveEnd}
use Rattle.h2_serve.specs.declared.driving.drive_fault.DriveEnd.TheVariants.{Input}
use Rattle.h2_serve.specs.declared.driving.drive_fault.DriveFault.{DriveFault}
use Rattle.h2_serve.specs.declared.driving.drive_fault.DriveFault.TheVariants.{NoMemory, Failed, Read, Write, TurnLimit}
use Rattle.h2_serve.proofs.Growing.{grown-nil, grown-grown}
use Rattle.h2_serve.proofs.Halting.{both, fed-halts, fed-more, sent-none}

-- ---- output that was pending before

fed-behind : (p : List ℕ) (c c' : Connection) (q o o' : List ℕ) → Fed c q o c' o' → Fed c q (p ++ o) c' (p ++ o')
fed-behind p c c' q o o' x = (
  x.0,
  record {
    items = x.1.items;
    after = x.1.after;
    sent =
        ap (λ (m : List ℕ). p ++ m) x.1.sent ∙ sym (append_assoc p o (sent_octets (fed c q).events));
  },
)

halts-behind : (p : List ℕ) (c c' : Connection) (q o o' : List ℕ) → Halts c q o c' o' → Halts c q (p ++ o) c' (p ++ o')
halts-behind p c c' q o o' x =
    record {
      items = x.items;
      within = x.within;
      after = x.after;
      sent = ap (λ (m : List ℕ). p ++ m) x.sent
          ∙ sym (append_assoc p o (sent_octets (take x.items (fed c q).events)));
    }

fed_or_halted-behind : (refused : Bool) (p : List ℕ) (c c' : Connection) (q o o' : List ℕ)
    → FedOrHalted refused c q o c' o' → FedOrHalted refused c q (p ++ o) c' (p ++ o')
fed_or_halted-behind false p c c' q o o' x = fed-behind p c c' q o o' x
fed_or_halted-behind true p c c' q o o' x = halts-behind p c c' q o o' x

fed_or_halted-more : (refused : Bool) (c c' c'' : Connection) (q q' o o' o'' : List ℕ) → Fed c q o c' o'
    → FedOrHalted refused c' q' o' c'' o'' → FedOrHalted refused c (q ++ q') o c'' o''
fed_or_halted-more false c c' c'' q q' o o' o'' x y = fed-more c c' c'' q q' o o' o'' x y
fed_or_halted-more true c c' c'' q q' o o' o'' x y = fed-halts c c' c'' q q' o o' o'' x y

-- ---- a connection that holds back no item

empty-behind : (es fs all : List Event) → all ≡ es ++ fs → length all ≡ length es → fs ≡ []
empty-behind es [] all h g = refl
empty-behind es (f ∷ fs) all h g = absurd (omega (arith, ap length h, g, length-append es (f ∷ fs)))

pub fed-no_item : (c c' : Connection) (q o o' : List ℕ) → Fed c q o c' o' → HasNoItem c'
fed-no_item c c' q o o' x =
    let sum = both c c' q [] x.1.after in
    let same : fed c (q ++ []) ≡ fed c q = ap (fed c) (append-nil q) in
    let none : (fed c' []).events ≡ [] =
    empty-behind (fed c q).events (fed c' []).events (fed c (q ++ [])).events (ap (λ (r : Run). r.events) sum)
    (ap (λ (r : Run). length r.events) same) in (
      0,
      record {
        items = ap (λ (es : List Event). length es) (sym none);
        after = x.1.after ∙ ap (λ (r : Run). going r.state r.rest) (sym same ∙ sum);
        sent = sym (rw none sent-none);
      },
    )

trace-none : (s : State) (b : List ℕ) → next_item s b ≡ NoItem → trace s b ≡ record { events = []; state = s; rest = left_by s.core.phase b }
unfolding trace next_event
trace-none s b e =
    let stop : next_event s b ≡ Stop = ap (event_on s) e in
    let none : parse_all next_event s b ≡ record { elements = []; state = s; rest = b } =
    parse_all-step next_event event-uses s b ∙ ap (λ (x : Front State Event). parse_first s b x (λ t rest. parse_all next_event t rest)) stop in
    ap (λ (t : Parsed State Event). let r : Run = record { events = t.elements; state = t.state; rest = left_by t.state.core.phase t.rest } in r) none

left-same : (p : Phase) (b : List ℕ) → (is_ended p ≡ true → b ≡ []) → left_by p b ≡ b
left-same Preface b over = refl
left-same Settings b over = refl
left-same Running b over = refl
left-same (Ended code) b over = sym (over refl)

-- a connection that took all its items holds back none
pub taken-no_item : (c : Connection) → c.failed ≡ false → next_item c.state c.rest ≡ NoItem → (is_ended c.state.core.phase ≡ true → c.rest ≡ []) → HasNoItem c
taken-no_item c kept none over =
    let run : fed c [] ≡ record { events = []; state = c.state; rest = c.rest } =
    ap (trace c.state) (append-nil c.rest) ∙ trace-none c.state c.rest none
    ∙ ap (λ (b : List ℕ). let r : Run = record { events = []; state = c.state; rest = b } in r) (left-same c.state.core.phase c.rest over) in (
      0,
      record {
        items = ap (λ (r : Run). length r.events) (sym run);
        after = ap (λ (f : Bool). let d : Connection = record { state = c.state; rest = c.rest; failed = f } in d) kept ∙ ap (λ (r : Run). going r.state r.rest) (sym run);
        sent = sym (rw run sent-none);
      },
    )

-- of no octets nothing is sent
pub fed-none : (c : Connection) (out : List ℕ) → HasNoItem c → Fed c [] out c out
fed-none c out none = subst (λ (o : List ℕ). Fed c [] o c o) (append-nil out) (fed-behind out c c [] [] [] none)

-- ---- exchanges, one after another

-- nothing was read, and some of the pending output was written
pub exchanges-write : {read read' known known' lengths lengths' : Option (List ℕ)} {out out' : List ℕ}
    {c : Connection} → HasNoItem c → read' ≡ read → lengths' ≡ lengths
    → Writes known out known' out'
    → Exchanges false (drive_state read known lengths out c) (drive_state read' known' lengths' out' c) []
exchanges-write {read} {read'} {known} {known'} {lengths} {lengths'} {out} {out'} {c} none r l w = record {
  read = [];
  written = w.octets;
  read_is = r ∙ sym (grown-nil read);
  written_is = w.known_is;
  lengths_is = l ∙ sym (grown-nil lengths);
  feeds =
      subst (λ (o : List ℕ). Fed c [] out c o) (sym w.whole) (fed-none c out none);
}

pub exchanges-then : (refused : Bool) {a b c : DriveState} {ls ls' : List ℕ} → Exchanges false a b ls
    → Exchanges refused b c ls' → Exchanges refused a c (ls ++ ls')
exchanges-then refused {a} {b} {c} {ls} {ls'} one two = record {
  read = one.read ++ two.read;
  written = one.written ++ two.written;
  read_is = two.read_is ∙ rw (one.read_is, grown-grown) refl;
  written_is = two.written_is ∙ rw (one.written_is, grown-grown) refl;
  lengths_is = two.lengths_is ∙ rw (one.lengths_is, grown-grown) refl;
  feeds = rw append_assoc (fed_or_halted-more refused a.conn b.conn c.conn one.read two.read a.out
      (one.written ++ b.out) (one.written ++ (two.written ++ c.out))
      one.feeds
      (fed_or_halted-behind refused one.written b.conn c.conn two.read b.out (two.written ++ c.out) two.feeds));
}

-- ---- lengths of reads

nonempty-more : (ns ms : List ℕ) → AreNonempty ns → AreNonempty ms → AreNonempty (ns ++ ms)
nonempty-more [] ms x y = y
nonempty-more (n ∷ ns) ms x y = (x.0, nonempty-more ns ms x.1 y)

pub count-more : (ns ms : List ℕ) (n at : ℕ) → length ns ≡ at → ms ≡ n ∷ [] → length (ns ++ ms) ≡ at + 1
count-more ns ms n at h e = rw e (omega (arith, h, length-append ns (n ∷ [])))

pub nonempty-one : (ns ms : List ℕ) (n : ℕ) → AreNonempty ns → ms ≡ n ∷ [] → 0 < n → AreNonempty (ns ++ ms)
nonempty-one ns ms n x e h = rw e (nonempty-more ns (n ∷ []) x (h, tt))

-- the last read got no octets
pub reads-end : (turns at : ℕ) (ns ms : List ℕ) (n : ℕ) → length ns ≡ at → at < turns → AreNonempty ns → ms ≡ n ∷ []
    → n ≡ 0 → ReadsAs turns (Ok Input) (ns ++ ms)
reads-end turns at ns ms n h l x e z = (
  omega (arith, l, count-more ns ms n at h e),
  (ns, ap (λ (k : List ℕ). ns ++ k) (e ∙ ap (λ (k : ℕ). k ∷ []) z), x),
)

reads-fault : (turns at : ℕ) (ns ms : List ℕ) → length ns ≡ at → at < turns → AreNonempty ns → length ms ≤ 1
    → AreNonempty ms → (length (ns ++ ms) ≤ turns) × AreNonempty (ns ++ ms)
reads-fault turns at ns ms h l x g y = (omega (arith, h, l, g, length-append ns ms), nonempty-more ns ms x y)

-- ---- all turns

pub drives-going : (turns : ℕ) (a b : DriveState) (result : Result DriveEnd DriveFault) → a.conn.failed ≡ false
    → result ≢ Err Failed → TakesTurns turns a b result → Drives turns a b result
drives-going turns a b result h n s = subst (λ (f : Bool). DrivesAs f turns a b result) (sym h) (n, s)

-- a turn ended with a fault
pub fault-drives : (turns at : ℕ) (a b c : DriveState) (ns : List ℕ) (fault : DriveFault) → length ns ≡ at
    → at < turns → AreNonempty ns → a.conn.failed ≡ false
    → Exchanges false a b ns → TakesTurn b c (Err fault) → (out : List ℕ) → TurnEndsAs (Err fault) b.conn c.conn out
    → Drives turns a c (Err fault)
fault-drives turns at a b c ns NoMemory h l x going one t out ends =
    drives-going turns a c (Err NoMemory) going (λ e. cc) (record {
      lengths = ns ++ t.lengths;
      exchanges =
          exchanges-then true one t.exchanges;
      reads = reads-fault turns at ns t.lengths h l x t.reads.0 t.reads.1;
    })
fault-drives turns at a b c ns Failed h l x going one t out ends = absurd ends
fault-drives turns at a b c ns Read h l x going one t out ends =
    drives-going turns a c (Err Read) going (λ e. cc) (record {
      lengths = ns ++ t.lengths;
      exchanges =
          exchanges-then false one t.exchanges;
      reads = reads-fault turns at ns t.lengths h l x t.reads.0 t.reads.1;
    })
fault-drives turns at a b c ns Write h l x going one t out ends =
    drives-going turns a c (Err Write) going (λ e. cc) (record {
      lengths = ns ++ t.lengths;
      exchanges =
          exchanges-then false one t.exchanges;
      reads = reads-fault turns at ns t.lengths h l x t.reads.0 t.reads.1;
    })
fault-drives turns at a b c ns TurnLimit h l x going one t out ends = absurd ends

-- ---- what became of the octets that were read

-- none were read
pub has_read-none : (P : List ℕ → Type 0) (before after : Option (List ℕ)) → after ≡ before → P [] → HasRead P before after
has_read-none P before after same p = ([], same ∙ sym (grown-nil before), p)

-- some were read, and then others
pub has_read-more : (P Q R : List ℕ → Type 0) (a b c : Option (List ℕ)) → HasRead P a b → HasRead Q b c
    → ((x y : List ℕ) → P x → Q y → R (x ++ y)) → HasRead R a c
has_read-more P Q R a b c p q join = (
  p.0 ++ q.0,
  q.1 ∙ ap (λ (k : Option (List ℕ)). grown k q.0) p.1 ∙ grown-grown a p.0 q.0,
  join p.0 q.0 p.2 q.2,
)
