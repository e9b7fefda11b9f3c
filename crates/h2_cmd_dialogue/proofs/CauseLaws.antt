-- The causes of items, one after another.
use Rattle.std.proofs.Common.{◌≡◌, ◌∙◌, ℕ, zero, suc, ◌+◌, ◌-◌, ◌<◌, ◌≤◌, List, [], length, ap, refl, sym, arith, drop, Option, Some, None}
use Rattle.h2_spec.specs.Effect.{cause_of}
use Rattle.h2_spec.specs.Frames.Frame.{Item, Next, NoItem, Got}
use Rattle.h2_spec.specs.Frames.Parse.{Front, Stop, One}
use Rattle.h2_spec.specs.State.{State}
use Rattle.h2_spec.specs.Trace.{Event, event_on, next_event, next_item}
use Rattle.h2_spec.specs.declared.causes.Cause.{Cause}
use Rattle.h2_conn.specs.Connection.{Connection, going}
use Rattle.h2_conn.specs.Reports.{report_of, reported}
use Rattle.h2_conn.specs.declared.report.TakenItem.{TakenItem}
use Rattle.h2_cmd_dialogue.specs.Causes.{cause_after, cause_upto, last_cause}

-- where no whole item is there, the cause stays
pub cause-none : (s : State) (more : ℕ) (b : List ℕ) (cause : Option Cause) → next_event s b ≡ Stop → cause_upto more s b cause ≡ cause
cause-none s zero b cause none = refl
cause-none s (suc more) b cause none = ap (λ (f : Front State Event). cause_after s b cause f (cause_upto more)) none

-- a whole item, and then those after it
pub cause-some : (s t : State) (n place used : ℕ) (b : List ℕ) (cause : Option Cause) (e : Event) → place < n → next_event s b ≡ One e t used
    → cause_upto (n - place) s b cause ≡ cause_upto (n - (place + 1)) t (drop used b) (cause_of s e.item)
cause-some s t n place used b cause e more some =
    let count : n - place ≡ suc (n - (place + 1)) = omega arith in
    ap (λ (k : ℕ). cause_upto k s b cause) count ∙ ap (λ (f : Front State Event). cause_after s b cause f (cause_upto (n - (place + 1)))) some

item-in : (s t : State) (item : Item) (e : Event) (u used : ℕ) → event_on s (Got item u) ≡ One e t used → item ≡ e.item
item-in s t item e u used h = ap item_of h
  where
    item_of : Front State Event → Item
    item_of Stop = item
    item_of (One x r n) = x.item

-- the cause that is reported of an item is that of its event
cause-same : (s t : State) (n : Next) (e : Event) (used : ℕ) (k : TakenItem) → event_on s n ≡ One e t used → reported s n ≡ Some k → k.cause ≡ cause_of s e.item
cause-same s t NoItem e used k h g = cc
cause-same s t (Got item u) e used k h g =
    let same : report_of s item u ≡ k = cc in
    ap (λ (x : TakenItem). x.cause) (sym same) ∙ ap (cause_of s) (item-in s t item e u used h)

pub reported-cause : (s t : State) (b : List ℕ) (e : Event) (used : ℕ) (k : TakenItem) → next_event s b ≡ One e t used → reported s (next_item s b) ≡ Some k
    → k.cause ≡ cause_of s e.item
unfolding next_event
reported-cause s t b e used k h g = cause-same s t (next_item s b) e used k h g

-- an item was taken
pub cause-next : (s t : State) (n place : ℕ) (b rest : List ℕ) (cause : Option Cause) (e : Event) (k : TakenItem) → place < n → next_event s b ≡ One e t k.used
    → Some k ≡ reported s (next_item s b) → rest ≡ drop k.used b → cause_upto (n - (place + 1)) t rest k.cause ≡ cause_upto (n - place) s b cause
cause-next s t n place b rest cause e k more some report is =
    ap (λ (x : List ℕ). cause_upto (n - (place + 1)) t x k.cause) is
    ∙ ap (λ (x : Option Cause). cause_upto (n - (place + 1)) t (drop k.used b) x) (reported-cause s t b e k.used k some (sym report))
    ∙ sym (cause-some s t n place k.used b cause e more some)

-- a new connection
pub cause-init : (c : Connection) (s : State) (octets : List ℕ) → c ≡ going s []
    → (c ≡ going c.state []) × (cause_upto (length octets - 0) c.state octets None ≡ last_cause s octets)
cause-init c s octets same =
    let whole : length octets - 0 ≡ length octets = omega arith in (
      same ∙ sym (ap (λ (k : Connection). going k.state []) same),
      ap (λ (n : ℕ). cause_upto n c.state octets None) whole ∙ ap (λ (k : Connection). cause_upto (length octets) k.state octets None) same,
    )

-- no item is left
pub cause-end : (s : State) (n place : ℕ) (b : List ℕ) (cause : Option Cause) → n ≤ place → cause_upto (n - place) s b cause ≡ cause
cause-end s n place b cause end =
    let none : n - place ≡ 0 = omega (arith, end) in
    ap (λ (k : ℕ). cause_upto k s b cause) none
