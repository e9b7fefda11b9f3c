-- Places in the run of a new connection over octets.
use Rattle.std.specs.Prelude.{◌≡◌, ℕ, ◌+◌, ◌++◌, ◌*◌, ◌<◌, ◌≤◌, Bool, true, false, List, [], ◌∷◌, length, drop, Option}
use Rattle.h2_spec.specs.declared.causes.Cause.{Cause}
use Rattle.h2_spec.specs.declared.connection.Config.{Config}
use Rattle.h2_spec.specs.declared.ignored.Ignored.{Ignored}
use Rattle.h2_spec.specs.Requests.Answer.{Entry}
use Rattle.h2_spec.specs.Texts.Debug.{state_at, sent_at}
use Rattle.h2_spec.specs.Frames.Frame.{Frame, frames_octets}
use Rattle.h2_spec.specs.Opening.{opening_settings}
use Rattle.h2_spec.specs.State.{State, opening}
use Rattle.h2_spec.specs.Trace.{Event, Run, trace}
use Rattle.h2_conn.specs.Connection.{Connection, awaits_preface, going}
use Rattle.h2_conn.specs.Checkpoint.{IsConsistent, CheckpointView, checkpoint_of}
use Rattle.h2_conn.specs.Follows.{Follows}
use Rattle.h2_debug.specs.Items.{IsItem}
use Rattle.h2_debug.specs.Reasons.{reasons_in}
use Rattle.h2_debug.specs.declared.reasons.Reasons.{Reasons}

-- the input of a run: the book and the limits of a new connection, and the octets that it is fed
pub record Source : Type 0 where
  pub book : List Entry
  pub config : Config
  pub octets : List ℕ

-- the same with more octets after those
abbrev pub longer : List ℕ → Source → Source
longer more r = record r { octets = r.octets ++ more }

abbrev pub start : Source → State
start r = opening r.book r.config

abbrev pub events : Source → List Event
events r = (trace (start r) r.octets).events

-- the last position: how many items there are
abbrev pub end : Source → ℕ
end r = length (events r)

-- the state at a position
abbrev pub at : Source → ℕ → State
at r p = state_at (start r) (events r) p

-- the frames that the item at a position sent; the opening SETTINGS at 0
abbrev pub frames_at : Source → ℕ → List Frame
frames_at r p = sent_at (opening_settings r.config ∷ []) (events r) p

abbrev pub sent_octets_at : Source → ℕ → List ℕ
sent_octets_at r p = frames_octets (frames_at r p)

-- why the item at a position was an error, or was ignored; none at 0
abbrev pub reasons_at : Source → ℕ → Reasons
reasons_at r p = reasons_in (start r) (events r) p

abbrev pub cause_at : Source → ℕ → Option Cause
cause_at r p = (reasons_at r p).cause

abbrev pub ignored_at : Source → ℕ → Option Ignored
ignored_at r p = (reasons_at r p).ignored

-- a connection, how many items came before, how many octets it was fed, how many items it took itself, why the last
-- item was an error or was ignored, and what was sent for it
pub record Placed : Type 0 where
  pub connection : Connection
  pub position : ℕ
  pub used : ℕ
  pub ran : ℕ
  pub reasons : Reasons
  pub sent : List ℕ

-- two runs end in one state, with the same octets left
abbrev pub EndAlike : Run → Run → Type 0
EndAlike a b = (a.state ≡ b.state) × (a.rest ≡ b.rest)

-- a place of a run: all items to come are those of the run from its state over the octets after it, which ends as that does
pub record IsAt (r : Source) (p : Placed) : Type 0 where
  pub within : p.position ≤ end r
  pub counted : p.position ≤ p.used
  pub few : p.ran ≤ p.position
  pub used : p.used ≤ length r.octets
  pub goes : p.connection ≡ going (at r p.position) []
  pub later : drop p.position (events r) ≡ (trace (at r p.position) (drop p.used r.octets)).events
  pub ends : EndAlike (trace (at r p.position) (drop p.used r.octets)) (trace (start r) r.octets)
  pub begun : 0 < p.position → awaits_preface (at r p.position).core.phase ≡ false
  pub reasons : p.reasons ≡ reasons_at r p.position
  pub sent : p.sent ≡ sent_octets_at r p.position
  pub follows : (q : ℕ) → q ≤ p.position → Follows (at r q) (at r p.position)

-- the next item was taken, and counted
pub record TakesItem (r : Source) (before after : Placed) : Type 0 where
  pub place : IsAt r after
  pub next : after.position ≡ before.position + 1
  pub ran : after.ran ≡ before.ran + 1
  pub event : Event
  pub first : drop before.position (events r) ≡ event ∷ drop after.position (events r)
  pub item : IsItem after.position (drop before.used r.octets) after.sent event

-- there is none, and the place is as it was
pub record HasNoItem (r : Source) (before after : Placed) : Type 0 where
  pub same : after ≡ before
  pub last : before.position ≡ end r

abbrev pub Advances : Source → Placed → Placed → Bool → Type 0
Advances r before after true = TakesItem r before after
Advances r before after false = HasNoItem r before after

-- a checkpoint of a connection, how many items and how many octets it took, why the last item was an error or was ignored,
-- and what was sent for it
pub record KeptPlace : Type 0 where
  pub checkpoint : CheckpointView
  pub position : ℕ
  pub used : ℕ
  pub reasons : Reasons
  pub sent : List ℕ

-- what is kept of a place
abbrev pub kept_of : Placed → KeptPlace
kept_of p = record { checkpoint = checkpoint_of p.connection.state; position = p.position; used = p.used; reasons = p.reasons; sent = p.sent }

-- what is kept of a place of a run
pub record IsKeptOf (r : Source) (k : KeptPlace) : Type 0 where
  pub place : Placed
  pub here : IsAt r place
  pub consistent : IsConsistent place.connection.state
  pub same : k ≡ kept_of place

-- what is kept of places at multiples of 64 in a row, the first at this multiple
abbrev pub AreKept : Source → ℕ → List KeptPlace → Type 0
AreKept r i [] = Unit {0}
AreKept r i (k ∷ ks) = IsKeptOf r k × (k.position ≡ i * 64) × AreKept r (i + 1) ks

-- a place that was reached, and what is kept: of one place at each multiple of 64 below it, perhaps of it and of some
-- above
pub record IsReached (r : Source) (p : Placed) (kept : List KeptPlace) : Type 0 where
  pub place : IsAt r p
  pub kept_is : AreKept r 0 kept
  pub below : p.position ≤ length kept * 64
