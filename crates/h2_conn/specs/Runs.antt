-- What feeding octets to a connection results in (RFC 9113, 3.4).
use Rattle.std.specs.Prelude.{◌≡◌, ℕ, ◌≤◌, ◌++◌, ◌-◌, Bool, true, false, List, [], length, take, drop}
use Rattle.h2_spec.specs.declared.connection.Config.{Config}
use Rattle.h2_spec.specs.Requests.Answer.{Entry}
use Rattle.h2_spec.specs.Texts.Debug.{state_at}
use Rattle.h2_spec.specs.Frames.Frame.{frames_octets}
use Rattle.h2_spec.specs.Frames.Parse.{Stop, One, parse_all}
use Rattle.h2_spec.specs.Opening.{opening_octets}
use Rattle.h2_spec.specs.State.{State, opening}
use Rattle.h2_spec.specs.Trace.{Event, Run, left_by, next_event, sent_octets, trace}
use Rattle.h2_spec.specs.Texts.View.{View, view}
use Rattle.h2_conn.specs.declared.feed.one.One as code
use Rattle.h2_conn.specs.Connection.{Connection, going, halted}
use Rattle.h2_spec.specs.Does.{AreShort}

-- the run over more octets
abbrev pub fed : Connection → List ℕ → Run
fed c more = trace c.state (c.rest ++ more)

-- all items were taken: that many, and what is sent for them goes to the end of out
pub record Feeds (c : Connection) (more out : List ℕ) (c' : Connection) (out' : List ℕ) (n : ℕ) : Type 0 where
  pub items : n ≡ length (fed c more).events
  pub after : c' ≡ going (fed c more).state (fed c more).rest
  pub sent : out' ≡ out ++ sent_octets (fed c more).events

-- some first items were taken whole, and nothing of the next one
pub record Halts (c : Connection) (more out : List ℕ) (c' : Connection) (out' : List ℕ) : Type 0 where
  pub items : ℕ
  pub within : items ≤ length (fed c more).events
  pub after : c' ≡ halted (state_at c.state (fed c more).events items)
  pub sent : out' ≡ out ++ sent_octets (take items (fed c more).events)

-- the next item was taken, and with it that many of the octets
pub record TakesOne (c : Connection) (more out : List ℕ) (c' : Connection) (out' : List ℕ) (used : ℕ) : Type 0 where
  pub event : Event
  pub next : State
  pub taken : ℕ
  pub comes : next_event c.state (c.rest ++ more) ≡ One event next taken
  pub used_is : used ≡ taken - length c.rest
  pub after : c' ≡ going next []
  pub sent : out' ≡ out ++ frames_octets event.sent
  pub short : AreShort event.sent

-- all octets wait: there is no item
pub record Waits (c : Connection) (more out : List ℕ) (c' : Connection) (out' : List ℕ) (used : ℕ) : Type 0 where
  pub none : next_event c.state (c.rest ++ more) ≡ Stop
  pub used_is : used ≡ length more
  pub after : c' ≡ going c.state (left_by c.state.core.phase (c.rest ++ more))
  pub sent : out' ≡ out

abbrev pub FeedsAs : Bool → Connection → List ℕ → List ℕ → Connection → List ℕ → ℕ → Type 0
FeedsAs true c more out c' out' used = TakesOne c more out c' out' used
FeedsAs false c more out c' out' used = Waits c more out c' out' used

-- at most one item was taken
abbrev pub FeedsOne : Connection → List ℕ → List ℕ → Connection → List ℕ → code.One → Type 0
FeedsOne c more out c' out' one = FeedsAs one.item c more out c' out' one.used

-- ---- from a state and octets in hand

-- one item leads to the other state and octets, and what is sent goes to the end of out
pub record Takes (s : State) (b out : List ℕ) (t : State) (c out' : List ℕ) : Type 0 where
  pub event : Event
  pub used : ℕ
  pub comes : next_event s b ≡ One event t used
  pub after : event.state ≡ t
  pub rest : c ≡ drop used b
  pub sent : out' ≡ out ++ frames_octets event.sent
  pub short : AreShort event.sent

-- the next item is taken, or there is none
abbrev pub Advances : State → List ℕ → List ℕ → State → List ℕ → List ℕ → Bool → Type 0
Advances s b out t c out' true = Takes s b out t c out'
Advances s b out t c out' false = (next_event s b ≡ Stop) × (t ≡ s) × (c ≡ b) × (out' ≡ out)

-- that many of the items lead to the other state and octets, from where all others are to come
pub record Leads (s : State) (b out : List ℕ) (n : ℕ) (t : State) (c out' : List ℕ) : Type 0 where
  pub within : n ≤ length (parse_all next_event s b).elements
  pub later : drop n (parse_all next_event s b).elements ≡ (parse_all next_event t c).elements
  pub last : (parse_all next_event s b).state ≡ (parse_all next_event t c).state
  pub rest : (parse_all next_event s b).rest ≡ (parse_all next_event t c).rest
  pub after : state_at s (parse_all next_event s b).elements n ≡ t
  pub sent : out' ≡ out ++ sent_octets (take n (parse_all next_event s b).elements)

-- all items were taken
pub record Ran (s : State) (b out : List ℕ) (t : State) (c out' : List ℕ) (n : ℕ) : Type 0 where
  pub items : n ≡ length (parse_all next_event s b).elements
  pub state : (parse_all next_event s b).state ≡ t
  pub rest : (parse_all next_event s b).rest ≡ c
  pub sent : out' ≡ out ++ sent_octets (parse_all next_event s b).elements
  pub after : state_at s (parse_all next_event s b).elements n ≡ t
  pub stops : next_event t c ≡ Stop

-- some first items were taken, and nothing of the next one
pub record Halted (s : State) (b out : List ℕ) (t : State) (out' : List ℕ) : Type 0 where
  pub items : ℕ
  pub within : items ≤ length (parse_all next_event s b).elements
  pub after : t ≡ state_at s (parse_all next_event s b).elements items
  pub sent : out' ≡ out ++ sent_octets (take items (parse_all next_event s b).elements)

-- ---- whole runs

-- all items were taken, however many
abbrev pub Fed : Connection → List ℕ → List ℕ → Connection → List ℕ → Type 0
Fed c more out c' out' = (n : ℕ) × Feeds c more out c' out' n

-- a new connection that all items of the octets were fed to: its state is the last one, and what is sent goes to the
-- end of out
pub record Opens (book : List Entry) (config : Config) (octets out : List ℕ) (c : Connection) (out' : List ℕ) : Type 0 where
  pub sent : out' ≡ out ++ opening_octets config ++ sent_octets (trace (opening book config) octets).events
  pub after : c ≡ going (trace (opening book config) octets).state (trace (opening book config) octets).rest

-- the run of a new connection over octets: what is sent goes to the end of out, and the view is that of the last state
pub record Plays (book : List Entry) (config : Config) (octets out : List ℕ) (shown : View) (out' : List ℕ) : Type 0 where
  pub sent : out' ≡ out ++ opening_octets config ++ sent_octets (trace (opening book config) octets).events
  pub shown_is : shown ≡ view (trace (opening book config) octets).state
