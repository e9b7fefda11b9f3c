-- A connection of a client with a script: what comes is taken item by item, and what goes out for each item is woven.
use Rattle.std.specs.Prelude.{◌≡◌, ℕ, List, [], ◌∷◌, ◌++◌, flat_map, take, Option, Some, None}
use Rattle.h2_cmd_exchange.specs.Links.{LinkEvent, Opened, Sent, Got, Quiet, Ended, Late}
use Rattle.h2_cmd_exchange.specs.declared.link.LinkRead.{LinkRead}
use Rattle.h2_cmd_exchange.specs.declared.link.LinkRead.TheVariants as read
use Rattle.h2_conn.specs.Connection.{Connection}
use Rattle.h2_conn.specs.Runs.{Fed}
use Rattle.h2_cmd_dialogue.specs.Watches.{Watched, watched_items}
use Rattle.h2_cmd_dialogue.specs.Woven.{Answered, Weaving, after_items, woven}
use Rattle.h2_cmd_dialogue.specs.Steps.{Incoming, Step}

-- how far a connection was played: the server's connection, the steps of the script, what the client does, the octets of all
-- items, what came and is no whole item yet, and what is to be written
pub record Course : Type 0 where
  pub conn : Connection
  pub weaving : Weaving
  pub watched : Watched
  pub octets : List ℕ
  pub inbox : List ℕ
  pub out : List ℕ

-- an item that was taken
abbrev pub answered : Incoming → (octets sent : List ℕ) → Answered
answered item octets sent = record { item = item; octets = octets; sent = sent }

-- the octets of items
abbrev pub octets_of : List Answered → List ℕ
octets_of es = flat_map (λ (e : Answered). e.octets) es

-- the server's connection was fed the octets of these items, one after another, and this is what it sends for each
abbrev pub FeedsAll : Connection → List Answered → Connection → Type 0
FeedsAll c [] c' = c' ≡ c
FeedsAll c (e ∷ es) c' = (d : Connection) × Fed c e.octets [] d e.sent × FeedsAll d es c'

-- these items were taken: the server's connection is what it is without a script, and what goes out is woven
pub record Takes (steps : List Step) (c : Course) (es : List Answered) (c' : Course) : Type 0 where
  pub feeds : FeedsAll c.conn es c'.conn
  pub weaving : c'.weaving ≡ after_items steps c.weaving es
  pub watched : c'.watched ≡ watched_items steps c.weaving c.watched es
  pub octets : c'.octets ≡ c.octets ++ octets_of es
  pub out : c'.out ≡ c.out ++ woven steps c.weaving es
  pub inbox : c'.inbox ≡ c.inbox

-- one item was taken, with these octets
abbrev pub TakesOne : List Step → Course → Incoming → (octets : List ℕ) → Course → Type 0
TakesOne steps c item octets c' = (sent : List ℕ) × Takes steps c (answered item octets sent ∷ []) c'

-- some items were taken, which have these octets
abbrev pub TakesSome : List Step → Course → (octets : List ℕ) → Course → Type 0
TakesSome steps c octets c' = (es : List Answered) × (octets_of es ≡ octets) × Takes steps c es c'

-- ---- what happens on the connection

-- the octets that came
abbrev pub got : LinkEvent → List ℕ
got (Opened done) = []
got (Sent octets done) = []
got (Got octets) = octets
got Quiet = []
got Ended = []
got Late = []

-- the octets that were written; where the client did not take all of a write, some of them
abbrev pub put : LinkEvent → List ℕ
put (Opened done) = []
put (Sent octets done) = octets
put (Got octets) = []
put Quiet = []
put Ended = []
put Late = []

-- what a read gave came
abbrev pub with_read : Course → LinkRead → List ℕ → Course
with_read c (read.Octets count) buffer = record c { inbox = c.inbox ++ take count buffer }
with_read c read.Quiet buffer = c
with_read c read.Ended buffer = c

-- what a connection reports, with more events
abbrev pub happened_all : Option (List LinkEvent) → List LinkEvent → Option (List LinkEvent)
happened_all None events = None
happened_all (Some before) events = Some (before ++ events)

-- this happened on the connection, and these items were taken: they have the octets that came, up to those that are no whole item
-- yet; and what was written, followed by what is to be written, is what is woven for them
pub record Goes (steps : List Step) (c : Course) (log : Option (List LinkEvent)) (c' : Course) (log' : Option (List LinkEvent)) : Type 0 where
  pub events : List LinkEvent
  pub items : List Answered
  pub happened : log' ≡ happened_all log events
  pub came : c.inbox ++ flat_map got events ≡ octets_of items ++ c'.inbox
  pub feeds : FeedsAll c.conn items c'.conn
  pub weaving : c'.weaving ≡ after_items steps c.weaving items
  pub watched : c'.watched ≡ watched_items steps c.weaving c.watched items
  pub octets : c'.octets ≡ c.octets ++ octets_of items
  pub written : flat_map put events ++ c'.out ≡ c.out ++ woven steps c.weaving items
