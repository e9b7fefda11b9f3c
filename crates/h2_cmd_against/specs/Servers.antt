-- What is asked of a server before cases are played.
use Rattle.std.specs.Prelude.{◌≡◌, ℕ, ◌==◌, Bool, true, false, if◌then◌else◌, List, [], ◌∷◌, codes, length, Option, Some, None}
use Rattle.h2_spec.specs.Texts.Script.{lines_of}
use Rattle.h2_cmd_exchange.specs.Links.{LinkEvent, Opened, happened}
use Rattle.h2_cmd_exchange.specs.Plays.{Played, Plays}
use Rattle.h2_cmd_judge.specs.declared.event.Event.{Event}
use Rattle.h2_cmd_judge.specs.declared.event.Event.TheVariants.{Goaway, Reset, Answered, Ended, Acknowledged, Pong, Credit, Unreadable}
use Rattle.h2_cmd_judge.specs.declared.event.Seen.{Seen}
use Rattle.h2_cmd_against.specs.Aims.{Aimed, aimed_octets}
use Rattle.h2_cmd_against.specs.declared.server.Server.{Server}

-- a lawful request with its end, after the preface and SETTINGS
abbrev pub request_script : (is_post : Bool) → List ℕ
request_script true = codes "PREFACE\nSETTINGS 00 0 -\nHEADERS 05 1 hi3,i6,i4,a1=\"localhost\""
request_script false = codes "PREFACE\nSETTINGS 00 0 -\nHEADERS 05 1 hi2,i6,i4,a1=\"localhost\""

-- its octets
abbrev pub request : Aimed → (is_post : Bool) → List ℕ
request aim is_post = aimed_octets aim (lines_of (request_script is_post))

-- the status of an event; 0 where it has none
abbrev pub status_of : Event → ℕ
status_of (Goaway code) = 0
status_of (Reset stream code) = 0
status_of (Answered stream status ends) = status
status_of (Ended stream) = 0
status_of Acknowledged = 0
status_of (Pong octets) = 0
status_of (Credit stream octets) = 0
status_of (Unreadable stream) = 0

abbrev pub first_of : (status rest : ℕ) → ℕ
first_of status rest = if status == 0 then rest else status

-- that of the first answer
abbrev pub status_among : List Seen → ℕ
status_among [] = 0
status_among (e ∷ es) = first_of (status_of e.event) (status_among es)

-- a connection is asked for and, where a server takes it, the request is played over it
abbrev pub AsksIf : Aimed → (done is_post : Bool) → Option (List LinkEvent) → Option Played → Option (List LinkEvent) → Type 0
AsksIf aim false is_post log found log' = (found ≡ None) × (log' ≡ log)
AsksIf aim true is_post log found log' =
    (p : Played) × (found ≡ Some p) × Plays (request aim is_post) (24 ∷ 33 ∷ length (request aim is_post) ∷ []) false log p log'

abbrev pub Asks : Aimed → (is_post : Bool) → Option (List LinkEvent) → Option Played → Option (List LinkEvent) → Type 0
Asks aim is_post log found log' = (done : Bool) × AsksIf aim done is_post (happened log (Opened done)) found log'

abbrev pub status_found : Option Played → ℕ
status_found None = 0
status_found (Some p) = status_among p.reading.events

-- the status that a POST gets
abbrev pub AsksPost : Aimed → Option (List LinkEvent) → (status : ℕ) → Option (List LinkEvent) → Type 0
AsksPost aim log status log' = (found : Option Played) × Asks aim true log found log' × (status ≡ status_found found)

-- what is known of a server to which a GET was played, and of which a POST gets this status
abbrev pub IsSurveyed : Played → (post : ℕ) → Server → Type 0
IsSurveyed p post s = (s.octets.items ≡ p.reading.octets) × (s.get ≡ status_among p.reading.events) × (s.post ≡ post) × (s.client ≡ None)

abbrev pub IsFound : Option Played → Option Server → Type 0
IsFound None server = server ≡ None
IsFound (Some p) server = (s : Server) × (server ≡ Some s) × IsSurveyed p 0 s

-- by a GET alone; none where nothing listens
abbrev pub AsksGet : Aimed → Option (List LinkEvent) → Option Server → Option (List LinkEvent) → Type 0
AsksGet aim log server log' = (found : Option Played) × Asks aim false log found log' × IsFound found server

-- with the status that a POST gets
abbrev pub SurveysIf : Aimed → Option Server → Option (List LinkEvent) → Option Server → Option (List LinkEvent) → Type 0
SurveysIf aim None log server log' = (server ≡ None) × (log' ≡ log)
SurveysIf aim (Some s) log server log' = (post : ℕ) × AsksPost aim log post log' × (server ≡ Some (record s { post = post }))

abbrev pub Surveys : Aimed → Option (List LinkEvent) → Option Server → Option (List LinkEvent) → Type 0
Surveys aim log server log' = (found : Option Server) × (mid : Option (List LinkEvent)) × AsksGet aim log found mid × SurveysIf aim found mid server log'
