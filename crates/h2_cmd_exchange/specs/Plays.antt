-- A case played to a server: its pieces are sent one after another, and after each one what comes is read until nothing
-- comes any more.
use Rattle.std.specs.Prelude.{◌≡◌, ℕ, ◌+◌, ◌-◌, ◌^◌, min, Bool, true, false, ◌&&◌, ◌||◌, not, is_some, nat_le, if◌then◌else◌, List, [], ◌∷◌, length, take, drop, Option, Some, None}
use Rattle.std.specs.Str.{bytes_eq}
use Rattle.h2_cmd_exchange.specs.Links.{LinkEvent, Opened, Sent, Got, Quiet, Ended, Late, happened}
use Rattle.h2_cmd_judge.specs.Readings.{Reading, is_http1, new_reading, read_more}
use Rattle.h2_cmd_judge.specs.declared.event.Event.{Event}
use Rattle.h2_cmd_judge.specs.declared.event.Event.TheVariants as event
use Rattle.h2_cmd_judge.specs.declared.event.Seen.{Seen}
use Rattle.h2_cmd_judge.specs.declared.judge.Ending.{Ending}

-- how far a case is played: what arrived, the number of the last piece that was sent, that of the piece after which the server
-- closed the connection, and whether the time of the case was over
pub record Played : Type 0 where
  pub reading : Reading
  pub number : ℕ
  pub closed : Option ℕ
  pub late : Bool

-- nothing happened yet
abbrev pub unplayed : Played
unplayed = record { reading = new_reading; number = 0; closed = None; late = false }

-- the most octets that are read in a case
abbrev pub most : ℕ
most = 16777216

-- it took too long, or too much came
abbrev pub is_cut : Played → Bool
is_cut p = p.late || not (nat_le (length p.reading.octets) most)

-- more is sent and read
abbrev pub is_open : Played → Bool
is_open p = not (is_cut p) && not (is_some p.closed)

-- ---- what comes

-- something happened after the last piece
abbrev pub heard : Played → LinkEvent → Played
heard p (Opened done) = p
heard p (Sent octets done) = p
heard p (Got octets) = record p { reading = read_more p.number p.reading octets }
heard p Quiet = p
heard p Ended = record p { closed = Some p.number }
heard p Late = record p { late = true }

-- the octets of the PING at the end, `probe!!!`
abbrev pub probe : List ℕ
probe = 112 ∷ 114 ∷ 111 ∷ 98 ∷ 101 ∷ 33 ∷ 33 ∷ 33 ∷ []

-- an event answers it
abbrev pub is_answer : Event → Bool
is_answer (event.Goaway code) = false
is_answer (event.Reset stream code) = false
is_answer (event.Answered stream status ends) = false
is_answer (event.Ended stream) = false
is_answer event.Acknowledged = false
is_answer (event.Pong octets) = bytes_eq octets probe
is_answer (event.Credit stream octets) = false
is_answer (event.Unreadable stream) = false

-- one of these does
abbrev pub have_answer : List Seen → Bool
have_answer [] = false
have_answer (e ∷ es) = is_answer e.event || have_answer es

-- reading goes on: not where only the answer to the PING is waited for, and it came
abbrev pub goes_on : (asked : Bool) → Played → Bool
goes_on asked p = is_open p && not (asked && have_answer p.reading.events)

-- an event is that octets came, or not
abbrev pub IsGot : LinkEvent → (came : Bool) → Type 0
IsGot (Opened done) came = ⊥
IsGot (Sent octets done) came = ⊥
IsGot (Got octets) came = came ≡ true
IsGot Quiet came = came ≡ false
IsGot Ended came = came ≡ false
IsGot Late came = came ≡ false

-- one thing happened while reading
abbrev pub HearsOne : Played → Option (List LinkEvent) → (came : Bool) → Played → Option (List LinkEvent) → Type 0
HearsOne p log came p' log' = (e : LinkEvent) × IsGot e came × (p' ≡ heard p e) × (log' ≡ happened log e)

-- an event of reading ends it, or something follows
abbrev pub Follows : LinkEvent → (ends follows : Type 0) → Type 0
Follows (Opened done) ends follows = ⊥
Follows (Sent octets done) ends follows = ⊥
Follows (Got octets) ends follows = follows
Follows Quiet ends follows = ends
Follows Ended ends follows = follows
Follows Late ends follows = follows

-- what comes was read, event by event, up to the first wait in which nothing came, or as long as it goes on
abbrev pub Listens : (asked : Bool) → Played → Option (List LinkEvent) → List LinkEvent → Played → Option (List LinkEvent) → Type 0
Listens asked p log [] p' log' = (goes_on asked p ≡ false) × (p' ≡ p) × (log' ≡ log)
Listens asked p log (e ∷ es) p' log' =
    (goes_on asked p ≡ true)
    × Follows e ((p' ≡ p) × (log' ≡ happened log e)) (Listens asked (heard p e) (happened log e) es p' log')

abbrev pub ListensFor : (asked : Bool) → Played → Option (List LinkEvent) → Played → Option (List LinkEvent) → Type 0
ListensFor asked p log p' log' = (es : List LinkEvent) × Listens asked p log es p' log'

-- ---- pieces

-- numbers of 32 bits, which end at the greatest
abbrev pub one_more : ℕ → ℕ
one_more n = min (n + 1) (2 ^ 32 - 1)

-- one piece more is sent
abbrev pub with_piece : Played → Played
with_piece p = record p { number = one_more p.number }

-- a connection that could not take a piece is closed after it
abbrev pub closed_if : (done : Bool) → (number : ℕ) → Option ℕ → Option ℕ
closed_if true number closed = closed
closed_if false number (Some before) = Some before
closed_if false number None = Some number

abbrev pub taken_if : (done : Bool) → Played → Played
taken_if done p = record p { closed = closed_if done p.number p.closed }

-- a piece is sent, where the connection is open, and what comes after it is read
abbrev pub SendsIf : (goes : Bool) → (asked : Bool) → List ℕ → Played → Option (List LinkEvent) → Played → Option (List LinkEvent) → Type 0
SendsIf false asked piece p log p' log' = (p' ≡ p) × (log' ≡ log)
SendsIf true asked piece p log p' log' =
    (done : Bool) × (q : Played) × ListensFor asked (with_piece p) (happened log (Sent piece done)) q log' × (p' ≡ taken_if done q)

abbrev pub Sends : (asked : Bool) → List ℕ → Played → Option (List LinkEvent) → Played → Option (List LinkEvent) → Type 0
Sends asked piece p log p' log' = SendsIf (is_open p) asked piece p log p' log'

-- the octets from one place up to another
abbrev pub between : List ℕ → (start end : ℕ) → List ℕ
between octets start end = take (end - start) (drop start octets)

-- the pieces of octets up to these places are sent, one after another
abbrev pub SendsAll : List ℕ → (start : ℕ) → (ends : List ℕ) → Played → Option (List LinkEvent) → Played → Option (List LinkEvent) → Type 0
SendsAll octets start [] p log p' log' = (p' ≡ p) × (log' ≡ log)
SendsAll octets start (end ∷ ends) p log p' log' =
    (q : Played) × (mid : Option (List LinkEvent)) × Sends false (between octets start end) p log q mid
    × SendsAll octets end ends q mid p' log'

-- PING with these octets (RFC 9113, 6.7)
abbrev pub probe_frame : List ℕ
probe_frame = 0 ∷ 0 ∷ 8 ∷ 6 ∷ 0 ∷ 0 ∷ 0 ∷ 0 ∷ 0 ∷ probe

-- where that is asked for, a PING asks whether the connection is alive; what comes after its answer is read too
abbrev pub AsksIf : (asks : Bool) → Played → Option (List LinkEvent) → Played → Option (List LinkEvent) → Type 0
AsksIf false p log p' log' = (p' ≡ p) × (log' ≡ log)
AsksIf true p log p' log' =
    (q : Played) × (mid : Option (List LinkEvent)) × Sends true probe_frame p log q mid × ListensFor false q mid p' log'

-- a case was played: what the server sends by itself was read, the pieces of the octets up to these places were sent, and
-- then the PING
abbrev pub Plays : (octets ends : List ℕ) → (asks : Bool) → (log : Option (List LinkEvent)) → Played → (log' : Option (List LinkEvent)) → Type 0
Plays octets ends asks log p' log' =
    (p : Played) × (one : Option (List LinkEvent)) × ListensFor false unplayed log p one
    × (q : Played) × (two : Option (List LinkEvent)) × SendsAll octets 0 ends p one q two × AsksIf asks q two p' log'

-- ---- the end

-- whether the PING was answered, where it was sent and the connection was not closed
abbrev pub answers_of : (asks : Bool) → Played → Option Bool
answers_of asks p = if asks && not (is_some p.closed) then Some (have_answer p.reading.events) else None

-- how the connection ended
abbrev pub ending_of : (asks : Bool) → Played → Ending
ending_of asks p = record { closed = p.closed; answers = answers_of asks p; http1 = is_http1 p.reading.octets }
