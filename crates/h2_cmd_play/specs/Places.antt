-- A run that is reported place by place, and written as it is made.
use Rattle.std.specs.Prelude.{◌≡◌, ℕ, ◌+◌, ◌-◌, ◌++◌, Bool, true, false, List, [], ◌∷◌, Option, Some, None, Result, Ok, Err, codes, decimal, drop, take, nat_le, nat_lt, if◌then◌else◌}
use Rattle.std.specs.List.{concat}
use Rattle.h2_spec.specs.Requests.Answer.{Entry}
use Rattle.h2_spec.specs.Frames.Frame.{frames_octets}
use Rattle.h2_spec.specs.Opening.{opening_octets}
use Rattle.h2_spec.specs.Frames.Parse.{Stop, One}
use Rattle.h2_spec.specs.Texts.Show.{joined, octets_text, show}
use Rattle.h2_spec.specs.State.{State, opening}
use Rattle.h2_spec.specs.Trace.{Event, next_event, trace}
use Rattle.h2_spec.specs.Texts.View.{View, view}
use Rattle.h2_spec.specs.declared.connection.Config.{Config}
use Rattle.h2_conn.specs.Connection.{Connection, going}
use Rattle.h2_cmd_play.specs.declared.places.PlacesFault.{PlacesFault}
use Rattle.h2_cmd_play.specs.declared.places.ShownPlaces.{ShownPlaces}
use Rattle.h2_cmd_play.specs.declared.places.PlacesFault.TheVariants.{NoMemory, NotWritten}

-- a place in a run: how many items came before it, the octets sent for the last of them, and the text of the state
unfoldable pub item_text : ℕ → List ℕ → View → List ℕ
item_text place sent shown = joined (codes "item " ∷ decimal place ∷ codes "\nsent " ∷ octets_text sent ∷ codes "\n" ∷ []) ++ show shown

-- the items of a run, from this place on
unfoldable pub item_texts : ℕ → List Event → List (List ℕ)
unfolding item_text
item_texts place [] = []
item_texts place (e ∷ es) = item_text place (frames_octets e.sent) (view e.state) ∷ item_texts (place + 1) es

-- each place of a run over octets: its start, of which this is reported, and then its items
abbrev pub places_from : List ℕ → State → List ℕ → List (List ℕ)
places_from start s octets = start ∷ item_texts 1 (trace s octets).events

-- the same of a new connection
abbrev pub places_run : List Entry → Config → List ℕ → List (List ℕ)
places_run book config octets = places_from (item_text 0 (opening_octets config) (view (opening book config))) (opening book config) octets

-- the next item was taken: that many octets, and those that are sent for it
pub record TakesItem (s : State) (b : List ℕ) (c : Connection) (sent : List ℕ) (used : ℕ) : Type 0 where
  pub event : Event
  pub comes : next_event s b ≡ One event c.state used
  pub state : event.state ≡ c.state
  pub after : c ≡ going c.state []
  pub sent_is : sent ≡ frames_octets event.sent

-- or there is none
abbrev pub TakesNext : State → List ℕ → Connection → List ℕ → Option ℕ → Type 0
TakesNext s b c sent None = next_event s b ≡ Stop
TakesNext s b c sent (Some used) = TakesItem s b c sent used

-- ---- which places are written

-- a text that is written where its place is not before the first one
abbrev pub text_shown : ℕ → ℕ → List ℕ → List ℕ
text_shown first place text = if nat_le first place then text else []

-- all of them
abbrev pub all_shown : ShownPlaces
all_shown = record { first = 0; last = None }

-- whether a place comes before the last one
abbrev pub before_last : Option ℕ → ℕ → Bool
before_last None place = true
before_last (Some last) place = nat_lt place last

abbrev pub goes_on : ShownPlaces → ℕ → Bool
goes_on shown place = before_last shown.last place

-- that many of a list; all of it where no number is given
abbrev pub up_to : Option ℕ → List (List ℕ) → List (List ℕ)
up_to None texts = texts
up_to (Some count) texts = take count texts

-- how many places there are up to the last one, the start among them
abbrev pub through : Option ℕ → Option ℕ
through None = None
through (Some last) = Some (last + 1)

-- of the places of a run, of which the start is number 0, those from the first one on and up to the last one
abbrev pub places_shown : ShownPlaces → List (List ℕ) → List (List ℕ)
places_shown shown places = drop shown.first (up_to (through shown.last) places)

-- the same of its items, of which the first is number 1
abbrev pub items_shown : ShownPlaces → List (List ℕ) → List (List ℕ)
items_shown shown items = drop (shown.first - 1) (up_to shown.last items)

-- ---- how writing them ends

-- memory was refused, and of some first items those that are shown were written; or a write failed
abbrev pub StopsAt : ShownPlaces → List (List ℕ) → List ℕ → Option (List ℕ) → PlacesFault → Type 0
StopsAt shown items held after NoMemory = (count : ℕ) × (after ≡ Some (held ++ concat (items_shown shown (take count items))))
StopsAt shown items held after NotWritten = Unit {0}

-- the same of places
abbrev pub Stops : ShownPlaces → List (List ℕ) → List ℕ → Option (List ℕ) → PlacesFault → Type 0
Stops shown places held after NoMemory = (count : ℕ) × (after ≡ Some (held ++ concat (places_shown shown (take count places))))
Stops shown places held after NotWritten = Unit {0}

-- whether a write failed
abbrev pub not_written : Result (Unit {0}) PlacesFault → Bool
not_written (Ok u) = false
not_written (Err NoMemory) = false
not_written (Err NotWritten) = true

-- the places that are shown were written; or those of some first part of the run, until memory was refused; or a write
-- failed
abbrev pub Writes : ShownPlaces → List (List ℕ) → List ℕ → Option (List ℕ) → Result (Unit {0}) PlacesFault → Type 0
Writes shown places held after (Ok u) = after ≡ Some (held ++ concat (places_shown shown places))
Writes shown places held after (Err why) = Stops shown places held after why
