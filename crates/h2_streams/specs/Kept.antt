-- What the records, the map of the live streams and the identifiers of those that can send keep.
use Rattle.std.specs.Prelude.{◌≡◌, ℕ, suc, ◌+◌, ◌*◌, ◌<◌, ◌≤◌, Bool, false, ◌&&◌, ◌||◌, List, [], ◌∷◌, ◌++◌, map, length, nat_lt, ◌==◌, if◌then◌else◌, Option, Some, None, find, slice_get, pos, int_lt}
use Rattle.std.specs.List.{filter}
use Rattle.std.specs.Option.{option_map, option_map_or}
use Rattle.h2_spec.specs.declared.streams.Stream.{Stream}
use Rattle.h2_spec.specs.Stream.{id_of, is_live, live_count, octets_waiting, AreRising}

-- whether the stream can send: it has octets to send, and a send window that lets some of them pass (RFC 9113, 6.9)
abbrev pub is_ready : Stream → Bool
is_ready st = nat_lt 0 (octets_waiting st) && int_lt (pos 0) st.numbers.send

-- a stream above this one that can send
abbrev pub ready_above : ℕ → Stream → Bool
ready_above after st = nat_lt after st.id && is_ready st

-- the first stream above this one that can send
abbrev pub next_ready : ℕ → List Stream → Option ℕ
next_ready after streams = option_map id_of (find (ready_above after) streams)

-- whether one side of the stream or both are open
abbrev pub lives : Stream → Bool
lives st = is_live st.kind

-- the identifiers of the records that pass a test
abbrev pub ids_of : (Stream → Bool) → List Stream → List ℕ
ids_of test [] = []
ids_of test (st ∷ sts) = if test st then st.id ∷ ids_of test sts else ids_of test sts

-- the places of the records that pass a test, from 0
abbrev pub places_of : (Stream → Bool) → List Stream → List ℕ
places_of test [] = []
places_of test (st ∷ sts) = if test st then 0 ∷ map suc (places_of test sts) else map suc (places_of test sts)

-- identifiers or places that rise from this number on
abbrev pub IdsRise : ℕ → List ℕ → Type 0
IdsRise low [] = Unit {0}
IdsRise low (x ∷ xs) = (low ≤ x) × IdsRise (suc x) xs

-- records whose identifiers rise above this number
abbrev pub Rise : ℕ → List Stream → Type 0
Rise low [] = Unit {0}
Rise low (st ∷ sts) = (low < st.id) × Rise st.id sts

-- how many records of a rising list are below this identifier
abbrev pub place_of : ℕ → List Stream → ℕ
place_of id [] = 0
place_of id (st ∷ sts) = if nat_lt st.id id then suc (place_of id sts) else 0

-- identifiers or places without this one
abbrev pub without : ℕ → List ℕ → List ℕ
without id [] = []
without id (x ∷ xs) = if x == id then xs else x ∷ without id xs

-- rising identifiers with this one
abbrev pub placed : ℕ → List ℕ → List ℕ
placed id [] = id ∷ []
placed id (x ∷ xs) = if nat_lt id x then id ∷ x ∷ xs else if x == id then x ∷ xs else x ∷ placed id xs

-- with this one, or without it
abbrev pub listed : Bool → ℕ → List ℕ → List ℕ
listed is_in id ids = if is_in then placed id ids else without id ids

-- identifiers that rise, from the first above this number on
abbrev pub above : ℕ → List ℕ → List ℕ
above after [] = []
above after (x ∷ xs) = if nat_lt after x then x ∷ xs else above after xs

-- whether the record at this place passes a test
abbrev pub passes_at : (Stream → Bool) → List Stream → ℕ → Bool
passes_at test records place = option_map_or test (slice_get records place) false

-- the identifier of a record, if there is one and it passes a test
abbrev pub id_if : (Stream → Bool) → Option Stream → List ℕ
id_if test None = []
id_if test (Some st) = if test st then st.id ∷ [] else []

-- the identifiers of the records at these places that pass a test
abbrev pub ids_at : (Stream → Bool) → List Stream → List ℕ → List ℕ
ids_at test records [] = []
ids_at test records (place ∷ places) = id_if test (slice_get records place) ++ ids_at test records places

-- an identifier and a place, one record further
abbrev pub next_entry : ℕ × ℕ → ℕ × ℕ
next_entry e = (e.0, suc e.1)

-- the identifiers and the places of the records that pass a test
abbrev pub entries_of : (Stream → Bool) → List Stream → List (ℕ × ℕ)
entries_of test [] = []
entries_of test (st ∷ sts) = if test st then (st.id, 0) ∷ map next_entry (entries_of test sts) else map next_entry (entries_of test sts)

-- whether the map has the stream: it is live, or it ended and was left there
abbrev pub is_entered : (ℕ → Bool) → Stream → Bool
is_entered left st = lives st || left st.id

-- whether that many streams that ended are in the map that they are taken out
abbrev pub are_dropped : ℕ → List (ℕ × ℕ) → Bool
are_dropped ended entries = nat_lt (length entries + 32) (2 * ended)

-- the entries once that many have ended
abbrev pub entries_left : ℕ → List Stream → List (ℕ × ℕ) → List (ℕ × ℕ)
entries_left ended records entries = if are_dropped ended entries then filter (λ e. passes_at lives records e.1) entries else entries

-- and how many of them have
abbrev pub ended_left : ℕ → List (ℕ × ℕ) → ℕ
ended_left ended entries = if are_dropped ended entries then 0 else ended

-- the records, the entries of the map of the live streams, how many of these have ended, the identifiers of those that
-- can send, and the last stream that was opened
pub record IsKept (records : List Stream) (entries : List (ℕ × ℕ)) (ended : ℕ) (ready : List ℕ) (last : ℕ) : Type 0 where
  pub rising : AreRising 0 last records
  pub left : ℕ → Bool
  pub entered : entries ≡ entries_of (is_entered left) records
  pub counted : length entries ≡ live_count records + ended
  pub few : ended ≤ live_count records + 32
  pub ready_listed : ready ≡ ids_of is_ready records
