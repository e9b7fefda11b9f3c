-- The records at an earlier time, by those of a later one: records are only appended, and few of them can change
-- (RFC 9113, 5.1).
use Rattle.std.specs.Prelude.{◌≡◌, ℕ, Bool, true, false, ◌||◌, List, [], ◌∷◌, ◌++◌, map, take, ◌==◌, if◌then◌else◌, Option, Some, None, slice_get, unwrap_or}
use Rattle.std.specs.List.{AllByRecursion}
use Rattle.std.specs.Option.{is_some}
use Rattle.h2_spec.specs.declared.streams.Stream.{Stream}
use Rattle.h2_spec.specs.Stream.{is_live, record_of}
use Rattle.h2_streams.specs.Kept.{lives, place_of}

-- the record of the same stream in a list, or else this one
abbrev pub as_in : List Stream → Stream → Stream
as_in changed st = unwrap_or (record_of changed st.id) st

-- the first records of a later list, those that have changed as they were
abbrev pub rebuilt : ℕ → List Stream → List Stream → List Stream
rebuilt count changed later = map (as_in changed) (take count later)

-- each of these has a record in the list
abbrev pub AreKnown : List Stream → List Stream → Type 0
AreKnown records changed = AllByRecursion (λ st. is_some (record_of records st.id) ≡ true) changed

-- the records that have not changed are not live
abbrev pub AreOthersClosed : List Stream → List Stream → Type 0
AreOthersClosed changed records = AllByRecursion (λ st. record_of changed st.id ≡ None → is_live st.kind ≡ false) records

-- whether an identifier is this one
abbrev pub is_this : Option ℕ → ℕ → Bool
is_this None id = false
is_this (Some other) id = other == id

-- whether the stream is live, or is this one
abbrev pub is_live_or : Option ℕ → Stream → Bool
is_live_or other st = is_live st.kind || is_this other st.id

-- a record, if there is one and it is live
abbrev pub if_live : Option Stream → List Stream
if_live None = []
if_live (Some st) = if lives st then st ∷ [] else []

-- the live records at these places
abbrev pub live_at : List Stream → List ℕ → List Stream
live_at records [] = []
live_at records (place ∷ places) = if_live (slice_get records place) ++ live_at records places

-- the identifiers of the live ones of these, with their places in a list
abbrev pub live_entries : List Stream → List Stream → List (ℕ × ℕ)
live_entries [] records = []
live_entries (st ∷ sts) records = (if lives st then (st.id, place_of st.id records) ∷ [] else []) ++ live_entries sts records
