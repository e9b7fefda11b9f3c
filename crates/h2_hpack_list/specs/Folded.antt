-- Fields of which those with the octets of an earlier one are there once: spans, and for each field the place of its span.
use Rattle.std.specs.Prelude.{ℕ, ◌<◌, ◌≤◌, List, get_or, length, map}
use Rattle.h2_spec.specs.Hpack.Field.{Field}
use Rattle.h2_hpack_list.specs.Spans.{IsOrdered, field_in}
use Rattle.h2_hpack_list.specs.declared.Span.{Span}

-- a span of no octets
abbrev pub nothing : Span
nothing = record { name = record { start = 0; end = 0 }; value = record { start = 0; end = 0 }; start = 0; end = 0 }

-- the field of the span at a place
abbrev pub field_at : List ℕ → List Span → ℕ → Field
field_at octets spans place = field_in octets (get_or spans place nothing)

-- the fields of the spans at these places
abbrev pub chosen : List ℕ → List Span → List ℕ → List Field
chosen octets spans places = map (field_at octets spans) places

-- places of a list with that many elements
abbrev pub AreBelow : ℕ → List ℕ → Type 0
AreBelow count places = (i : ℕ) → i < length places → get_or places i 0 < count

-- spans of the octets up to this one
abbrev pub AreWithin : ℕ → List Span → Type 0
AreWithin end spans = (i : ℕ) → i < length spans → IsOrdered (get_or spans i nothing) × ((get_or spans i nothing).end ≤ end)
