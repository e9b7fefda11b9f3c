-- Fields as spans of one list of octets, which can share octets.
use Rattle.std.specs.Prelude.{◌≡◌, ℕ, ◌-◌, ◌≤◌, List, [], ◌∷◌, take, drop, length}
use Rattle.h2_spec.specs.Hpack.Field.{Field, field}
use Rattle.h2_hpack_list.specs.declared.OctetRange.{OctetRange}
use Rattle.h2_hpack_list.specs.declared.Span.{Span}

-- the octets from a place up to another
abbrev pub between : ℕ → ℕ → List ℕ → List ℕ
between start end octets = take (end - start) (drop start octets)

-- the field of a span
abbrev pub field_in : List ℕ → Span → Field
field_in octets s = field (between s.name.start s.name.end octets) (between s.value.start s.value.end octets)

-- name and value are parts of the octets up to the span's end
pub record IsOrdered (s : Span) : Type 0 where
  pub start : s.start ≤ s.end
  pub name : s.name.start ≤ s.name.end
  pub name_within : s.name.end ≤ s.end
  pub value : s.value.start ≤ s.value.end
  pub value_within : s.value.end ≤ s.end

-- spans whose fields were added one after another, from a length of the octets up to another
abbrev pub AreSpans : ℕ → List Span → ℕ → Type 0
AreSpans start [] end = start ≡ end
AreSpans start (s ∷ spans) end = (s.start ≡ start) × (IsOrdered s × AreSpans s.end spans end)

-- a part of the octets that is this text
pub record IsPart (part : OctetRange) (octets text : List ℕ) : Type 0 where
  pub ordered : part.start ≤ part.end
  pub within : part.end ≤ length octets
  pub is : between part.start part.end octets ≡ text
