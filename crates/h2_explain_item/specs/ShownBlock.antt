-- A field block as it is shown: the fields that the connection has decoded, each with how it was spelled.
use Rattle.std.specs.Prelude.{◌≡◌, ℕ, ◌+◌, ◌^◌, ◌-◌, suc, List, [], ◌∷◌, length, map, min, nat_lt, take, if◌then◌else◌, Option, Some, None}
use Rattle.h2_spec.specs.Hpack.Block.{Decoded, Progress, list_size}
use Rattle.h2_spec.specs.Hpack.Field.{Field, field, size}
use Rattle.h2_spec.specs.State.{Decoding, State}
use Rattle.h2_explain_words.specs.Along.{IsAlong}
use Rattle.h2_explain_words.specs.Spelled as words
use Rattle.h2_explain_words.specs.Spelled.{BlockSpelled, Spelling, read_more, spelling_seen}
use Rattle.h2_explain_item.specs.declared.shown_block.SpelledField.{SpelledField}
use Rattle.h2_explain_item.specs.declared.shown_block.SpelledFields.{SpelledFields}

-- a field and how it was spelled
pub record Spelled : Type 0 where
  pub field : Field
  pub spelling : Spelling

-- a field of the code
abbrev pub field_seen : SpelledField → Spelled
field_seen f = record { field = field f.name.now f.value.now; spelling = spelling_seen f.spelling }

-- a field with its spelling, if there is one
abbrev pub with_spelling : Option Field → Spelling → Option Spelled
with_spelling None s = None
with_spelling (Some f) s = Some (record { field = f; spelling = s })

-- fields, each with its spelling
abbrev pub spelled : List Field → List Spelling → List Spelled
spelled [] ss = []
spelled (f ∷ fs) [] = []
spelled (f ∷ fs) (s ∷ ss) = record { field = f; spelling = s } ∷ spelled fs ss

-- the fields that the connection has decoded of a block, and those that are shown
pub record ShownFields : Type 0 where
  pub decoded : List Field
  pub shown : List Spelled

-- those of the code
abbrev pub fields_seen : {A : Type 0} → SpelledFields A → ShownFields
fields_seen s = record { decoded = s.fields.now.fields; shown = spelled s.fields.now.fields (map spelling_seen s.spellings.now) }

-- ---- how many are shown

-- what fields count with one more, as far as the code counts
abbrev pub up_to_64_bits : ℕ → ℕ
up_to_64_bits n = min n (2 ^ 64 - 1)

abbrev pub size_with : (size : ℕ) → Option Field → ℕ
size_with n None = n
size_with n (Some f) = up_to_64_bits (n + size f)

-- how many fields of a list are shown, where those before them count this much: each before which the others count at
-- most 65,536 octets (RFC 9113, 10.5.1)
abbrev pub shown_of : (before : ℕ) → List Field → ℕ
shown_of before [] = 0
shown_of before (f ∷ fs) = if nat_lt 65536 before then 0 else suc (shown_of (before + size f) fs)

-- the same of a block, which has these fields now: all, unless they count more
abbrev pub most_shown : List Field → Option ℕ
most_shown fields = if nat_lt 65536 (list_size fields) then Some (shown_of 0 fields) else None

-- once not all are shown, it is decided how many are
abbrev pub still_shown : Option ℕ → List Field → Option ℕ
still_shown None fields = most_shown fields
still_shown (Some most) fields = Some most

-- ---- a block

-- the last block of one side of a connection, as it is spelled, and how many of its fields are shown, if not all are
pub record BlocksRead : Type 0 where
  pub block : BlockSpelled
  pub most : Option ℕ

abbrev pub unread : BlocksRead
unread = record { block = words.unread; most = None }

-- a fragment more, with which the block has these fields; the header table has this limit
abbrev pub read_on : BlocksRead → List Field → (limit : ℕ) → List ℕ → BlocksRead
read_on b fields limit fragment = record { block = read_more (length fields) limit b.block fragment; most = still_shown b.most fields }

abbrev pub up_to : {X : Type 0} → Option ℕ → List X → List X
up_to None xs = xs
up_to (Some most) xs = take most xs

-- the fields of the block as they are shown, where it has these
abbrev pub shown_fields : BlocksRead → List Field → ShownFields
shown_fields b fields = record { decoded = fields; shown = spelled fields (up_to b.most b.block.taken.given) }

-- all fields of the block, where it has these
abbrev pub all_fields : BlocksRead → List Field → ShownFields
all_fields b fields = record { decoded = fields; shown = spelled fields b.block.taken.given }

-- ---- beside its decoding by a connection

-- a block is spelled as far as it is decoded: there is a spelling for each field, and the same octets are left
abbrev pub IsSpelled : Decoding → BlocksRead → Type 0
IsSpelled d b = (length b.block.taken.given ≡ length d.fields) × (b.block.rest ≡ d.rest)

-- how far a connection has decoded its block
abbrev pub progress_in : State → Decoding → Progress
progress_in s d = record { fields = d.fields; table = s.table; due = d.due }

-- a fragment more is shown as it is decoded: its instructions lead from one point of the block to the other, and give the
-- spellings, one for each field; and the fields that are shown are these fields, all or the first ones, with these spellings
pub record IsShownAsDecoded (limit : ℕ) (p : Progress) (before : BlocksRead) (d : Decoded) (after : BlocksRead) : Type 0 where
  pub along : IsAlong limit p before.block.taken d after.block
  pub fields : map (λ (x : Spelled). x.field) (shown_fields after d.progress.fields).shown ≡ up_to after.most d.progress.fields
  pub spellings : map (λ (x : Spelled). x.spelling) (shown_fields after d.progress.fields).shown ≡ up_to after.most after.block.taken.given
