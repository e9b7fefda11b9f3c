-- The book of answers, and the response to a request (the server's own choice; RFC 9113, 8.3.2, and RFC 7541, 6).
use Rattle.std.specs.Prelude.{ℕ, ◌+◌, ◌/◌, ◌%◌, Bool, true, false, ◌&&◌, List, [], ◌∷◌, ◌++◌, map, bytes_eq, if◌then◌else◌, Option, Some, None, position, slice_get, flat_map, ◌==◌}
use Rattle.h2_spec.specs.Hpack.Field.{Field}
use Rattle.h2_spec.specs.Hpack.Instruction.{Str, Shape, WithoutIndexing, Ref, Named, Indexed, Update, Literal, spell}
use Rattle.h2_spec.specs.Requests.Request.{Request}
use Rattle.h2_spec.specs.declared.streams.Pick.{Pick}
use Rattle.h2_spec.specs.declared.streams.Pick.TheVariants.{Listed, NotFound, Connect}

-- a response: its status, its fields besides that, its content, and whether it is early: whether it begins at the end
-- of the request's fields, although the request may go on
pub record Answer : Type 0 where
  pub status : ℕ
  pub fields : List Field
  pub body : List ℕ
  pub early : Bool

-- a response of this status, these fields and this content, which begins when the request has ended
abbrev pub answer : ℕ → List Field → List ℕ → Answer
answer status fields body = record { status = status; fields = fields; body = body; early = false }

-- an entry of the book: the requests that it is for, and their answer
pub record Entry : Type 0 where
  pub method : List ℕ
  pub path : List ℕ
  pub answer : Answer

-- the entry's method and path are the request's octets
abbrev pub is_for : Request → Entry → Bool
is_for r e = bytes_eq e.method r.method && bytes_eq e.path r.path

-- the entry at this place, or none
abbrev pub pick_or : Option ℕ → Pick
pick_or (Some i) = Listed i
pick_or None = NotFound

-- the first entry that is for the request; CONNECT has none (8.5)
unfoldable pub pick_of : List Entry → Request → Pick
pick_of book r = if r.connect then Connect else pick_or (position (is_for r) book)

-- a status alone
abbrev pub bare : ℕ → Answer
bare status = answer status [] []

-- the entry's answer, or 404
abbrev pub entry_or : Option Entry → Answer
entry_or (Some e) = e.answer
entry_or None = bare 404

-- the answer that is picked: 404 where no entry is for the request, and 501 to CONNECT (RFC 9110, 15.5.5 and 15.6.2)
abbrev pub picked : List Entry → Pick → Answer
picked book (Listed i) = entry_or (slice_get book i)
picked book NotFound = bare 404
picked book Connect = bare 501

-- ---- the response's field block

-- a string without a Huffman code (RFC 7541, 5.2)
abbrev pub plain_string : List ℕ → Str
plain_string octets = record { huffman = false; octets = octets }

-- a literal without indexing whose name is spelled (RFC 7541, 6.2.2)
abbrev pub plain_literal : Field → Shape
plain_literal f = Literal WithoutIndexing (Named (plain_string f.name)) (plain_string f.value)

-- the statuses that the static table has, from index 8 on (RFC 7541, Appendix A)
abbrev pub indexed_statuses : List ℕ
indexed_statuses = 200 ∷ 204 ∷ 206 ∷ 304 ∷ 400 ∷ 404 ∷ 500 ∷ []

-- the three digits of a status
abbrev pub status_digits : ℕ → List ℕ
status_digits status = (48 + status / 100) ∷ (48 + status / 10 % 10) ∷ (48 + status % 10) ∷ []

-- a status at this place among those: its index; any other: a literal with the name of index 8, :status
-- (8.3.2)
abbrev pub status_at : Option ℕ → ℕ → Shape
status_at (Some place) status = Indexed (8 + place)
status_at None status = Literal WithoutIndexing (Ref 8) (plain_string (status_digits status))

-- the status as a field of the response: by its index where the static table has it (8.3.2)
abbrev pub status_instruction : ℕ → Shape
status_instruction status = status_at (position (λ s. s == status) indexed_statuses) status

-- a size update to 0, where the dynamic table has to be given up first (RFC 7541, 4.2 and 6.3)
abbrev pub update_if : Bool → List Shape
update_if true = Update 0 ∷ []
update_if false = []

-- the instructions of the response's field block: nothing enters the dynamic table
abbrev pub response_instructions : Bool → ℕ → List Field → List Shape
response_instructions size_update_pending status fields = update_if size_update_pending ++ status_instruction status ∷ map plain_literal fields

-- the octets of the response's field block; signal: the dynamic table's size becomes 0 first
unfoldable pub response_block : Bool → ℕ → List Field → List ℕ
unfolding spell
response_block size_update_pending status fields = flat_map spell (response_instructions size_update_pending status fields)
