-- How long a response's field block is, by its parts.
use Rattle.std.proofs.Common.{◌≡◌, ◌∙◌, ℕ, ◌+◌, ◌-◌, ◌/◌, ◌<◌, ◌≤◌, true, false, cond, List, [], ◌∷◌, ◌++◌, Option, Some, None, length, take, get_or, length-append, lt-ltb, le-ltb, ltb-false, refl, sym, ap, arith}
use Rattle.std.specs.Prelude.{◌==◌, is_some, nat_lt, position, flat_map}
use Rattle.std.proofs.lemmas.Bool.Decides.{nat_tests}
use Rattle.std.proofs.lemmas.List.{take_more, take_all}
use Rattle.std.proofs.lemmas.List.Quantifiers.{position-Some}
use Rattle.std.proofs.lemmas.List.Folds.{flat_map-map, length-flat_map-take}
use Rattle.h2_spec.specs.Hpack.Field.{Field}
use Rattle.h2_spec.specs.Hpack.Integer.{spell_int}
use Rattle.h2_spec.specs.Hpack.Instruction.{Indexed, Literal, WithoutIndexing, Ref, spell}
use Rattle.h2_spec.specs.Requests.Answer.{indexed_statuses, status_at, status_digits, plain_string, plain_literal, status_instruction, response_block}
use Rattle.h2_spec.specs.Requests.Book.{max_response_block}
use Rattle.std.specs.List.{AllByRecursion}
use Rattle.h2_hpack_instruction.specs.Instructions.{IsWritableField}
use Rattle.h2_request_book.specs.BlockLength.{string_len, status_len, field_len, field_octets, fields_len}

-- ---- a string's length

pub string_len-short : (n : ℕ) → n < 127 → 1 + n ≡ string_len n
unfolding spell_int
string_len-short n h = grind (arith, nat_tests)

pub string_len-middle : (n : ℕ) → 127 ≤ n → n < 255 → 2 + n ≡ string_len n
unfolding spell_int
string_len-middle n h k = grind (arith, nat_tests)

pub string_len-long : (n : ℕ) → 255 ≤ n → n ≤ 16383 → 3 + n ≡ string_len n
unfolding spell_int
string_len-long n h k =
    let two : (n - 127) / 128 < 128 = omega arith in
    rw (le-ltb n 127 (omega arith), le-ltb (n - 127) 128 (omega arith), lt-ltb ((n - 127) / 128) 128 two) refl

-- ---- a status

indexed-len : (place : ℕ) → place < 7 → length (spell (Indexed (8 + place))) ≡ 1
unfolding spell
indexed-len place h = grind (arith, nat_tests)

literal-len : (status : ℕ) → length (spell (Literal WithoutIndexing (Ref 8) (plain_string (status_digits status)))) ≡ 5
unfolding spell
literal-len status = refl

pub status_len-is : (status : ℕ) → status_len status ≡ cond (is_some (position (λ s. s == status) indexed_statuses)) 1 5
status_len-is status = at (position (λ s. s == status) indexed_statuses) refl
  where
    at : (o : Option ℕ) → position (λ s. s == status) indexed_statuses ≡ o → length (spell (status_at o status)) ≡ cond (is_some o) 1 5
    at None e = literal-len status
    at (Some place) e = indexed-len place (position-Some (λ s. s == status) indexed_statuses place 0 e).0

-- ---- fields

literal-parts : (a n b v : List ℕ) → length ((0 ∷ (a ++ n)) ++ (b ++ v)) ≡ 1 + (length a + length n) + (length b + length v)
literal-parts a n b v = omega (arith, length-append (0 ∷ (a ++ n)) (b ++ v), length-append a n, length-append b v)

pub field_len-is : (f : Field) → length (field_octets f) ≡ field_len f
unfolding spell
field_len-is f = literal-parts (spell_int 7 0 (length f.name)) f.name (spell_int 7 0 (length f.value)) f.value

pub response-len : (status : ℕ) (fields : List Field) → length (response_block false status fields) ≡ status_len status + fields_len fields
unfolding response_block
response-len status fields =
    ap (λ xs. length (spell (status_instruction status) ++ xs)) (flat_map-map spell plain_literal fields) ∙ length-append (spell (status_instruction status)) (flat_map field_octets fields)

fields_len-snoc : (fs : List Field) (f : Field) → fields_len (fs ++ f ∷ []) ≡ fields_len fs + field_len f
fields_len-snoc [] f = omega (arith, field_len-is f, length-append (field_octets f) [])
fields_len-snoc (x ∷ xs) f =
    omega (arith, fields_len-snoc xs f, length-append (field_octets x) (flat_map field_octets (xs ++ f ∷ [])), length-append (field_octets x) (flat_map field_octets xs))

-- one field more, as at a turn of a loop
pub fields_len-more : (fields : List Field) (i : ℕ) (f : Field) → i < length fields → f ≡ get_or fields i f → fields_len (take (i + 1) fields) ≡ fields_len (take i fields) + field_len f
fields_len-more fields i f h e =
    let last : take (i + 1) fields ≡ take i fields ++ f ∷ [] = take_more fields i f h ∙ ap (λ x. take i fields ++ x ∷ []) (sym e) in
    ap fields_len last ∙ fields_len-snoc (take i fields) f

-- and all of them are no fewer
pub fields_len-all : (fields : List Field) (i : ℕ) (f : Field) → i < length fields → f ≡ get_or fields i f → fields_len (take i fields) + field_len f ≤ fields_len fields
fields_len-all fields i f h e =
    let all : fields_len (take i fields) + length (field_octets (get_or fields i f)) ≤ fields_len fields = length-flat_map-take field_octets fields i f h in
    let same : length (field_octets (get_or fields i f)) ≡ field_len f = ap (λ x. length (field_octets x)) (sym e) ∙ field_len-is f in
    omega (arith, all, same)

-- ---- a walk over the fields, with the rest of the limit

pub too-long : (status left i : ℕ) (fields : List Field) (f : Field) → i < length fields → f ≡ get_or fields i f → left + status_len status + fields_len (take i fields) ≡ 16383 → left < field_len f → true ≡ nat_lt max_response_block (length (response_block false status fields))
too-long status left i fields f within is so_far above = sym (lt-ltb max_response_block (length (response_block false status fields)) (omega (arith, response-len status fields, fields_len-all fields i f within is)))

pub one-more : (status left rest i : ℕ) (fields : List Field) (f : Field) → i < length fields → f ≡ get_or fields i f → left + status_len status + fields_len (take i fields) ≡ 16383 → rest + field_len f ≡ left → rest + status_len status + fields_len (take (i + 1) fields) ≡ 16383
one-more status left rest i fields f within is so_far less = omega (arith, fields_len-more fields i f within is)

pub short-enough : (status left i : ℕ) (fields : List Field) → length fields ≤ i → left + status_len status + fields_len (take i fields) ≡ 16383 → false ≡ nat_lt max_response_block (length (response_block false status fields))
short-enough status left i fields all so_far =
    let whole : fields_len (take i fields) ≡ fields_len fields = ap fields_len (take_all i fields all) in
    sym (le-ltb max_response_block (length (response_block false status fields)) (omega (arith, response-len status fields, whole)))

-- ---- what a block within its limit says of its strings

strings-within : (n : ℕ) (fs : List Field) → fields_len fs ≤ n → n ≤ 33554432 → AllByRecursion IsWritableField fs
strings-within n [] h k = tt
strings-within n (f ∷ fs) h k =
    let parts : fields_len (f ∷ fs) ≡ field_len f + fields_len fs = length-append (field_octets f) (flat_map field_octets fs) ∙ ap (λ m. m + fields_len fs) (field_len-is f) in
    ((omega (arith, parts), omega (arith, parts)), strings-within n fs (omega (arith, parts)) k)

pub writable-fields : (status : ℕ) (fields : List Field) → nat_lt max_response_block (length (response_block false status fields)) ≡ false → AllByRecursion IsWritableField fields
writable-fields status fields e =
    let most : length (response_block false status fields) ≤ 16383 = ltb-false max_response_block (length (response_block false status fields)) e in
    strings-within 16383 fields (omega (arith, most, response-len status fields)) (omega arith)
