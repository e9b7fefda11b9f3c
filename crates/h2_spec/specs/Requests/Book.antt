-- What a book of answers takes, and why it refuses an entry (the server's own choice).
use Rattle.std.specs.Prelude.{ℕ, Bool, ◌&&◌, ◌||◌, not, List, [], ◌∷◌, length, nat_lt, nat_le, ◌==◌, codes, bytes_eq, Option, false}
use Rattle.std.specs.List.{list_any}
use Rattle.h2_spec.specs.Hpack.Field.{Field}
use Rattle.h2_spec.specs.Requests.Request.{is_between, is_pseudo, has_bad_name, has_bad_value, is_of_connection, is_content_length, least_holding}
use Rattle.h2_spec.specs.Requests.Answer.{Entry, response_block}

-- the most entries of a book
abbrev pub max_entries : ℕ
max_entries = 1000

-- the longest content of an answer
abbrev pub max_body : ℕ
max_body = 1048576

-- the longest header block of an answer, without a table size update: with one it is a frame's longest payload
abbrev pub max_response_block : ℕ
max_response_block = 16383

-- BadStatus: the status of a response that isn't informational (RFC 9110, 15)
abbrev pub is_bad_status : ℕ → Bool
is_bad_status status = not (is_between 200 599 status)

-- BadField: what no response may have, and what the server writes itself (8.2, 8.3)
abbrev pub is_bad_field : Field → Bool
is_bad_field f = has_bad_name f || has_bad_value f || is_of_connection f || is_pseudo f || is_content_length f

-- a response with this status, or to HEAD, has no content (RFC 9110, 6.4.1 and 15)
abbrev pub is_without_content : Entry → Bool
is_without_content e = e.answer.status == 204 || e.answer.status == 205 || e.answer.status == 304 || bytes_eq e.method (codes "HEAD")

-- BodyNotAllowed
abbrev pub has_body_not_allowed : Entry → Bool
has_body_not_allowed e = not (length e.answer.body == 0) && is_without_content e

-- TooLong: the book is full, or the content or the header block is above its limit
abbrev pub is_too_long : List Entry → Entry → Bool
is_too_long book e = nat_le max_entries (length book) || nat_lt max_body (length e.answer.body) || nat_lt max_response_block (length (response_block false e.answer.status e.answer.fields))

-- why a book refuses an entry: the number of the first fault
unfoldable pub entry_fault : List Entry → Entry → Option ℕ
unfolding response_block
entry_fault book e = least_holding (
    (12, is_bad_status e.answer.status) ∷
    (13, list_any is_bad_field e.answer.fields) ∷
    (14, has_body_not_allowed e) ∷
    (15, is_too_long book e) ∷ [])
