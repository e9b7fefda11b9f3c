-- What a book lends, as contracts see it.
use Rattle.std.specs.Prelude.{◌≡◌, ℕ, ◌<◌, ◌≤◌, true, false, List, length}
use Rattle.h2_spec.specs.Requests.Answer.{Answer, Entry, answer, response_block}
use Rattle.h2_spec.specs.Change.{response}
use Rattle.h2_spec.specs.Frames.Frame.{frame_octets}
use Rattle.h2_spec.specs.SendPending.{piece}
use Rattle.h2_spec.specs.declared.streams.Pick.{Pick}
use Rattle.h2_spec.specs.declared.streams.Pick.TheVariants.{Listed, NotFound, Connect}
use Rattle.h2_request_book.specs.declared.book.Answer as declared

-- the answer that is lent
abbrev pub answered : {A : Type 0} → declared.Answer A → Answer
answered a = record (answer a.status a.fields.now a.body.now) { early = a.early }

-- a pick of this book: an entry that is there, or none
abbrev pub IsPickOf : List Entry → Pick → Type 0
IsPickOf book (Listed i) = i < length book
IsPickOf book NotFound = Unit {0}
IsPickOf book Connect = Unit {0}

-- the field block of an answer, without a table size update
abbrev pub block_of_answer : Answer → List ℕ
block_of_answer a = response_block false a.status a.fields

-- the octets of an answer's HEADERS on stream 0, without a table size update
abbrev pub headers_of_answer : Answer → List ℕ
headers_of_answer a = frame_octets (response false 0 a)

-- the octets of one DATA of an answer's whole body on stream 0, which ends the stream
abbrev pub body_frame_of_answer : Answer → List ℕ
body_frame_of_answer a = frame_octets (piece 0 true a.body)

-- octets that are an answer's HEADERS, and octets that are its DATA, on stream 0
pub record AreFramesOf (a : Answer) (first second : List ℕ) : Type 0 where
  pub headers : first ≡ headers_of_answer a
  pub body_frame : second ≡ body_frame_of_answer a
  pub within : length (block_of_answer a) ≤ 16383
