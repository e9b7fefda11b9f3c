-- The body of an answer: what its keys say, and its octets.
use Rattle.std.specs.Prelude.{ℕ, zero, suc, ◌+◌, ◌%◌, ◌==◌, ℤ, pos, negsuc, List, [], ◌∷◌, ◌++◌, length, nat_lt, slice_index, codes, if◌then◌else◌, Option, Some, None, Result, Ok, Err, unwrap_or}
use Rattle.std.specs.Option.{option_map, option_and_then}
use Rattle.std.specs.Path.{path_join, path_parent}
use Rattle.toml.specs.Data.{Data, Items, no_items, item, Members, as_str, as_integer, as_array, get_member}
use Rattle.h2_spec.specs.Requests.AnswerWords.{body_of as octets_in_hex}
use Rattle.h2_spec.specs.Requests.Book.{max_body}
use Rattle.h2_cmd_book_file.specs.declared.body.Contents as declared
use Rattle.h2_cmd_book_file.specs.declared.body.Contents.TheVariants.{Text, Hex, File, Fill}

-- what a body is: octets, a file beside the book, or that many octets of a text repeated
pub data Contents : Type 0 where
  octets : List ℕ → Contents
  file_at : List ℕ → Contents
  repeated : ℕ → List ℕ → Contents

-- body = TEXT
abbrev pub text_said : Data → Option Contents
text_said d = option_map octets (as_str d)

-- body-hex = DIGITS: pairs of hex digits in either case
abbrev pub hex_said : Data → Option Contents
hex_said d = option_map octets (option_and_then octets_in_hex (as_str d))

-- body-file = PATH
abbrev pub file_said : Data → Option Contents
file_said d = option_map file_at (as_str d)

-- COUNT octets of TEXT: a count that isn't negative, and a text that isn't empty
abbrev pub repeat_said : Option ℤ → Option (List ℕ) → Option Contents
repeat_said (Some (pos count)) (Some text) = if length text == 0 then None else Some (repeated count text)
repeat_said (Some (pos count)) None = None
repeat_said (Some (negsuc count)) text = None
repeat_said None text = None

-- [COUNT, TEXT]
abbrev pub fill_pair : Items → Option Contents
fill_pair (item count (item text no_items)) = repeat_said (as_integer count) (as_str text)
fill_pair (item count (item text (item other more))) = None
fill_pair (item count no_items) = None
fill_pair no_items = None

-- body-fill = [COUNT, TEXT]
abbrev pub fill_said : Data → Option Contents
fill_said d = option_and_then fill_pair (as_array d)

-- how many values there are
abbrev pub count_of : Option Data → ℕ
count_of None = 0
count_of (Some d) = 1

-- the body that the first value says; without any it's empty
abbrev pub first_said : Option Data → Option Data → Option Data → Option Data → Option Contents
first_said (Some text) hex file fill = text_said text
first_said None (Some hex) file fill = hex_said hex
first_said None None (Some file) fill = file_said file
first_said None None None (Some fill) = fill_said fill
first_said None None None None = Some (octets [])

-- the body that four values say: one of them, or none
abbrev pub contents_of_values : Option Data → Option Data → Option Data → Option Data → Option Contents
contents_of_values text hex file fill =
    if nat_lt 1 (count_of text + count_of hex + count_of file + count_of fill) then None else first_said text hex file fill

-- the body of an answer
abbrev pub contents_of : Members → Option Contents
contents_of ms =
    contents_of_values (get_member (codes "body") ms) (get_member (codes "body-hex") ms) (get_member (codes "body-file") ms) (get_member (codes "body-fill") ms)

-- what the code has read of a body
abbrev pub contents_seen : declared.Contents → Option Contents
contents_seen (Text text) = Some (octets text.now)
contents_seen (Hex digits) = option_map octets (octets_in_hex digits.now)
contents_seen (File path) = Some (file_at path.now)
contents_seen (Fill count text) = repeat_said (Some (pos count)) (Some text.now)

-- ---- the octets

-- the path of a file that the book names: relative to the book's directory, as the standard library joins paths
abbrev pub beside : List ℕ → List ℕ → List ℕ
beside book name = path_join (unwrap_or (path_parent book) []) name

-- the octets of a body's file, where it can be read and is not too long
abbrev pub octets_of_file : Option (List ℕ) → Result (List ℕ) ℕ
octets_of_file None = Err 22
octets_of_file (Some body) = if nat_lt max_body (length body) then Err 15 else Ok body

-- that many octets, the text over and over again
abbrev pub filled : ℕ → List ℕ → List ℕ
filled zero text = []
filled (suc n) text = filled n text ++ slice_index text (n % length text) ∷ []

abbrev pub octets_of_fill : ℕ → List ℕ → Result (List ℕ) ℕ
octets_of_fill count text = if nat_lt max_body count then Err 15 else Ok (filled count text)

-- the octets of a body, or the number of the fault
abbrev pub octets_of : (List ℕ → Option (List ℕ)) → List ℕ → Contents → Result (List ℕ) ℕ
octets_of file book (octets body) = Ok body
octets_of file book (file_at name) = octets_of_file (file (beside book name))
octets_of file book (repeated count text) = octets_of_fill count text

-- the octets of a body, or 26 where there is none to be said
abbrev pub octets_said : (List ℕ → Option (List ℕ)) → List ℕ → Option Contents → Result (List ℕ) ℕ
octets_said file book None = Err 26
octets_said file book (Some c) = octets_of file book c
