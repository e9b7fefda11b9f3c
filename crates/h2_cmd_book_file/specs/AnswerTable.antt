-- One answer of a book's file: its keys and what they say.
use Rattle.std.specs.Prelude.{ℕ, ℤ, pos, negsuc, Bool, false, ◌||◌, not, nat_lt, List, [], codes, bytes_eq, if◌then◌else◌, Option, Some, None}
use Rattle.std.specs.Option.{option_map, option_and_then}
use Rattle.toml.specs.Data.{Data, Items, no_items, item, Members, no_members, member, as_str, as_integer, as_bool, as_array, get_member}
use Rattle.toml.specs.View.{items_view}
use Rattle.h2_spec.specs.Hpack.Field.{Field, field}
use Rattle.h2_spec.specs.Requests.AnswerWords.{with_field}
use Rattle.h2_cmd_book_file.specs.Contents.{Contents, contents_of, contents_seen}
use Rattle.h2_cmd_book_file.specs.declared.answer.AnswerTable as declared
use Rattle.h2_cmd_book_file.specs.declared.fault.Key.{Key}
use Rattle.h2_cmd_book_file.specs.declared.fault.Key.TheVariants.{Answer, Method, Path, Status, Headers, Body, BodyHex, BodyFile, BodyFill, Early}

-- the keys, as a file writes them
abbrev pub key_name : Key → List ℕ
key_name Answer = codes "answer"
key_name Method = codes "method"
key_name Path = codes "path"
key_name Status = codes "status"
key_name Headers = codes "headers"
key_name Body = codes "body"
key_name BodyHex = codes "body-hex"
key_name BodyFile = codes "body-file"
key_name BodyFill = codes "body-fill"
key_name Early = codes "early"

-- whether an answer may have this key
abbrev pub is_key_of_answer : List ℕ → Bool
is_key_of_answer k =
    bytes_eq k (codes "method") || bytes_eq k (codes "path") || bytes_eq k (codes "status") || bytes_eq k (codes "headers")
    || bytes_eq k (codes "body") || bytes_eq k (codes "body-hex") || bytes_eq k (codes "body-file") || bytes_eq k (codes "body-fill")
    || bytes_eq k (codes "early")

-- whether there is a key beside the known ones
abbrev pub has_other_key : (List ℕ → Bool) → Members → Bool
has_other_key is_known no_members = false
has_other_key is_known (member k d ms) = not (is_known k) || has_other_key is_known ms

-- STATUS: an integer; what no number of 16 bits is becomes 0, which no book takes as a status
abbrev pub status_number : ℤ → ℕ
status_number (pos n) = if nat_lt n 65536 then n else 0
status_number (negsuc n) = 0

abbrev pub status_said : Data → Option ℕ
status_said d = option_map status_number (as_integer d)

-- a name and a value, if both are there
abbrev pub field_with : Option (List ℕ) → Option (List ℕ) → Option Field
field_with (Some name) (Some value) = Some (field name value)
field_with (Some name) None = None
field_with None value = None

-- [NAME, VALUE]
abbrev pub header_pair : Items → Option Field
header_pair (item name (item value no_items)) = field_with (as_str name) (as_str value)
header_pair (item name (item value (item other more))) = None
header_pair (item name no_items) = None
header_pair no_items = None

abbrev pub header_said : Data → Option Field
header_said d = option_and_then header_pair (as_array d)

-- [[NAME, VALUE], ..]
abbrev pub headers_in : Items → Option (List Field)
headers_in no_items = Some []
headers_in (item d ds) = with_field (header_said d) (headers_in ds)

-- headers: without the key there are none
abbrev pub headers_said : Option Data → Option (List Field)
headers_said None = Some []
headers_said (Some d) = option_and_then headers_in (as_array d)

-- early: without the key the answer begins when the request has ended
abbrev pub early_said : Option Data → Option Bool
early_said None = Some false
early_said (Some d) = as_bool d

-- what an answer says
pub record AnswerTable : Type 0 where
  pub method : List ℕ
  pub path : List ℕ
  pub status : ℕ
  pub fields : List Field
  pub body : Contents
  pub early : Bool

-- the answer, where each of its parts is what it has to be
abbrev pub said_with : Option (List ℕ) → Option (List ℕ) → Option ℕ → Option (List Field) → Option Contents → Option Bool → Option AnswerTable
said_with (Some method) (Some path) (Some status) (Some fields) (Some body) (Some early) =
    Some (record { method = method; path = path; status = status; fields = fields; body = body; early = early })
said_with (Some method) (Some path) (Some status) (Some fields) (Some body) None = None
said_with (Some method) (Some path) (Some status) (Some fields) None early = None
said_with (Some method) (Some path) (Some status) None body early = None
said_with (Some method) (Some path) None fields body early = None
said_with (Some method) None status fields body early = None
said_with None path status fields body early = None

-- the value of a key that has to be there
abbrev pub text_at : List ℕ → Members → Option (List ℕ)
text_at k ms = option_and_then as_str (get_member k ms)

abbrev pub status_at : Members → Option ℕ
status_at ms = option_and_then status_said (get_member (codes "status") ms)

-- what the table of an answer says
abbrev pub said_of : Members → Option AnswerTable
said_of ms =
    if has_other_key is_key_of_answer ms then None
    else
    said_with
    (text_at (codes "method") ms) (text_at (codes "path") ms) (status_at ms) (headers_said (get_member (codes "headers") ms)) (contents_of ms)
    (early_said (get_member (codes "early") ms))

-- what the code has read of an answer
abbrev pub seen : declared.AnswerTable → Option AnswerTable
seen s = said_with (Some s.method.now) (Some s.path.now) (Some s.status) (headers_in (items_view s.headers.now)) (contents_seen s.body) (Some s.early)
