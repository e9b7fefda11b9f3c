-- The body that four values say, and the answer that lacks a part.
use Rattle.std.proofs.Common.{◌≡◌, ◌∙◌, ℕ, ◌+◌, ◌<◌, ◌≤◌, Bool, List, Option, Some, None, Ok, Err, false, true, nat_lt, refl, ap, arith}
use Rattle.std.specs.Prelude.{IsTrue, is_some}
use Rattle.std.proofs.lemmas.Bool.{false≢true}
use Rattle.std.proofs.lemmas.Bool.Decides.{nat_tests}
use Rattle.toml.specs.Data.{Data}
use Rattle.h2_spec.specs.Requests.Answer.{answer}
use Rattle.h2_spec.specs.Hpack.Field.{Field}
use Rattle.h2_cmd_book_file.specs.Contents.{Contents, contents_of_values, count_of, first_said, octets_said}
use Rattle.h2_cmd_book_file.specs.Entries.{Directory, entry_said, entry_with}
use Rattle.h2_cmd_book_file.specs.AnswerTable.{said_with}

-- a value counts at most once
pub count_of-most : (d : Option Data) → count_of d ≤ 1
count_of-most None = omega arith
count_of-most (Some d) = omega arith

-- two bodies are none
pub many_said : (text hex file fill : Option Data) → 1 < count_of text + count_of hex + count_of file + count_of fill → contents_of_values text hex file fill ≡ None
many_said text hex file fill h =
    let many : nat_lt 1 (count_of text + count_of hex + count_of file + count_of fill) ≡ true = grind (arith, nat_tests) in
    rw many refl

-- else the first one is the body
pub few_said : (text hex file fill : Option Data) → count_of text + count_of hex + count_of file + count_of fill ≤ 1 →
    contents_of_values text hex file fill ≡ first_said text hex file fill
few_said text hex file fill h =
    let few : nat_lt 1 (count_of text + count_of hex + count_of file + count_of fill) ≡ false = grind (arith, nat_tests) in
    rw few refl

-- an answer without a body, or without `early`, is none
pub said_with-no_body : (method path : List ℕ) (status : ℕ) (fields : Option (List Field)) (early : Option Bool) →
    said_with (Some method) (Some path) (Some status) fields None early ≡ None
said_with-no_body method path status None early = refl
said_with-no_body method path status (Some fields) early = refl

pub said_with-no_early : (method path : List ℕ) (status : ℕ) (fields : Option (List Field)) (body : Option Contents) →
    said_with (Some method) (Some path) (Some status) fields body None ≡ None
said_with-no_early method path status None body = refl
said_with-no_early method path status (Some fields) None = refl
said_with-no_early method path status (Some fields) (Some body) = refl

-- where the octets of the body are refused, the entry is
pub entry-refused : (directory : Directory) (at method path : List ℕ) (status : ℕ) (fields : Option (List Field)) (body : Option Contents) (early : Bool) (fault : ℕ) →
    IsTrue (is_some fields) → IsTrue (is_some body) → octets_said directory at body ≡ Err fault →
    entry_said directory at (said_with (Some method) (Some path) (Some status) fields body (Some early)) ≡ Err fault
entry-refused directory at method path status None body early fault f b e = absurd (false≢true f)
entry-refused directory at method path status (Some fields) None early fault f b e = absurd (false≢true b)
entry-refused directory at method path status (Some fields) (Some body) early fault f b e =
    ap (entry_with (record { method = method; path = path; status = status; fields = fields; body = body; early = early })) e

-- else it has all that is said, and the octets
pub entry-made : (directory : Directory) (at method path : List ℕ) (status : ℕ) (fields : Option (List Field)) (body : Option Contents) (early : Bool) (fs : List Field) (octets : List ℕ) →
    fields ≡ Some fs → IsTrue (is_some body) → octets_said directory at body ≡ Ok octets →
    entry_said directory at (said_with (Some method) (Some path) (Some status) fields body (Some early))
    ≡ Ok (record { method = method; path = path; answer = record (answer status fs octets) { early = early } })
entry-made directory at method path status fields None early fs octets f b e = absurd (false≢true b)
entry-made directory at method path status fields (Some body) early fs octets f b e =
    ap (λ o. entry_said directory at (said_with (Some method) (Some path) (Some status) o (Some body) (Some early))) f
    ∙ ap (entry_with (record { method = method; path = path; status = status; fields = fs; body = body; early = early })) e
