-- The octets of a book's file: UTF-8 or not.
use Rattle.std.proofs.Common.{◌≡◌, ◌≤◌, ℕ, Bool, true, false, List, Option, Some, Err, length, nat_lt, refl, arith}
use Rattle.std.proofs.lemmas.Bool.Decides.{nat_tests}
use Rattle.std.specs.Str.{IsUtf8, is_utf8}
use Rattle.std.proofs.lemmas.Str.{IsUtf8-from_is_utf8, is_utf8-from_IsUtf8}
use Rattle.toml.specs.Parse.{parse_document}
use Rattle.h2_spec.specs.Requests.Answer.{Entry}
use Rattle.h2_cmd_book_file.specs.Entries.{Directory, book_of_octets, book_of_document}

not_text : (t : Bool) (octets : List ℕ) → is_utf8 octets ≡ t → ¬ IsUtf8 octets → is_utf8 octets ≡ false
not_text false octets e h = e
not_text true octets e h = absurd (h (IsUtf8-from_is_utf8 octets e))

pub octets-no_text : (directory : Directory) (path : List ℕ) (book : List Entry) (octets : List ℕ) (file : Option (List ℕ)) → file ≡ Some octets → length octets ≤ 16777216
    → ¬ IsUtf8 octets → book_of_octets directory path book file ≡ Err 26
octets-no_text directory path book octets file e within h =
    let short : nat_lt 16777216 (length octets) ≡ false = grind (arith, nat_tests) in
    let none : is_utf8 octets ≡ false = not_text (is_utf8 octets) octets refl h in
    rw (e, short, none) refl

pub octets-text : (directory : Directory) (path : List ℕ) (book : List Entry) (octets : List ℕ) (file : Option (List ℕ)) → file ≡ Some octets → length octets ≤ 16777216
    → IsUtf8 octets → book_of_octets directory path book file ≡ book_of_document directory path book (parse_document octets)
octets-text directory path book octets file e within h =
    let short : nat_lt 16777216 (length octets) ≡ false = grind (arith, nat_tests) in
    let some : is_utf8 octets ≡ true = is_utf8-from_IsUtf8 octets h in
    rw (e, short, some) refl
