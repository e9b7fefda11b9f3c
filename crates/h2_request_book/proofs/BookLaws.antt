-- What an entry that a book takes is like, and what a pick answers.
use Rattle.std.proofs.Common.{◌≡◌, ◌∙◌, ℕ, ◌≤◌, true, false, not, ◌&&◌, ◌||◌, List, Some, None, length, get_or, ltb-true, ltb-false, refl, sym, ap, arith}
use Rattle.std.specs.Prelude.{nat_le, nat_lt, slice_get}
use Rattle.std.specs.List.{list_any, AllByRecursion}
use Rattle.std.proofs.lemmas.Bool.Decides.{nat_tests}
use Rattle.h2_hpack_instruction.specs.Instructions.{IsWritableField}
use Rattle.std.proofs.lemmas.Option.{slice_get_read, slice_get_past}
use Rattle.h2_spec.specs.Requests.Answer.{Entry, bare, entry_or, picked, response_block}
use Rattle.h2_spec.specs.declared.streams.Pick.TheVariants.{Listed}
use Rattle.h2_spec.specs.Requests.Book.{max_entries, max_body, max_response_block, is_bad_status, is_bad_field, has_body_not_allowed, is_too_long, entry_fault}
use Rattle.h2_request_book.proofs.BlockLaws.{writable-fields}
use Rattle.h2_request_book.proofs.TestLaws.{past, neither}

pub allowed-status : (book : List Entry) (e : Entry) → entry_fault book e ≡ None → (200 ≤ e.answer.status) × (e.answer.status ≤ 599)
unfolding entry_fault
allowed-status book e none =
    let good : not (nat_le 200 e.answer.status && nat_le e.answer.status 599) ≡ false = (past (is_bad_status e.answer.status) 12 _ none).0 in
    (grind (arith, nat_tests), grind (arith, nat_tests))

allowed-length : (book : List Entry) (e : Entry) → entry_fault book e ≡ None → is_too_long book e ≡ false
unfolding entry_fault
allowed-length book e none =
    (past (is_too_long book e) 15 _ (past (has_body_not_allowed e) 14 _ (past (list_any is_bad_field e.answer.fields) 13 _ (past (is_bad_status e.answer.status) 12 _ none).1).1).1).0

pub allowed-fields : (book : List Entry) (e : Entry) → entry_fault book e ≡ None → AllByRecursion IsWritableField e.answer.fields
allowed-fields book e none =
    let within = neither (nat_le max_entries (length book) || nat_lt max_body (length e.answer.body)) (nat_lt max_response_block (length (response_block false e.answer.status e.answer.fields))) (allowed-length book e none) in
    writable-fields e.answer.status e.answer.fields within.1

pub allowed-block : (book : List Entry) (e : Entry) → entry_fault book e ≡ None → length (response_block false e.answer.status e.answer.fields) ≤ 16383
allowed-block book e none =
    let within = neither (nat_le max_entries (length book) || nat_lt max_body (length e.answer.body)) (nat_lt max_response_block (length (response_block false e.answer.status e.answer.fields))) (allowed-length book e none) in
    ltb-false max_response_block (length (response_block false e.answer.status e.answer.fields)) within.1

pub allowed-body : (book : List Entry) (e : Entry) → entry_fault book e ≡ None → length e.answer.body ≤ 1048576
allowed-body book e none =
    let within = neither (nat_le max_entries (length book) || nat_lt max_body (length e.answer.body)) (nat_lt max_response_block (length (response_block false e.answer.status e.answer.fields))) (allowed-length book e none) in
    ltb-false max_body (length e.answer.body) (neither (nat_le max_entries (length book)) (nat_lt max_body (length e.answer.body)) within.0).1

-- ---- what a pick answers, of a list that is the book

pub picked-there : (items book : List Entry) (i : ℕ) (e : Entry) → items ≡ book → true ≡ nat_lt i (length items) → e ≡ get_or items i e → e.answer ≡ picked book (Listed i)
picked-there items book i e same within is =
    let there : slice_get items i ≡ Some e = slice_get_read items (length items) i e refl (ltb-true i (length items) (sym within)) is in
    sym (ap entry_or there) ∙ ap (λ xs. entry_or (slice_get xs i)) same

pub picked-past : (items book : List Entry) (i : ℕ) → items ≡ book → false ≡ nat_lt i (length items) → bare 404 ≡ picked book (Listed i)
picked-past items book i same past =
    let none : slice_get items i ≡ None = slice_get_past items i (ltb-false i (length items) (sym past)) in
    sym (ap entry_or none) ∙ ap (λ xs. entry_or (slice_get xs i)) same
