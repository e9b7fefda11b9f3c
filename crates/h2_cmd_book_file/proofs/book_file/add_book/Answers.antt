use Rattle.std.proofs.Common.{◌≡◌, ◌∙◌, ◌≤◌, ℕ, List, Err, length, sym, ap, arith}
use Rattle.std.proofs.lemmas.Result.{IfErr-weaker, IfOk-weaker}
use Rattle.std.specs.Str.{IsUtf8}
use Rattle.toml.specs.Parse.{parse_document}
use Rattle.h2_cmd_book_file.specs.Entries.{Directory, book_of_document}
use Rattle.h2_cmd_book_file.proofs.Appends.{book_of_file-appends}
use Rattle.h2_cmd_book_file.proofs.Texts.{octets-no_text, octets-text}
use Rattle.h2_cmd_book_file.proofs.book_file.add_book.Goals as goal

pub returns-in_default-clause-refused : goal.returns-in_default-clause-refused
returns-in_default-clause-refused g c = λ printed above.
    let octets = c.in-Ok.octets.items in
    let within : length octets ≤ 16777216 = omega (arith, c.in-Ok.ensures.within) in
    let no_text : ¬ IsUtf8 octets = rw c.as_slice.ensures.value at c.in_default.ensures.cases.0 in
    octets-no_text (g.F.Files.file c.args.files.now) c.args.path.now c.args.book.now octets _ (c.in-Ok.ensures.octets printed) within no_text
    ∙ ap (λ (n : ℕ). Err n) (sym c.of_file-in_default.ensures)

pub returns-clause-added : goal.returns-clause-added
returns-clause-added g c =
    let octets = c.in-Ok.octets.items in
    let files = g.F.Files.file c.args.files.now in
    let within : length octets ≤ 16777216 = omega (arith, c.in-Ok.ensures.within) in
    let same : c.in-Ok-from_utf8.text.now ≡ octets = c.in-Ok-from_utf8.ensures.cases.0 ∙ c.as_slice.ensures.value in
    let text : IsUtf8 octets = rw c.as_slice.ensures.value at c.in-Ok-from_utf8.ensures.cases.1 in
    IfOk-weaker c.add_text.result _ _
    (λ _ h printed.
    octets-text files c.args.path.now c.args.book.now octets _ (c.in-Ok.ensures.octets printed) within text
    ∙ ap (λ (bytes : List ℕ). book_of_document files c.args.path.now c.args.book.now (parse_document bytes)) (sym same)
    ∙ ap (λ (d : Directory). book_of_document d c.args.path.now c.args.book.now (parse_document c.in-Ok-from_utf8.text.now)) (sym c.in-Ok.ensures.same_files)
    ∙ h (c.in-Ok.ensures.same_printed ∙ printed))
    c.add_text.ensures.added

pub returns-clause-refused : goal.returns-clause-refused
returns-clause-refused g c =
    let octets = c.in-Ok.octets.items in
    let files = g.F.Files.file c.args.files.now in
    let within : length octets ≤ 16777216 = omega (arith, c.in-Ok.ensures.within) in
    let same : c.in-Ok-from_utf8.text.now ≡ octets = c.in-Ok-from_utf8.ensures.cases.0 ∙ c.as_slice.ensures.value in
    let text : IsUtf8 octets = rw c.as_slice.ensures.value at c.in-Ok-from_utf8.ensures.cases.1 in
    IfErr-weaker c.add_text.result _ _
    (λ fault h printed above.
    octets-text files c.args.path.now c.args.book.now octets _ (c.in-Ok.ensures.octets printed) within text
    ∙ ap (λ (bytes : List ℕ). book_of_document files c.args.path.now c.args.book.now (parse_document bytes)) (sym same)
    ∙ ap (λ (d : Directory). book_of_document d c.args.path.now c.args.book.now (parse_document c.in-Ok-from_utf8.text.now)) (sym c.in-Ok.ensures.same_files)
    ∙ h (c.in-Ok.ensures.same_printed ∙ printed) above)
    c.add_text.ensures.refused

pub returns-clause-appended : goal.returns-clause-appended
returns-clause-appended g c =
    IfOk-weaker c.add_text.result _ _ (λ _ h printed. book_of_file-appends (g.F.Files.file c.args.files.now) c.args.path.now c.args.book.now c.add_text.new.book (h printed)) (returns-clause-added g c)
