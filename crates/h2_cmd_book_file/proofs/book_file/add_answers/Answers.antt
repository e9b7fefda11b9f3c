use Rattle.std.proofs.Common.{◌≡◌, ◌∙◌, ◌+◌, ◌<◌, [], ◌∷◌, ◌++◌, List, Err, Ok, drop, get_or, length, ap, sym, append_assoc}
use Rattle.toml.specs.Data.{Data}
use Rattle.toml.specs.View.{view, items_view}
use Rattle.toml.proofs.Views.{items_view-drop}
use Rattle.h2_spec.specs.Requests.Answer.{Entry}
use Rattle.h2_cmd_book_file.specs.Entries.{Directory, book_with, entry_of, with_entry}
use Rattle.h2_cmd_book_file.specs.Faults.{cause_number}
use Rattle.h2_cmd_book_file.proofs.Appends.{book_with-next, book_with-refused}
use Rattle.h2_cmd_book_file.proofs.book_file.add_answers.Goals as goal

pub returns-in-Err-clause-refused : goal.returns-in-Err-clause-refused
returns-in-Err-clause-refused g c = λ printed above.
    let files = g.F.Files.file c.args.files.now in
    let path = c.args.path.now in
    let answers = c.args.answers.now in
    let i = c.loop-place.place in
    let book = c.loop-place.book in
    let answer = get_or answers i c.index-answers-place.result in
    let inside : i < length answers = c.loop-place-test.true in
    let refused : with_entry book (entry_of files path (view answer)) ≡ Err (cause_number c.in-Err.cause) =
    ap (λ (d : Data). with_entry book (entry_of files path d)) (sym (ap view c.index-answers-place.is))
    ∙ ap (λ (f : Directory). with_entry book (entry_of f path (view c.index-answers-place.result))) (sym c.loop-place.invariant.same_files)
    ∙ c.in-Err.ensures.added (c.loop-place.invariant.same_printed ∙ printed) above in
    sym (c.loop-place.invariant.goes_on printed) ∙ ap (book_with files path book) (items_view-drop answers i c.index-answers-place.result inside)
    ∙ book_with-refused files path book (view answer) (items_view (drop (i + 1) answers)) _ refused

pub returns-in-Err-clause-grown : goal.returns-in-Err-clause-grown
returns-in-Err-clause-grown g c = (c.loop-place.invariant.grown.0, c.in-Err.ensures.kept ∙ c.loop-place.invariant.grown.1)

pub loop-place-preserved : goal.loop-place-preserved
loop-place-preserved g c =
    let files = g.F.Files.file c.args.files.now in
    let path = c.args.path.now in
    let answers = c.args.answers.now in
    let i = c.loop-place.place in
    let book = c.loop-place.book in
    let before = c.loop-place.invariant.grown in
    let one = c.in_default.ensures.grown in
    let answer = get_or answers i c.index-answers-place.result in
    let inside : i < length answers = c.loop-place-test.true in
    record {
      same_printed = c.add_answer.ensures.same_printed ∙ c.loop-place.invariant.same_printed;
      same_files = c.add_answer.ensures.same_files ∙ c.loop-place.invariant.same_files;
      grown = (before.0 ++ one.0 ∷ [], one.1 ∙ ap (λ (b : List Entry). b ++ one.0 ∷ []) before.1 ∙ append_assoc c.args.book.now before.0 (one.0 ∷ []));
      goes_on = λ printed.
          let added : with_entry book (entry_of files path (view answer)) ≡ Ok c.add_answer.new.book =
          ap (λ (d : Data). with_entry book (entry_of files path d)) (sym (ap view c.index-answers-place.is))
          ∙ ap (λ (f : Directory). with_entry book (entry_of f path (view c.index-answers-place.result))) (sym c.loop-place.invariant.same_files)
          ∙ c.in_default.ensures.added (c.loop-place.invariant.same_printed ∙ printed) in
          sym (book_with-next files path book c.add_answer.new.book (view answer) (items_view (drop (i + 1) answers)) added)
          ∙ ap (book_with files path book) (sym (items_view-drop answers i c.index-answers-place.result inside)) ∙ c.loop-place.invariant.goes_on printed;
    }
