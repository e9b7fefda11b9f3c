use Rattle.std.proofs.Common.{◌<◌, ◌∙◌, ◌++◌, Err, ap, arith, sym, take}
use Rattle.std.proofs.Math.Seq.{take-append_seam}
use Rattle.h2_cmd_book_file.specs.Entries.{book_of_answers, book_of_document}
use Rattle.h2_cmd_book_file.specs.Faults.{cause_number}
use Rattle.h2_cmd_book_file.proofs.book_file.add_text.Goals as goal

pub returns-in-Err-clause-refused : goal.returns-in-Err-clause-refused
returns-in-Err-clause-refused g c = λ _ above. absurd (omega (arith, above, c.of_file.ensures))

pub returns-in-Err-answers_in-clause-refused : goal.returns-in-Err-answers_in-clause-refused
returns-in-Err-answers_in-clause-refused g c = λ _ _.
    let files = g.F.Files.file c.args.files.now in
    ap (book_of_document files c.args.path.now c.args.book.now) c.in-Ok.ensures.ok
    ∙ ap (book_of_answers files c.args.path.now c.args.book.now) c.in-Err-answers_in.ensures.refused.1
    ∙ ap Err (sym (c.new-in-Err-answers_in.ensures ∙ c.in-Err-answers_in.ensures.refused.0))

pub returns-in-Ok-add_answers-clause-added : goal.returns-in-Ok-add_answers-clause-added
returns-in-Ok-add_answers-clause-added g c = λ printed.
    let files = g.F.Files.file c.args.files.now in
    ap (book_of_document files c.args.path.now c.args.book.now) c.in-Ok.ensures.ok
    ∙ ap (book_of_answers files c.args.path.now c.args.book.now) c.in-Ok-answers_in.ensures.said
    ∙ c.in-Ok-add_answers.ensures.added printed

pub returns-clause-refused : goal.returns-clause-refused
returns-clause-refused g c = λ printed above.
    let files = g.F.Files.file c.args.files.now in
    let known : 0 < cause_number c.in-Err-add_answers.cause = omega (arith, above, c.new-in-Err-add_answers.ensures) in
    ap (book_of_document files c.args.path.now c.args.book.now) c.in-Ok.ensures.ok
    ∙ ap (book_of_answers files c.args.path.now c.args.book.now) c.in-Ok-answers_in.ensures.said
    ∙ c.in-Err-add_answers.ensures.refused printed known ∙ ap Err (sym c.new-in-Err-add_answers.ensures)

pub returns-clause-kept : goal.returns-clause-kept
returns-clause-kept g c =
    let book = c.args.book.now in
    let more = c.add_answers.ensures.grown in
    c.truncate.ensures ∙ ap (take c.len-before.result) more.1 ∙ ap (λ n. take n (book ++ more.0)) c.len-before.ensures ∙ take-append_seam book more.0
