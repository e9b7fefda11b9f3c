use Rattle.std.proofs.Common.{arith, ◌∙◌, Some, ap, sym}
use Rattle.std.proofs.lemmas.Result.{err_from_is_err_and}
use Rattle.toml.specs.View.{items_view}
use Rattle.h2_cmd_book_file.specs.Contents.{contents_seen}
use Rattle.h2_cmd_book_file.specs.AnswerTable.{headers_in}
use Rattle.h2_cmd_book_file.proofs.Bodies.{entry-made, entry-refused}
use Rattle.h2_cmd_book_file.proofs.answer.entry_from.Goals as goal

pub returns-in_err-body-clause-printed : goal.returns-in_err-body-clause-printed
returns-in_err-body-clause-printed g c = λ printed.
    let p = err_from_is_err_and c.from_residual.result c.from_residual.ensures.1 in
    let s = c.args.said in
    rw (p.1, p.2) (λ above.
    entry-refused (g.F.Files.file c.args.files.now) c.args.path.now s.method.now s.path.now s.status (headers_in (items_view s.headers.now)) (contents_seen s.body) s.early _
    c.requires.headers c.requires.body (c.in_err-body.ensures.printed printed above))

pub returns-in_default-clause-printed : goal.returns-in_default-clause-printed
returns-in_default-clause-printed g c = λ _ above. absurd (omega (arith, above))

pub returns-in_default-copy_of-clause-printed : goal.returns-in_default-copy_of-clause-printed
returns-in_default-copy_of-clause-printed g c = λ _ above. absurd (omega (arith, above))

pub returns-in_default-read_headers-clause-printed : goal.returns-in_default-read_headers-clause-printed
returns-in_default-read_headers-clause-printed g c = λ _ above. absurd (omega (arith, above))

pub returns-clause-printed : goal.returns-clause-printed
returns-clause-printed g c = λ printed.
    let s = c.args.said in
    rw (c.in-Ok.ensures, c.in-Ok-copy_of.ensures)
    (entry-made (g.F.Files.file c.args.files.now) c.args.path.now s.method.now s.path.now s.status (headers_in (items_view s.headers.now)) (contents_seen s.body) s.early c.new.result c.in_ok-body.body
    (c.in-Ok-read_headers.ensures ∙ ap Some (sym c.new.ensures)) c.requires.body (c.in_ok-body.ensures.printed printed))
