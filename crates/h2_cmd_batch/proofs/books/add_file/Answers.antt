use Rattle.std.proofs.Common.{◌≡◌, ◌==◌, ◌∙◌, false, length, sym}
use Rattle.std.proofs.lemmas.Result.{IfErr-weaker, on_ok_weaker}
use Rattle.h2_cmd_batch.proofs.RefusedAnswers.{file-added, file-not-added, no-file}
use Rattle.h2_cmd_batch.proofs.books.add_file.Goals as goal

pub returns-then-is_empty-clause-ok : goal.returns-then-is_empty-clause-ok
returns-then-is_empty-clause-ok g c = λ known. no-file (g.F.Files.file c.args.files.now) c.args.path.now c.args.book.now (sym c.is_empty.ensures ∙ c.if-is_empty.true) c.requires

pub returns-clause-ok : goal.returns-clause-ok
returns-clause-ok g c = λ known.
    let some : (length c.args.path.now == 0) ≡ false = sym c.is_empty.ensures ∙ c.if-is_empty.false in
    on_ok_weaker c.add_book.result (λ added. file-added _ _ _ c.args.book.now _ some c.requires known added) c.add_book.ensures.added

pub returns-clause-err : goal.returns-clause-err
returns-clause-err g c = λ known.
    let some : (length c.args.path.now == 0) ≡ false = sym c.is_empty.ensures ∙ c.if-is_empty.false in
    IfErr-weaker c.add_book.result _ _ (λ fault refused. file-not-added _ _ _ c.args.book.now fault some c.requires known refused) c.add_book.ensures.refused
