use Rattle.std.proofs.Common.{◌≡◌, ◌∙◌, true, false, sym, refl}
use Rattle.toml.specs.View.{table_view}
use Rattle.h2_cmd_book_file.specs.Entries.{is_key_of_document}
use Rattle.h2_cmd_book_file.specs.AnswerTable.{has_other_key}
use Rattle.h2_cmd_book_file.proofs.Keys.{has_other_key-keys}
use Rattle.h2_cmd_book_file.proofs.book_file.answers_in.Goals as goal

pub returns-then-has_unknown_key-clause-refused : goal.returns-then-has_unknown_key-clause-refused
returns-then-has_unknown_key-clause-refused c =
    let table = c.args.table.now in
    let other : has_other_key is_key_of_document (table_view table) ≡ true =
    sym (has_other_key-keys is_key_of_document table.entries) ∙ sym c.has_unknown_key.ensures ∙ c.if-has_unknown_key.true in
    (refl, rw other refl)

pub returns-clause-said : goal.returns-clause-said
returns-clause-said c =
    let table = c.args.table.now in
    let other : has_other_key is_key_of_document (table_view table) ≡ false =
    sym (has_other_key-keys is_key_of_document table.entries) ∙ sym c.has_unknown_key.ensures ∙ c.if-has_unknown_key.false in
    rw (other, ← c.value_at.ensures) c.array_in.ensures.said
