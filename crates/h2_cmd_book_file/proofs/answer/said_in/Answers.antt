use Rattle.std.proofs.Common.{◌≡◌, ◌∙◌, Option, None, Some, true, false, codes, sym, ap, refl, option_and_then}
use Rattle.std.proofs.lemmas.Result.{err_from_is_err_and}
use Rattle.toml.specs.Data.{Data, as_str, get_member}
use Rattle.toml.specs.View.{table_view}
use Rattle.h2_cmd_book_file.specs.AnswerTable.{has_other_key, is_key_of_answer, text_at, status_at, status_said, headers_said, early_said}
use Rattle.h2_cmd_book_file.proofs.Bodies.{said_with-no_body, said_with-no_early}
use Rattle.h2_cmd_book_file.proofs.Keys.{has_other_key-keys}
use Rattle.h2_cmd_book_file.proofs.answer.said_in.Goals as goal

pub returns-then-has_unknown_key-clause-refused : goal.returns-then-has_unknown_key-clause-refused
returns-then-has_unknown_key-clause-refused c =
    let table = c.args.table.now in
    let other : has_other_key is_key_of_answer (table_view table) ≡ true =
    sym (has_other_key-keys is_key_of_answer table.entries) ∙ sym c.has_unknown_key.ensures ∙ c.if-has_unknown_key.true in
    (refl, rw other refl)

pub returns-clause-said : goal.returns-clause-said
returns-clause-said c =
    let table = c.args.table.now in
    let other : has_other_key is_key_of_answer (table_view table) ≡ false =
    sym (has_other_key-keys is_key_of_answer table.entries) ∙ sym c.has_unknown_key.ensures ∙ c.if-has_unknown_key.false in
    let method : text_at (codes "method") (table_view table) ≡ Some c.in_ok-method.method.now =
    ap (λ (o : Option Data). option_and_then as_str o) (sym c.value_at.ensures) ∙ c.in_ok-method.ensures.said in
    let path : text_at (codes "path") (table_view table) ≡ Some c.in_ok-path.path.now =
    ap (λ (o : Option Data). option_and_then as_str o) (sym c.value_at-2.ensures) ∙ c.in_ok-path.ensures.said in
    let status : status_at (table_view table) ≡ Some c.in_ok-status.status =
    ap (λ (o : Option Data). option_and_then status_said o) (sym c.value_at-3.ensures) ∙ c.in_ok-status.ensures.said in
    let headers = ap (λ (o : Option Data). headers_said o) (sym c.value_at-4.ensures) ∙ sym c.in-Some.ensures.said in
    let early : early_said (get_member (codes "early") (table_view table)) ≡ Some c.in_ok-early.early =
    ap (λ (o : Option Data). early_said o) (sym c.value_at-5.ensures) ∙ c.in_ok-early.ensures.said in
    rw (other, method, path, status, headers, c.in_ok-body.ensures.said, early) refl

pub returns-in_err-method-clause-refused : goal.returns-in_err-method-clause-refused
returns-in_err-method-clause-refused c =
    let table = c.args.table.now in
    let other : has_other_key is_key_of_answer (table_view table) ≡ false =
    sym (has_other_key-keys is_key_of_answer table.entries) ∙ sym c.has_unknown_key.ensures ∙ c.if-has_unknown_key.false in
    let method : text_at (codes "method") (table_view table) ≡ None =
    ap (λ (o : Option Data). option_and_then as_str o) (sym c.value_at.ensures) ∙ c.in_err-method.ensures.refused.1 in
    let p = err_from_is_err_and c.from_residual.result c.from_residual.ensures.1 in
    rw (p.1, p.2) (c.in_err-method.ensures.refused.0, rw (other, method) refl)

pub returns-in_err-path-clause-refused : goal.returns-in_err-path-clause-refused
returns-in_err-path-clause-refused c =
    let table = c.args.table.now in
    let other : has_other_key is_key_of_answer (table_view table) ≡ false =
    sym (has_other_key-keys is_key_of_answer table.entries) ∙ sym c.has_unknown_key.ensures ∙ c.if-has_unknown_key.false in
    let method : text_at (codes "method") (table_view table) ≡ Some c.in_ok-method.method.now =
    ap (λ (o : Option Data). option_and_then as_str o) (sym c.value_at.ensures) ∙ c.in_ok-method.ensures.said in
    let path : text_at (codes "path") (table_view table) ≡ None =
    ap (λ (o : Option Data). option_and_then as_str o) (sym c.value_at-2.ensures) ∙ c.in_err-path.ensures.refused.1 in
    let p = err_from_is_err_and c.from_residual-in_err-path.result c.from_residual-in_err-path.ensures.1 in
    rw (p.1, p.2) (c.in_err-path.ensures.refused.0, rw (other, method, path) refl)

pub returns-in_err-status-clause-refused : goal.returns-in_err-status-clause-refused
returns-in_err-status-clause-refused c =
    let table = c.args.table.now in
    let other : has_other_key is_key_of_answer (table_view table) ≡ false =
    sym (has_other_key-keys is_key_of_answer table.entries) ∙ sym c.has_unknown_key.ensures ∙ c.if-has_unknown_key.false in
    let method : text_at (codes "method") (table_view table) ≡ Some c.in_ok-method.method.now =
    ap (λ (o : Option Data). option_and_then as_str o) (sym c.value_at.ensures) ∙ c.in_ok-method.ensures.said in
    let path : text_at (codes "path") (table_view table) ≡ Some c.in_ok-path.path.now =
    ap (λ (o : Option Data). option_and_then as_str o) (sym c.value_at-2.ensures) ∙ c.in_ok-path.ensures.said in
    let status : status_at (table_view table) ≡ None =
    ap (λ (o : Option Data). option_and_then status_said o) (sym c.value_at-3.ensures) ∙ c.in_err-status.ensures.refused.1 in
    let p = err_from_is_err_and c.from_residual-in_err-status.result c.from_residual-in_err-status.ensures.1 in
    rw (p.1, p.2) (c.in_err-status.ensures.refused.0, rw (other, method, path, status) refl)

pub returns-in_err-body-clause-refused : goal.returns-in_err-body-clause-refused
returns-in_err-body-clause-refused c =
    let table = c.args.table.now in
    let other : has_other_key is_key_of_answer (table_view table) ≡ false =
    sym (has_other_key-keys is_key_of_answer table.entries) ∙ sym c.has_unknown_key.ensures ∙ c.if-has_unknown_key.false in
    let method : text_at (codes "method") (table_view table) ≡ Some c.in_ok-method.method.now =
    ap (λ (o : Option Data). option_and_then as_str o) (sym c.value_at.ensures) ∙ c.in_ok-method.ensures.said in
    let path : text_at (codes "path") (table_view table) ≡ Some c.in_ok-path.path.now =
    ap (λ (o : Option Data). option_and_then as_str o) (sym c.value_at-2.ensures) ∙ c.in_ok-path.ensures.said in
    let status : status_at (table_view table) ≡ Some c.in_ok-status.status =
    ap (λ (o : Option Data). option_and_then status_said o) (sym c.value_at-3.ensures) ∙ c.in_ok-status.ensures.said in
    let p = err_from_is_err_and c.from_residual-in_err-body.result c.from_residual-in_err-body.ensures.1 in
    rw (p.1, p.2) (c.in_err-body.ensures.refused.0, rw (other, method, path, status, c.in_err-body.ensures.refused.1) (said_with-no_body _ _ _ _ _))

pub returns-in_err-early-clause-refused : goal.returns-in_err-early-clause-refused
returns-in_err-early-clause-refused c =
    let table = c.args.table.now in
    let other : has_other_key is_key_of_answer (table_view table) ≡ false =
    sym (has_other_key-keys is_key_of_answer table.entries) ∙ sym c.has_unknown_key.ensures ∙ c.if-has_unknown_key.false in
    let method : text_at (codes "method") (table_view table) ≡ Some c.in_ok-method.method.now =
    ap (λ (o : Option Data). option_and_then as_str o) (sym c.value_at.ensures) ∙ c.in_ok-method.ensures.said in
    let path : text_at (codes "path") (table_view table) ≡ Some c.in_ok-path.path.now =
    ap (λ (o : Option Data). option_and_then as_str o) (sym c.value_at-2.ensures) ∙ c.in_ok-path.ensures.said in
    let status : status_at (table_view table) ≡ Some c.in_ok-status.status =
    ap (λ (o : Option Data). option_and_then status_said o) (sym c.value_at-3.ensures) ∙ c.in_ok-status.ensures.said in
    let early : early_said (get_member (codes "early") (table_view table)) ≡ None =
    ap (λ (o : Option Data). early_said o) (sym c.value_at-5.ensures) ∙ c.in_err-early.ensures.refused.1 in
    let p = err_from_is_err_and c.from_residual-in_err-early.result c.from_residual-in_err-early.ensures.1 in
    rw (p.1, p.2) (c.in_err-early.ensures.refused.0, rw (other, method, path, status, early) (said_with-no_early _ _ _ _ _))

pub returns-in_default-clause-refused : goal.returns-in_default-clause-refused
returns-in_default-clause-refused c =
    let table = c.args.table.now in
    let other : has_other_key is_key_of_answer (table_view table) ≡ false =
    sym (has_other_key-keys is_key_of_answer table.entries) ∙ sym c.has_unknown_key.ensures ∙ c.if-has_unknown_key.false in
    let method : text_at (codes "method") (table_view table) ≡ Some c.in_ok-method.method.now =
    ap (λ (o : Option Data). option_and_then as_str o) (sym c.value_at.ensures) ∙ c.in_ok-method.ensures.said in
    let path : text_at (codes "path") (table_view table) ≡ Some c.in_ok-path.path.now =
    ap (λ (o : Option Data). option_and_then as_str o) (sym c.value_at-2.ensures) ∙ c.in_ok-path.ensures.said in
    let status : status_at (table_view table) ≡ Some c.in_ok-status.status =
    ap (λ (o : Option Data). option_and_then status_said o) (sym c.value_at-3.ensures) ∙ c.in_ok-status.ensures.said in
    let headers : headers_said (get_member (codes "headers") (table_view table)) ≡ None =
    ap (λ (o : Option Data). headers_said o) (sym c.value_at-4.ensures) ∙ sym c.in_default.ensures.said in
    (refl, rw (other, method, path, status, headers) refl)
