use Rattle.std.proofs.Common.{◌∙◌, Option, ap, refl, subst, sym, option_and_then}
use Rattle.std.specs.Prelude.{IfSome, IsTrue, is_some}
use Rattle.std.proofs.lemmas.Result.{IfErr-weaker, IfOk-weaker}
use Rattle.h2_cmd_book_file.specs.Contents.{contents_seen}
use Rattle.h2_cmd_book_file.specs.declared.body.Contents.{Contents}
use Rattle.h2_cmd_book_file.proofs.body.first_said.Goals as goal

pub returns-in-Some-default-default-default-clause-said : goal.returns-in-Some-default-default-default-clause-said
returns-in-Some-default-default-default-clause-said c =
    rw c.in-Some-default-default-default.is-0 (IfOk-weaker c.formed.result _ _ (λ _ h. sym c.text_said.ensures.said ∙ ap (λ (o : Option Contents). option_and_then contents_seen o) h) c.formed.ensures.ok)

pub returns-in-Some-default-default-default-clause-whole : goal.returns-in-Some-default-default-default-clause-whole
returns-in-Some-default-default-default-clause-whole c =
    IfOk-weaker c.formed.result _ _ (λ _ h. subst (λ (o : Option Contents). IfSome o (λ b. IsTrue (is_some (contents_seen b)))) h c.text_said.ensures.whole) c.formed.ensures.ok

pub returns-in-Some-default-default-default-clause-refused : goal.returns-in-Some-default-default-default-clause-refused
returns-in-Some-default-default-default-clause-refused c =
    rw c.in-Some-default-default-default.is-0 (IfErr-weaker c.formed.result _ _ (λ _ h. (h.0, sym c.text_said.ensures.said ∙ ap (λ (o : Option Contents). option_and_then contents_seen o) h.1)) c.formed.ensures.err)

pub returns-in-None-Some-default-default-clause-said : goal.returns-in-None-Some-default-default-clause-said
returns-in-None-Some-default-default-clause-said c =
    rw (c.in-None-Some-default-default.is-0, c.in-None-Some-default-default.is-1) (IfOk-weaker c.formed-in-None-Some-default-default.result _ _ (λ _ h. sym c.hex_said.ensures.said ∙ ap (λ (o : Option Contents). option_and_then contents_seen o) h) c.formed-in-None-Some-default-default.ensures.ok)

pub returns-in-None-Some-default-default-clause-whole : goal.returns-in-None-Some-default-default-clause-whole
returns-in-None-Some-default-default-clause-whole c =
    IfOk-weaker c.formed-in-None-Some-default-default.result _ _ (λ _ h. subst (λ (o : Option Contents). IfSome o (λ b. IsTrue (is_some (contents_seen b)))) h c.hex_said.ensures.whole) c.formed-in-None-Some-default-default.ensures.ok

pub returns-in-None-Some-default-default-clause-refused : goal.returns-in-None-Some-default-default-clause-refused
returns-in-None-Some-default-default-clause-refused c =
    rw (c.in-None-Some-default-default.is-0, c.in-None-Some-default-default.is-1) (IfErr-weaker c.formed-in-None-Some-default-default.result _ _ (λ _ h. (h.0, sym c.hex_said.ensures.said ∙ ap (λ (o : Option Contents). option_and_then contents_seen o) h.1)) c.formed-in-None-Some-default-default.ensures.err)

pub returns-in-None-None-Some-default-clause-said : goal.returns-in-None-None-Some-default-clause-said
returns-in-None-None-Some-default-clause-said c =
    rw (c.in-None-None-Some-default.is-0, c.in-None-None-Some-default.is-1, c.in-None-None-Some-default.is-2) (IfOk-weaker c.formed-in-None-None-Some-default.result _ _ (λ _ h. sym c.file_said.ensures.said ∙ ap (λ (o : Option Contents). option_and_then contents_seen o) h) c.formed-in-None-None-Some-default.ensures.ok)

pub returns-in-None-None-Some-default-clause-whole : goal.returns-in-None-None-Some-default-clause-whole
returns-in-None-None-Some-default-clause-whole c =
    IfOk-weaker c.formed-in-None-None-Some-default.result _ _ (λ _ h. subst (λ (o : Option Contents). IfSome o (λ b. IsTrue (is_some (contents_seen b)))) h c.file_said.ensures.whole) c.formed-in-None-None-Some-default.ensures.ok

pub returns-in-None-None-Some-default-clause-refused : goal.returns-in-None-None-Some-default-clause-refused
returns-in-None-None-Some-default-clause-refused c =
    rw (c.in-None-None-Some-default.is-0, c.in-None-None-Some-default.is-1, c.in-None-None-Some-default.is-2) (IfErr-weaker c.formed-in-None-None-Some-default.result _ _ (λ _ h. (h.0, sym c.file_said.ensures.said ∙ ap (λ (o : Option Contents). option_and_then contents_seen o) h.1)) c.formed-in-None-None-Some-default.ensures.err)

pub returns-in-None-None-None-Some-clause-said : goal.returns-in-None-None-None-Some-clause-said
returns-in-None-None-None-Some-clause-said c =
    rw (c.in-None-None-None-Some.is-0, c.in-None-None-None-Some.is-1, c.in-None-None-None-Some.is-2, c.in-None-None-None-Some.is-3) (IfOk-weaker c.formed-in-None-None-None-Some.result _ _ (λ _ h. sym c.fill_said.ensures.said ∙ ap (λ (o : Option Contents). option_and_then contents_seen o) h) c.formed-in-None-None-None-Some.ensures.ok)

pub returns-in-None-None-None-Some-clause-whole : goal.returns-in-None-None-None-Some-clause-whole
returns-in-None-None-None-Some-clause-whole c =
    IfOk-weaker c.formed-in-None-None-None-Some.result _ _ (λ _ h. subst (λ (o : Option Contents). IfSome o (λ b. IsTrue (is_some (contents_seen b)))) h c.fill_said.ensures.whole) c.formed-in-None-None-None-Some.ensures.ok

pub returns-in-None-None-None-Some-clause-refused : goal.returns-in-None-None-None-Some-clause-refused
returns-in-None-None-None-Some-clause-refused c =
    rw (c.in-None-None-None-Some.is-0, c.in-None-None-None-Some.is-1, c.in-None-None-None-Some.is-2, c.in-None-None-None-Some.is-3) (IfErr-weaker c.formed-in-None-None-None-Some.result _ _ (λ _ h. (h.0, sym c.fill_said.ensures.said ∙ ap (λ (o : Option Contents). option_and_then contents_seen o) h.1)) c.formed-in-None-None-None-Some.ensures.err)

pub returns-in-None-None-None-None-clause-said : goal.returns-in-None-None-None-None-clause-said
returns-in-None-None-None-None-clause-said c = rw (c.in-None-None-None-None.is-0, c.in-None-None-None-None.is-1, c.in-None-None-None-None.is-2, c.in-None-None-None-None.is-3) refl
