use Rattle.std.proofs.Common.{ap, inl, inr, refl}
use Rattle.h2_cmd_batch.specs.CaseSetups.{setup_with}
use Rattle.h2_cmd_batch.proofs.case_setup.own_book.Goals as goal

pub returns-in-Ok-clause-ok : goal.returns-in-Ok-clause-ok
returns-in-Ok-clause-ok g c = λ printed. rw (c.in-Ok.ensures.ok (inr printed)) refl

pub returns-clause-err : goal.returns-clause-err
returns-clause-err g c = λ printed. c.book_refused.ensures _ (elim (c.in-Err.ensures.err (inr printed)) [
  | inl memory ↦ inl memory
  | inr none ↦ inr (ap (λ r. setup_with c.args.config r) none)
])
