use Rattle.std.proofs.Common.{◌∙◌, ℕ, List, [], Some, ap, sym}
use Rattle.std.proofs.lemmas.List.{append-nil}
use Rattle.h2_cmd_batch.specs.Input.{octets_of}
use Rattle.h2_cmd_run.proofs.Explained.{none-given}
use Rattle.h2_cmd_run.proofs.explain.explain_text.Goals as goal

pub returns-in-Err-clause-printed : goal.returns-in-Err-clause-printed
returns-in-Err-clause-printed g c = λ well held is. (
  [],
  is ∙ ap (λ (t : List ℕ). Some t) (sym (append-nil held)),
  none-given c.args.form c.args.book.now c.args.config (octets_of c.args.raw c.args.text.items) c.in-Err.fault c.in-Err.ensures.err,
)
