use Rattle.std.proofs.Common.{◌≡◌, List, ℕ, subst}
use Rattle.std.proofs.lemmas.Result.{err_from_is_err_and}
use Rattle.h2_spec.specs.State.{opening}
use Rattle.h2_cmd_items.specs.SentItems.{AreItems}
use Rattle.h2_cmd_items.proofs.case.case_items.Goals as goal

pub returns-in-Ok-clause-items : goal.returns-in-Ok-clause-items
returns-in-Ok-clause-items c = (
  c.in_ok-items.items.sent.items,
  c.in_ok-items.items.own.items,
  c.in_ok-items.items.opens,
  c.in_ok-items.items.is_ended,
  subst (λ (o : List ℕ). AreItems (opening c.args.book.now c.args.config) o c.in_ok-items.items.sent.items c.in_ok-items.items.own.items c.in_ok-items.items.opens) c.as_slice.ensures.value c.in_ok-items.ensures.items,
  c.in-Ok.ensures,
)

pub returns-in_err-items-clause-fault : goal.returns-in_err-items-clause-fault
returns-in_err-items-clause-fault c =
    let p = err_from_is_err_and c.from_residual.result c.from_residual.ensures.1 in
    rw (p.1, p.2) c.in_err-items.ensures.fault
