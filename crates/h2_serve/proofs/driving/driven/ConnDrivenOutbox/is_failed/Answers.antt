use Rattle.std.proofs.Common.{◌∙◌, sym}
use Rattle.h2_serve.proofs.Exchanges.{taken-no_item}
use Rattle.h2_serve.proofs.driving.driven.ConnDrivenOutbox.is_failed.Goals as goal

pub returns-clause-no_item : goal.returns-clause-no_item
returns-clause-no_item g c = λ kept. taken-no_item _ (sym c.failed.ensures.value ∙ kept) (c.failed.ensures.no_item kept) c.failed.ensures.over
