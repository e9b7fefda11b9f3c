use Rattle.std.proofs.Common.{◌∙◌}
use Rattle.h2_frame.proofs.LoanLaws.{spread-none}
use Rattle.h2_frame.proofs.lending.Lending.new.Goals as goal

pub returns : goal.returns
returns g c = spread-none 0 c.new.result.items c.new-2.result.items c.new-2.ensures.items ∙ c.new.ensures.items
