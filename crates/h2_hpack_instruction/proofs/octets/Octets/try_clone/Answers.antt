use Rattle.std.proofs.Common.{◌∙◌}
use Rattle.std.specs.List.{each_same}
use Rattle.h2_hpack_instruction.proofs.octets.Octets.try_clone.Goals as goal

pub returns : goal.returns
returns g c = record { same = each_same c.self.inside.items.items c.in_ok-items.items.items c.in_ok-items.ensures.cases.0 ∙ c.self.view_is }
