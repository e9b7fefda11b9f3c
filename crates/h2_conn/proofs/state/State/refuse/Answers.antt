use Rattle.std.proofs.Common.{ap, ◌∙◌}
use Rattle.h2_spec.specs.State.{State}
use Rattle.h2_conn.specs.Shown.{fields_at_hand}
use Rattle.h2_conn.proofs.ShownLaws.{stopped-fields}
use Rattle.h2_conn.proofs.state.State.refuse.Goals as goal

pub returns-in-Ok-clause-fields : goal.returns-in-Ok-clause-fields
returns-in-Ok-clause-fields g c =
    let fields = c.args.decoding.now.fields in
    ap (λ (x : State). fields_at_hand x.block fields) c.in-Ok.ensures.ok.state ∙ stopped-fields c.args.self.now.block fields
