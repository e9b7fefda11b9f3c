use Rattle.std.proofs.Common.{◌≡◌, Some, ap, subst, ◌∙◌}
use Rattle.h2_spec.specs.declared.connection.ConnectionState.{ConnectionState}
use Rattle.h2_spec.specs.declared.reactions.Change.{Change}
use Rattle.h2_spec.specs.Requests.Headers as rule
use Rattle.h2_spec.specs.State.{Decoding}
use Rattle.h2_conn.specs.Fragments.{after_of}
use Rattle.h2_conn.specs.Blocks.{makes_open}
use Rattle.h2_spec.specs.Does.{Settles}
use Rattle.h2_conn.proofs.state.State.goes_on.Given.{Over}
use Rattle.h2_conn.proofs.state.State.goes_on.Goals as goal

-- what changes is what the rule says of the state and the block
ruled : (g : Over) (c : goal.After-finish g) → c.goes_on-change.result ≡ rule.goes_on c.args.self.now.core c.args.decoding.now.purpose
ruled g c =
    c.goes_on-change.ensures
    ∙ ap (λ (k : ConnectionState). rule.goes_on k c.decoding.inside.purpose) c.core.ensures.counts
    ∙ ap (λ (d : Decoding). rule.goes_on c.args.self.now.core d.purpose) c.decoding.view_is

pub returns-clause-settles : goal.returns-clause-settles
returns-clause-settles g c =
    let a = c.args in
    subst (λ (change : Change). Settles a.self.now (g.O.Outgoing.octets a.out.now) (makes_open a.self.now a.edit.now (Some a.shown) (after_of a.decoding.now a.tentative) change) c.finish.result c.finish.new.self (g.O.Outgoing.octets c.finish.new.out)) (ruled g c) c.finish.ensures.settles
