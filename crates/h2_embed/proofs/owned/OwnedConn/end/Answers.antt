use Rattle.std.proofs.Common.{◌≡◌, ◌∙◌, [], IfOk, Some, false, ap, subst}
use Rattle.h2_spec.specs.State.{State}
use Rattle.h2_conn.specs.Connection.{Connection, going}
use Rattle.h2_explain.specs.Explaining.{EndsAs}
use Rattle.h2_embed.proofs.Making.{whole}
use Rattle.h2_embed.proofs.owned.OwnedConn.end.Goals as goal

pub returns-clause-same : goal.returns-clause-same
returns-clause-same c =
    let is = c.into_conn-conn.ensures in whole _ _ _ c.into_parts-parts.ensures.parts (ap (λ (d : Connection). d.state.book) is) ∙ ap (λ (d : Connection). d.state) is ∙ c.self.view_is

pub returns-clause-ends : goal.returns-clause-ends
returns-clause-ends c =
    subst (λ (d : Connection). IfOk c.end_of-text.result (λ text. EndsAs false d c.args.explanation.now (Some []) (Some text.items))) (c.into_conn-conn.ensures ∙ ap (λ (s : State). going s []) c.self.view_is) c.end_of-text.ensures
