use Rattle.std.proofs.Common.{◌≡◌, ◌∙◌, [], IfOk, string_bytes, ap, subst}
use Rattle.h2_spec.specs.State.{State}
use Rattle.h2_spec.specs.Texts.Show.{show}
use Rattle.h2_spec.specs.Texts.View.{view}
use Rattle.h2_conn.specs.Connection.{Connection, going}
use Rattle.h2_embed.proofs.Making.{whole}
use Rattle.h2_embed.proofs.owned.OwnedConn.show.Goals as goal

pub returns-clause-same : goal.returns-clause-same
returns-clause-same c =
    let is = c.into_conn-conn.ensures in whole _ _ _ c.into_parts-parts.ensures.parts (ap (λ (d : Connection). d.state.book) is) ∙ ap (λ (d : Connection). d.state) is ∙ c.self.view_is

pub returns-clause-shown : goal.returns-clause-shown
returns-clause-shown c =
    subst (λ (d : Connection). IfOk c.show-text.result (λ text. string_bytes text ≡ show (view d.state))) (c.into_conn-conn.ensures ∙ ap (λ (s : State). going s []) c.self.view_is) c.show-text.ensures
