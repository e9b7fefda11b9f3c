use Rattle.std.proofs.Common.{◌≡◌, ◌∙◌, ap, subst, sym}
use Rattle.h2_spec.specs.State.{State}
use Rattle.h2_conn.specs.Connection.{Connection}
use Rattle.h2_conn.specs.Parts.{AreOfBook, parts_of}
use Rattle.h2_conn.proofs.RestLaws.{state-inside}
use Rattle.h2_conn.proofs.conn.Conn.into_parts.Given.{Over}
use Rattle.h2_conn.proofs.conn.Conn.into_parts.Goals as goal

same : (g : Over) (c : goal.After-into_parts g) → c.self.inside.state ≡ c.args.self.state
same g c = sym (state-inside c.self.inside.failed c.self.inside.state c.self.inside.splitter.octets) ∙ ap (λ (d : Connection). d.state) c.self.view_is

pub returns-clause-parts : goal.returns-clause-parts
returns-clause-parts g c = c.into_parts.ensures.parts ∙ ap parts_of (same g c)

pub returns-clause-book : goal.returns-clause-book
returns-clause-book g c = subst (λ (s : State). AreOfBook s.book c.into_parts.result) (same g c) c.into_parts.ensures.book
