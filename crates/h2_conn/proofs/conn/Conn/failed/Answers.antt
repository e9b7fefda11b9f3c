use Rattle.std.proofs.Common.{◌≡◌, [], false, true, subst}
use Rattle.h2_spec.specs.Frames.Frame.{NoItem}
use Rattle.h2_spec.specs.Trace.{next_item}
use Rattle.h2_conn.specs.Connection.{Connection, is_ended}
use Rattle.h2_conn.proofs.RestLaws.{rest-no_item, rest-over}
use Rattle.h2_conn.proofs.conn.Conn.failed.Goals as goal

pub returns-clause-no_item : goal.returns-clause-no_item
returns-clause-no_item g c =
    let conn = c.self.inside in
    subst (λ (d : Connection). conn.failed ≡ false → next_item d.state d.rest ≡ NoItem) c.self.view_is (rest-no_item conn.failed conn.state conn.splitter c.self.invariant)

pub returns-clause-over : goal.returns-clause-over
returns-clause-over g c =
    let conn = c.self.inside in
    subst (λ (d : Connection). is_ended d.state.core.phase ≡ true → d.rest ≡ []) c.self.view_is (rest-over conn.failed conn.state conn.splitter.octets)
