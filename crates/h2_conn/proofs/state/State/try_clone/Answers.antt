use Rattle.h2_conn.proofs.state.State.try_clone.Goals as goal

pub invariant_of-result : goal.invariant_of-result
invariant_of-result g c = rw (c.in_ok-streams.ensures, c.in_ok-table.ensures.same, c.in_ok-block.ensures) c.self.invariant

pub returns : goal.returns
returns g c = rw (c.in_ok-streams.ensures, c.in_ok-table.ensures.same, c.in_ok-block.ensures) c.self.view_is
