use Rattle.std.proofs.Common.{refl}
use Rattle.h2_conn.proofs.Runs.{opening-none}
use Rattle.h2_conn.proofs.conn.Conn.new.Goals as goal

pub invariant_of-result : goal.invariant_of-result
invariant_of-result g c = rw (c.in_ok-state.ensures, c.new-2.ensures) ((refl, refl), opening-none c.args.book.now c.args.config)
