use Rattle.std.proofs.Common.{◌≡◌, ◌-◌, [], length}
use Rattle.h2_conn.specs.Connection.{going}
use Rattle.h2_spec.specs.State.{opening}
use Rattle.h2_cmd_dialogue.specs.Causes.{cause_upto, last_cause}
use Rattle.h2_cmd_dialogue.proofs.cause.last_cause.Given as goal

abbrev pub invariant-loop-item : goal.invariant-loop-item
invariant-loop-item l = record {
  ready : l.conn ≡ going l.conn.state [];
  cause : cause_upto (length l.octets - l._item) l.conn.state l.rest l.cause ≡ last_cause (opening l.book l.fn.config) l.octets;
}
