use Rattle.std.proofs.Common.{◌≡◌, ◌≤◌, ◌-◌, [], drop, length}
use Rattle.h2_conn.specs.Connection.{going}
use Rattle.h2_cmd_inject.specs.Views.{viewing_of}
use Rattle.h2_cmd_inject.proofs.ViewLaws.{TakesOn}
use Rattle.h2_cmd_inject.proofs.view.View.take_all.Given as goal

abbrev pub invariant-loop-used : goal.invariant-loop-used
invariant-loop-used g l = record {
  ready : l.self.conn ≡ going l.self.conn.state [];
  within : l.at ≤ length l.octets;
  opening : l.self.opening ≡ l.fn.self.opening;
  on : TakesOn l.form l.steps l.fn.self.opening (viewing_of l.fn.self) l.octets l.fn.out.items (viewing_of l.self) (drop l.at l.octets) l.out.items;
}

abbrev pub decreases-loop-used : goal.decreases-loop-used
decreases-loop-used g l = length l.octets - l.at
