use Rattle.std.proofs.Common.{◌≡◌, ◌+◌, ◌-◌, ◌≤◌, length, drop}
use Rattle.h2_table.specs.Edits.{IsEdit}
use Rattle.h2_fields.specs.Applied.{Grows, progress_in}
use Rattle.h2_hpack_instruction.specs.Resume.{IsPoint}
use Rattle.h2_fields.specs.Rests.{IsCounted}
use Rattle.h2_spec.proofs.BlockLaws.{LeadsTo}
use Rattle.h2_fields.proofs.fragment.decode.Given as goal

abbrev pub invariant-loop-left : goal.invariant-loop-left
invariant-loop-left g l = record {
  belongs : IsEdit l.table l.edit;
  leads : LeadsTo l.table.limit (progress_in l.fn.collected l.table l.fn.edit) l.octets l.at (progress_in l.collected l.table l.edit);
  grows : Grows l.fn.collected l.collected;
  point : IsPoint (drop l.at l.octets) l.point;
  passed : l.at + l.point.passed ≤ length l.octets;
  stays : l.next ≡ l.fn.next;
  counted : IsCounted l.fn.from.passed (l.at + l.point.passed) l.at l.fn.ticks l.ticks;
}

abbrev pub decreases-loop-left : goal.decreases-loop-left
decreases-loop-left g l = length l.octets - l.at
