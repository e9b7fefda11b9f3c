use Rattle.std.proofs.Common.{take}
use Rattle.h2_request_well_formed.specs.Fields.{fields_in}
use Rattle.h2_request_well_formed.specs.Seen.{AreMarks, ArePseudo, IsLength}
use Rattle.h2_request_well_formed.specs.Walk.{pseudo_of}
use Rattle.h2_request_well_formed.proofs.walk.FieldScan.of.Given as goal

abbrev pub invariant-loop-place : goal.invariant-loop-place
invariant-loop-place g l = record {
  marks : AreMarks (take l.place (fields_in l.fields)) l.marks;
  pseudo : ArePseudo (take l.place (fields_in l.fields)) (pseudo_of l.pseudo);
  length : IsLength (take l.place (fields_in l.fields)) l.length;
}
