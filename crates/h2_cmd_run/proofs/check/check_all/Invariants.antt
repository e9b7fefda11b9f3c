use Rattle.std.proofs.Common.{◌≡◌, false, true, drop, map}
use Rattle.h2_cmd_run.specs.CheckProgram.{all_subjects, common_of}
use Rattle.h2_cmd_run.proofs.Checked.{GoesOn}
use Rattle.h2_cmd_run.proofs.check.check_all.Given as goal

abbrev pub invariant-loop-file : goal.invariant-loop-file
invariant-loop-file g l = record {
  writer : g.O.Output.has_failed l.output ≡ false;
  name : g.O.Output.name l.output ≡ g.O.Output.name l.fn.output;
  same_printed : g.F.Files.is_printed l.files ≡ g.F.Files.is_printed l.fn.files;
  same_files : g.F.Files.file l.files ≡ g.F.Files.file l.fn.files;
  reports : g.F.Files.is_printed l.fn.files ≡ true → GoesOn (g.F.Files.file l.fn.files) (common_of l.fn.common)
      l.fn.tally (all_subjects (g.F.Files.file l.fn.files) (map (λ n. n.now) l.names)) (g.O.Output.written l.fn.output)
      l.tally (all_subjects (g.F.Files.file l.fn.files) (map (λ n. n.now) (drop l.file-index l.names))) (g.O.Output.written l.output);
}
