use Rattle.std.proofs.Common.{◌≡◌, true, drop, map}
use Rattle.h2_cmd_run.specs.CheckProgram.{common_of}
use Rattle.h2_cmd_run.proofs.Suites.{SuitesGoOn}
use Rattle.h2_cmd_run.proofs.junit.suites_of.Given as goal

abbrev pub invariant-loop-file : goal.invariant-loop-file
invariant-loop-file g l = record {
  same_printed : g.F.Files.is_printed l.files ≡ g.F.Files.is_printed l.fn.files;
  same_files : g.F.Files.file l.files ≡ g.F.Files.file l.fn.files;
  reports : g.F.Files.is_printed l.fn.files ≡ true → SuitesGoOn (g.F.Files.file l.fn.files) (common_of l.fn.common)
      l.fn.tally (map (λ n. n.now) l.names) l.tally (map (λ n. n.now) (drop l.file-index l.names)) l.suites.items;
}
