use Rattle.std.proofs.Common.{◌≡◌, false, true, map}
use Rattle.std.specs.Io.KnownBytes.{Appends}
use Rattle.h2_cmd_check.specs.JUnit.{results_in}
use Rattle.h2_cmd_against.specs.Files.{trial_of}
use Rattle.h2_cmd_against.specs.Program.{texts}
use Rattle.h2_cmd_against.proofs.FileLaws.{SuitesOn, names_left}
use Rattle.h2_cmd_against.proofs.program.print_files.Given as goal

abbrev pub invariant-loop-file : goal.invariant-loop-file
invariant-loop-file g l = record {
  writer : g.O.Output.has_failed l.output ≡ false;
  same_printed : g.F.Files.is_printed l.files ≡ g.F.Files.is_printed l.fn.files;
  same_files : g.F.Files.file l.files ≡ g.F.Files.file l.fn.files;
  results : g.F.Files.is_printed l.fn.files ≡ true → SuitesOn (trial_of (g.F.Files.file l.fn.files) l.bench)
      (map (λ n. n.now) l.names) l.fn.so_far (g.L.Link.log l.fn.link) l.suites.items (names_left l.names l.file-index) l.so_far (g.L.Link.log l.link);
  written : Appends (g.O.Output.written l.fn.output) (g.O.Output.written l.output) (texts (map results_in l.suites.items));
}
