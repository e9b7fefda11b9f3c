use Rattle.std.proofs.Common.{◌≡◌, drop, false, map, true}
use Rattle.h2_cmd_run.specs.CheckProgram.{common_of}
use Rattle.h2_cmd_run.proofs.Blessed.{GoesOn, PrintsOn}
use Rattle.h2_cmd_run.proofs.bless.bless_files.Given as goal

abbrev pub invariant-loop-file : goal.invariant-loop-file
invariant-loop-file g l = record {
  writer : g.O.Output.has_failed l.output ≡ false;
  name : g.O.Output.name l.output ≡ g.O.Output.name l.fn.output;
  same_printed : g.F.Files.is_printed l.files ≡ g.F.Files.is_printed l.fn.files;
  same_files : l.plan.in_place ≡ false → g.F.Files.file l.files ≡ g.F.Files.file l.fn.files;
  blesses : l.plan.in_place ≡ true → g.F.Files.is_printed l.fn.files ≡ true
      → GoesOn (common_of l.fn.common) (g.F.Files.file l.fn.files) (map (λ n. n.now) l.names) (g.F.Files.file l.files) (map (λ n. n.now) (drop l.file-index l.names));
  prints : l.plan.in_place ≡ false → g.F.Files.is_printed l.fn.files ≡ true
      → PrintsOn (common_of l.fn.common) (g.F.Files.file l.fn.files) (map (λ n. n.now) l.names) (g.O.Output.written l.fn.output)
      (map (λ n. n.now) (drop l.file-index l.names)) (g.O.Output.written l.output);
}
