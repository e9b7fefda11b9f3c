use Rattle.std.proofs.Common.{◌≡◌, ◌≤◌, ◌-◌, Some, false, true, drop, length, map}
use Rattle.h2_cmd_cases.specs.Files.{cases_from, cases_in}
use Rattle.h2_cmd_run.specs.CheckProgram.{common_of, subject}
use Rattle.h2_cmd_run.proofs.Checked.{GoesOn}
use Rattle.h2_cmd_run.proofs.check.check_cases.Given as goal

abbrev pub invariant-loop-first : goal.invariant-loop-first
invariant-loop-first g l = record {
  within : l.first ≤ length l.lines;
  writer : g.O.Output.has_failed l.output ≡ false;
  name : g.O.Output.name l.output ≡ g.O.Output.name l.fn.output;
  same_printed : g.F.Files.is_printed l.files ≡ g.F.Files.is_printed l.fn.files;
  same_files : g.F.Files.file l.files ≡ g.F.Files.file l.fn.files;
  reports : g.F.Files.is_printed l.fn.files ≡ true → GoesOn (g.F.Files.file l.fn.files) (common_of l.fn.common)
      l.fn.tally (map (λ c. subject l.file (Some c)) (cases_in (map (λ t. t.now) l.lines))) (g.O.Output.written l.fn.output)
      l.tally (map (λ c. subject l.file (Some c)) (cases_from (drop l.first (map (λ t. t.now) l.lines)))) (g.O.Output.written l.output);
}

abbrev pub decreases-loop-first : goal.decreases-loop-first
decreases-loop-first g l = length l.lines - l.first
