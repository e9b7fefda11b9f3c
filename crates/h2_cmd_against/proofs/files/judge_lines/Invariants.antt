use Rattle.std.proofs.Common.{◌≡◌, ◌≤◌, ◌-◌, Ok, true, length, map}
use Rattle.h2_cmd_cases.specs.Files.{cases_in}
use Rattle.h2_cmd_against.specs.Files.{trial_of}
use Rattle.h2_cmd_against.proofs.FileLaws.{JudgesOn, cases_left}
use Rattle.h2_cmd_against.proofs.files.judge_lines.Given as goal

abbrev pub invariant-loop-first : goal.invariant-loop-first
invariant-loop-first g l = record {
  within : l.first ≤ length l.lines;
  same_printed : g.F.Files.is_printed l.files ≡ g.F.Files.is_printed l.fn.files;
  same_files : g.F.Files.file l.files ≡ g.F.Files.file l.fn.files;
  results : g.F.Files.is_printed l.fn.files ≡ true → JudgesOn (trial_of (g.F.Files.file l.fn.files) l.bench) l.file
      (map (λ c. Ok c) (cases_in (map (λ t. t.now) l.lines))) l.fn.so_far (g.L.Link.log l.fn.link)
      (cases_left l.lines l.first) l.so_far (g.L.Link.log l.link);
}

abbrev pub decreases-loop-first : goal.decreases-loop-first
decreases-loop-first g l = length l.lines - l.first
