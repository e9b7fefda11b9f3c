use Rattle.std.proofs.Common.{◌≡◌, ◌≤◌, ◌-◌, ◌++◌, drop, flat_map, length, map, true}
use Rattle.h2_cmd_cases.specs.Files.{cases_from, cases_in}
use Rattle.h2_cmd_run.specs.Blessing.{blessed_case}
use Rattle.h2_cmd_run.specs.CheckProgram.{common_of}
use Rattle.h2_cmd_run.proofs.bless.add_cases.Given as goal

abbrev pub invariant-loop-first : goal.invariant-loop-first
invariant-loop-first g l = record {
  within : l.first ≤ length l.lines;
  same_printed : g.F.Files.is_printed l.files ≡ g.F.Files.is_printed l.fn.files;
  same_files : g.F.Files.file l.files ≡ g.F.Files.file l.fn.files;
  text : g.F.Files.is_printed l.fn.files ≡ true
      → l.text.items ++ flat_map (blessed_case (g.F.Files.file l.fn.files) (common_of l.fn.common) l.file) (cases_from (drop l.first (map (λ t. t.now) l.lines)))
      ≡ l.fn.text.items ++ flat_map (blessed_case (g.F.Files.file l.fn.files) (common_of l.fn.common) l.file) (cases_in (map (λ t. t.now) l.lines));
}

abbrev pub decreases-loop-first : goal.decreases-loop-first
decreases-loop-first g l = length l.lines - l.first
