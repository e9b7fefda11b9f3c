use Rattle.std.proofs.Common.{◌≡◌, ◌+◌, ◌≤◌, length, map}
use Rattle.h2_cmd_inject.specs.Dialogues.{dialogues_said, lines_taken}
use Rattle.h2_cmd_inject.proofs.FileLaws.{texts_from}
use Rattle.h2_cmd_inject.proofs.file.dialogues_of.Given as goal

abbrev pub invariant-loop-place : goal.invariant-loop-place
invariant-loop-place l = record {
  within : l.place ≤ length l.lines;
  taken : lines_taken (l.place + 1) (texts_from l.place l.lines) l.reading ≡ dialogues_said (map (λ t. t.now) l.lines);
}
