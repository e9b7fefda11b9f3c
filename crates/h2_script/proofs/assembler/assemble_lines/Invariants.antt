use Rattle.std.proofs.Common.{◌≡◌, ◌+◌, ◌≤◌, length}
use Rattle.h2_spec.specs.Texts.Assemble.{lines_at, with_front}
use Rattle.h2_spec.specs.Texts.Script.{lines_of}
use Rattle.h2_script.proofs.assembler.assemble_lines.Given as goal

abbrev pub invariant-loop-line : goal.invariant-loop-line
invariant-loop-line g l = record {
  so_far : with_front l.out.items (lines_at l.number (lines_of l.rest)) ≡ lines_at 1 (lines_of l.text);
  count : l.number + length l.rest ≤ length l.text + 1;
}

abbrev pub decreases-loop-line : goal.decreases-loop-line
decreases-loop-line g l = length l.rest
