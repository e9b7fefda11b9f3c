use Rattle.std.proofs.Common.{ℕ, List, ◌++◌, drop}
use Rattle.h2_cmd_inject.specs.Results.{AppendsSome, Each, IsNoteIf}
use Rattle.h2_cmd_inject.proofs.words.push_notes.Given as goal

abbrev pub invariant-loop-finding : goal.invariant-loop-finding
invariant-loop-finding l = (rest : List ℕ) → Each IsNoteIf (drop l.finding-index l.findings) rest
    → AppendsSome IsNoteIf l.findings l.fn.out.items (l.out.items ++ rest)
