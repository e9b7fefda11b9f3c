use Rattle.std.proofs.Common.{ℕ, List, ◌++◌, drop}
use Rattle.h2_cmd_inject.specs.Results.{AppendsSome, Each, IsVerdictIf}
use Rattle.h2_cmd_inject.proofs.words.push_verdicts.Given as goal

abbrev pub invariant-loop-finding : goal.invariant-loop-finding
invariant-loop-finding l = (rest : List ℕ) → Each (IsVerdictIf l.has_broken l.first) (drop l.finding-index l.findings) rest
    → AppendsSome (IsVerdictIf l.has_broken l.first) l.findings l.fn.out.items (l.out.items ++ rest)
