use Rattle.std.proofs.Common.{◌≡◌, ◌-◌}
use Rattle.h2_cmd_inject.specs.ScriptLines.{code_named, code_upto}
use Rattle.h2_cmd_inject.proofs.script_lines.code_named.Given as goal

abbrev pub invariant-loop-code : goal.invariant-loop-code
invariant-loop-code l = code_upto (14 - l.code) l.code l.name ≡ code_named l.name
