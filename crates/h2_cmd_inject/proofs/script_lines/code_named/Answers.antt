use Rattle.std.proofs.Common.{◌∙◌, sym}
use Rattle.h2_cmd_inject.proofs.ScriptLaws.{code-none}
use Rattle.h2_cmd_inject.proofs.script_lines.code_named.Goals as goal

pub returns : goal.returns
returns c = sym (code-none c.loop-code.code c.args.name.now c.loop-code-test.false) ∙ c.loop-code.invariant
