use Rattle.h2_cmd_dialogue.proofs.WeaveLaws.{woven-nothing}
use Rattle.h2_cmd_dialogue.proofs.laws.an_empty_script_changes_nothing.Goals as goal

pub returns : goal.returns
returns c = woven-nothing
