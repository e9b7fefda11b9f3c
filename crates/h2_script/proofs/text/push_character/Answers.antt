use Rattle.std.proofs.Common.{◌≡◌, arith, false, rules}
use Rattle.std.proofs.lemmas.Grind.{common_steps}
use Rattle.h2_spec.specs.Texts.Script.{is_plain}
use Rattle.h2_script.proofs.text.push_character.Goals as goal

pub returns : goal.returns
returns g c = let escaped : is_plain c.args.octet ≡ false = search rules in grind (arith, common_steps)
