use Rattle.std.proofs.Common.{◌≡◌, ◌-◌, ◌+◌, length, option_map, flat_map}
use Rattle.h2_spec.specs.Texts.Assemble.{all_at, setting_at}
use Rattle.h2_spec.specs.Texts.Script.{setting_octets}
use Rattle.h2_script.specs.Each.{behind_each}
use Rattle.h2_script.proofs.payload.settings_at.Given as goal

abbrev pub invariant-loop-turn : goal.invariant-loop-turn
invariant-loop-turn g l =
    behind_each setting_at setting_octets l.octets.items (length l.text + 1 - l._turn) l.rest ≡ option_map (flat_map setting_octets) (all_at setting_at l.text)
