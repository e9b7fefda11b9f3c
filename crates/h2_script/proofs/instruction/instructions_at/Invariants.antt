use Rattle.std.proofs.Common.{◌≡◌, ◌-◌, ◌+◌, List, ℕ, length, option_map, flat_map}
use Rattle.h2_spec.specs.Texts.Assemble.{all_at, instruction_at}
use Rattle.h2_spec.specs.Texts.Script.{instruction_octets}
use Rattle.h2_script.specs.Each.{behind_each}
use Rattle.h2_script.specs.Readings.{WrittenOut}
use Rattle.h2_script.proofs.instruction.instructions_at.Given as goal

abbrev pub invariant-loop-turn : goal.invariant-loop-turn
invariant-loop-turn g l =
    (o : List ℕ) × WrittenOut l.long l.octets.items o × (behind_each instruction_at instruction_octets o (length l.text + 1 - l._turn) l.rest ≡ option_map (flat_map instruction_octets) (all_at instruction_at l.text))
