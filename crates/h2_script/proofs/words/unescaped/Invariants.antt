use Rattle.std.proofs.Common.{◌≡◌, ◌≤◌, ◌++◌, ◌-◌, drop, length, option_map}
use Rattle.h2_spec.specs.Texts.Assemble.{unescaped}
use Rattle.h2_script.proofs.words.unescaped.Given as goal

abbrev pub decreases-loop-at : goal.decreases-loop-at
decreases-loop-at g l = length l.text - l.at

abbrev pub invariant-loop-at : goal.invariant-loop-at
invariant-loop-at g l = record { so_far : option_map (λ cs. l.octets.items ++ cs) (unescaped (drop l.at l.text)) ≡ unescaped l.text; within : l.at ≤ length l.text }
