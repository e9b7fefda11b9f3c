use Rattle.std.proofs.Common.{length, string_bytes}
use Rattle.h2_script.proofs.Fragments.{Reaches}
use Rattle.h2_script.proofs.fragment.instructions_text.Given as goal

abbrev pub decreases-loop-rest : goal.decreases-loop-rest
decreases-loop-rest g l = length l.rest

abbrev pub invariant-loop-rest : goal.invariant-loop-rest
invariant-loop-rest g l = Reaches l.payload (string_bytes l.text) l.octets.items l.rest
