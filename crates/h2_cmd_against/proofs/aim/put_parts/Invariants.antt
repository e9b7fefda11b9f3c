use Rattle.std.proofs.Common.{◌≡◌, ◌++◌, drop, map}
use Rattle.h2_cmd_against.specs.Aims.{aimed_by, aimed_parts}
use Rattle.h2_cmd_against.proofs.aim.put_parts.Given as goal

abbrev pub invariant-loop-part : goal.invariant-loop-part
invariant-loop-part l = l.out.items ++ aimed_parts (aimed_by l.aim) l.is_moved l.lead (map (λ p. p.now) (drop l.part-index l.parts))
    ≡ l.fn.out.items ++ aimed_parts (aimed_by l.aim) l.is_moved 104 (map (λ p. p.now) l.parts)
