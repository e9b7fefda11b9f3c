-- How the ticks of a decoder grow.
use Rattle.std.proofs.Common.{◌≡◌, ℕ, ◌+◌, ◌-◌, ◌*◌, ◌<◌, ◌≤◌, Bool, List, [], ◌∷◌, length, min, ap, arith, length-append}
use Rattle.std.specs.List.{concat}
use Rattle.h2_fields.specs.Blocks.{ArePushed, BlockSoFar, fresh, unfinished}
use Rattle.h2_fields.specs.Rests.{IsCounted, IsTicked, most_ticks}

-- one instruction more
pub counts : (before passed next at used huffman old now new : ℕ) → IsCounted before (at + passed) at old now → passed ≤ used → huffman < used → next ≡ 0 → new ≡ min (now + (used - passed) + huffman + 1) most_ticks →
    IsCounted before (at + used + next) (at + used) old new
counts before passed next at used huffman old now new c h k z e =
    (λ below. let least = c.0 (omega (arith, e, below)) in omega (arith, e, below, least, h, z), omega (arith, c.1, e, h, k, z))

-- the octets that are left
pub counts-rest : (before passed at left all old now new : ℕ) → IsCounted before (at + passed) at old now → passed ≤ left → at + left ≡ all → new ≡ min (now + (left - passed)) most_ticks → IsCounted before all at old new
counts-rest before passed at left all old now new c h a e =
    (λ below. let least = c.0 (omega (arith, e, below)) in omega (arith, e, below, least, h, a), omega (arith, c.1, e, h, a))

-- a fragment of `piece` octets after `before` that were left
pub ticked : (passed before piece used after ticks : ℕ) → IsCounted passed (before + piece) used 0 ticks → passed ≤ before → before ≤ passed + 5 → used + after ≡ before + piece → IsTicked before piece after ticks
ticked passed before piece used after ticks c h k e =
    (λ below. let least = c.0 below in omega (arith, least, h), omega (arith, c.1, k, e), omega (arith, e))

-- a fragment of `piece` octets where nothing was left
pub ticked-alone : (passed piece used after ticks : ℕ) → IsCounted passed piece used 0 ticks → passed ≡ 0 → used + after ≡ piece → IsTicked 0 piece after ticks
ticked-alone passed piece used after ticks c z e =
    (λ below. let least = c.0 below in omega (arith, least, z), omega (arith, c.1, e, z), omega (arith, e))

-- ---- fragment after fragment

abbrev Bounded : BlockSoFar → List (List ℕ) → BlockSoFar → Type 0
Bounded old pieces now =
    (now.ticks < most_ticks → old.ticks + length (concat pieces) ≤ now.ticks)
    × (now.ticks + 2 * length (unfinished now.outcome) ≤ old.ticks + 2 * length (unfinished old.outcome) + 4 * length (concat pieces) + 8 * length pieces)

pushed : (pieces : List (List ℕ)) (old now : BlockSoFar) → ArePushed old pieces now → Bounded old pieces now
pushed [] old now e =
    let same = ap (λ (s : BlockSoFar). s.ticks) e in
    let left = ap (λ (s : BlockSoFar). length (unfinished s.outcome)) e in
    (λ _. omega (arith, same), omega (arith, same, left))
pushed (piece ∷ pieces) old now h =
    let rest = pushed pieces h.0 now h.2 in
    let sum = length-append piece (concat pieces) in
    (λ below. let more = rest.0 below in let one = h.1.0 (omega (arith, more, below)) in omega (arith, more, one, sum), omega (arith, rest.1, h.1.1, sum))

pub bounded : (due : Bool) (pieces : List (List ℕ)) (now : BlockSoFar) → ArePushed (fresh due) pieces now → now.ticks < most_ticks → (length (concat pieces) ≤ now.ticks) × (now.ticks ≤ 4 * length (concat pieces) + 8 * length pieces)
bounded due pieces now h below =
    let all = pushed pieces (fresh due) now h in
    (omega (arith, all.0 below), omega (arith, all.1))
