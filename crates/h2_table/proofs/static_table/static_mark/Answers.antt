use Rattle.std.proofs.Common.{◌∙◌, inl, inr, arith}
use Rattle.h2_table.proofs.StaticEntries.{mark-inside, mark-outside}
use Rattle.h2_table.proofs.static_table.static_mark.Goals as goal

pub returns-then-i-known : goal.returns-then-i-known
returns-then-i-known c = λ f e.
    let out = mark-outside c.known_names-known.result.now c.args.i f c.known_names-known.ensures e in
    elim c.if-i-known.either [ inl z ↦ absurd (out.0 z) | inr l ↦ absurd (omega (arith, l, out.1)) ]

pub returns-else-i-known : goal.returns-else-i-known
returns-else-i-known c = λ f e.
    let known = c.known_names-known.result.now in
    c.mark_with-else-i-known.ensures ∙ mark-inside known c.args.i f _ c.known_names-known.ensures e (let out = mark-outside known c.args.i f c.known_names-known.ensures e in omega (arith, out.1, out.0))
