use Rattle.std.proofs.Common.{arith, ◌≡◌, ◌<◌, ℕ, zero, suc, List, [], ◌∷◌, length, get_or, refl}
use Rattle.h2_hpack_list.specs.declared.Span.{Span}
use Rattle.h2_hpack_list.proofs.Closing.{span-at}
use Rattle.h2_hpack_list.proofs.span_at.Goals as goal

-- within the list it does not matter what is read past its end
there : (spans : List Span) (place : ℕ) (d : Span) → place < length spans → get_or spans place d ≡ get_or spans place (get_or spans place d)
there [] place d h = absurd (omega arith)
there (x ∷ spans) zero d h = refl
there (x ∷ spans) (suc place) d h = there spans place d (omega arith)

nothing : Span
nothing = record { name = record { start = 0; end = 0 }; value = record { start = 0; end = 0 }; start = 0; end = 0 }

pub returns-then-place-spans : goal.returns-then-place-spans
unfolding nothing
returns-then-place-spans c end h =
    let spans = c.args.spans.now in
    let place = c.args.place in
    let at = span-at 0 spans end place (get_or spans place nothing) h (omega arith) (there spans place nothing (omega arith)) in
    (at.ordered, at.within)
