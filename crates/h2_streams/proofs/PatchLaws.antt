-- A patch with one more record of its own.
use Rattle.std.proofs.Common.{◌≡◌, List, [], ◌∷◌, ◌++◌, refl, ap, ◌∙◌, sym, append-nil, append_assoc}
use Rattle.h2_spec.specs.declared.streams.Stream.{Stream}
use Rattle.h2_streams.specs.declared.sharing.patch.Run.{Run}
use Rattle.h2_streams.specs.Patches.{Step, run_of, steps_of, patched}

steps-more : (base : List Stream) (steps : List Step) (step : Step) → steps_of base (steps ++ step ∷ []) ≡ steps_of base steps ++ (run_of base step.run ++ step.own ∷ [])
steps-more base [] step = refl
steps-more base (first ∷ steps) step =
    let one = run_of base first.run in
    ap (λ rest. one ++ first.own ∷ rest) (steps-more base steps step) ∙ sym (append_assoc one (first.own ∷ steps_of base steps) (run_of base step.run ++ step.own ∷ []))

pub patched-own : (base : List Stream) (steps more : List Step) (last next : Run) (own st : Stream) → more ≡ steps ++ record { run = last; own = own } ∷ [] → own ≡ st → run_of base next ≡ []
    → patched base more next ≡ patched base steps last ++ st ∷ []
patched-own base steps more last next own st pushed same none =
    (λ k. steps_of base (pushed k) ++ none k)
    ∙ append-nil (steps_of base (steps ++ record { run = last; own = own } ∷ []))
    ∙ steps-more base steps (record { run = last; own = own })
    ∙ sym (append_assoc (steps_of base steps) (run_of base last) (own ∷ []))
    ∙ ap (λ x. patched base steps last ++ x ∷ []) same
