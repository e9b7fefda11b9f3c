-- What goes out is cut frame by frame; and without a script nothing changes.
use Rattle.std.proofs.Common.{◌≡◌, ℕ, zero, suc, ◌+◌, ◌-◌, ◌<◌, ◌++◌, Bool, List, [], ◌∷◌, ap, ap₂, refl, sym, arith, Option, Some, None, ◌∙◌}
use Rattle.std.proofs.lemmas.List.{append_assoc, append-nil}
use Rattle.std.proofs.lemmas.Option.{slice_get_past}
use Rattle.h2_explain_words.specs.Sent.{FirstFrame, first_frame}
use Rattle.h2_cmd_dialogue.specs.Steps.{Incoming, Step}
use Rattle.h2_cmd_dialogue.specs.Woven.{Answered, Weaving, after_item, base_of, goes_out, kept, later, next_step, parts_with, picked_first, picked_frame, picked_frames, sent_by_server, step_if, with_item, woven, woven_item}

-- where no whole frame is there, nothing is picked
pub picked-none : (is_stopped : Bool) (reset : List ℕ) (more : ℕ) (b : List ℕ) → first_frame b ≡ None → picked_frames is_stopped reset more b ≡ []
picked-none is_stopped reset zero b none = refl
picked-none is_stopped reset (suc more) b none = ap (λ (f : Option FirstFrame). picked_first is_stopped reset b f (picked_frames is_stopped reset more)) none

-- a whole frame, and then those after it
pub picked-some : (is_stopped : Bool) (reset : List ℕ) (n place : ℕ) (b : List ℕ) (f : FirstFrame) → place < n → first_frame b ≡ Some f
    → picked_frames is_stopped reset (n - place) b ≡ picked_frame is_stopped reset f.head b ++ picked_frames is_stopped reset (n - (place + 1)) f.rest
picked-some is_stopped reset n place b f more some =
    let count : n - place ≡ suc (n - (place + 1)) = omega arith in
    ap (λ (k : ℕ). picked_frames is_stopped reset k b) count
    ∙ ap (λ (g : Option FirstFrame). picked_first is_stopped reset b g (picked_frames is_stopped reset (n - (place + 1)))) some

-- what was picked so far, and what is still to be picked
abbrev pub Picks : Bool → List ℕ → (n place : ℕ) → (rest old out sent : List ℕ) → Type 0
Picks is_stopped reset n place rest old out sent = out ++ picked_frames is_stopped reset (n - place) rest ≡ old ++ picked_frames is_stopped reset n sent

-- with a frame more
pub picks-next : (is_stopped : Bool) (reset : List ℕ) (n place : ℕ) (rest old out new sent : List ℕ) (f : FirstFrame) → place < n → first_frame rest ≡ Some f
    → new ≡ out ++ picked_frame is_stopped reset f.head rest → Picks is_stopped reset n place rest old out sent
    → Picks is_stopped reset n (place + 1) f.rest old new sent
picks-next is_stopped reset n place rest old out new sent f more some put before =
    let after : List ℕ = picked_frames is_stopped reset (n - (place + 1)) f.rest in
    ap (λ (xs : List ℕ). xs ++ after) put
    ∙ append_assoc out (picked_frame is_stopped reset f.head rest) after
    ∙ ap (λ (xs : List ℕ). out ++ xs) (sym (picked-some is_stopped reset n place rest f more some))
    ∙ before

-- where there is none
pub picks-end : (is_stopped : Bool) (reset : List ℕ) (n place : ℕ) (rest old out sent : List ℕ) → first_frame rest ≡ None
    → Picks is_stopped reset n place rest old out sent → out ≡ old ++ picked_frames is_stopped reset n sent
picks-end is_stopped reset n place rest old out sent none before =
    sym (append-nil out) ∙ sym (ap (λ (xs : List ℕ). out ++ xs) (picked-none is_stopped reset (n - place) rest none)) ∙ before

-- an empty script has no next step
nothing-next : (w : Weaving) (i : Incoming) → next_step [] w i ≡ None
nothing-next w i = ap (λ (s : Option Step). step_if (base_of w.base) s i) (slice_get_past [] w.taken (omega arith))

-- with an empty script, what goes out is what the server sends
pub woven-nothing : (w : Weaving) (es : List Answered) → w.reset ≡ [] → woven [] w es ≡ sent_by_server es
woven-nothing w [] none = refl
woven-nothing w (e ∷ es) none =
    let next : next_step [] (with_item w e.item) e.item ≡ None = nothing-next (with_item w e.item) e.item in
    let head : woven_item [] w e.item e.sent ≡ e.sent =
    ap (λ (s : Option Step). goes_out (parts_with (with_item w e.item) s e.sent)) next ∙ append-nil (kept w.reset e.sent) ∙ ap (λ (r : List ℕ). kept r e.sent) none in
    let same : after_item [] w e.item ≡ with_item w e.item = ap (later (with_item w e.item)) next in
    let tail : woven [] (after_item [] w e.item) es ≡ sent_by_server es = woven-nothing (after_item [] w e.item) es (ap (λ (v : Weaving). v.reset) same ∙ none) in
    ap₂ (λ (xs ys : List ℕ). xs ++ ys) head tail
