-- What is found, one step after another.
use Rattle.std.proofs.Common.{◌≡◌, ◌∙◌, ℕ, ◌+◌, ◌<◌, Bool, true, false, List, ◌∷◌, ◌++◌, length, drop, get_or, ap, sym, cond, Option}
use Rattle.std.proofs.lemmas.List.{append_assoc, drop_more}
use Rattle.h2_cmd_dialogue.specs.Findings.{and_then, missed_by, missed_sends, step_found, steps_found}
use Rattle.h2_cmd_dialogue.specs.Plays.{Course}
use Rattle.h2_cmd_dialogue.specs.Steps.{SendsLine, Step}
use Rattle.h2_cmd_dialogue.specs.Watches.{Watched}
use Rattle.h2_cmd_dialogue.specs.declared.findings.Finding.{Finding}
use Rattle.h2_cmd_dialogue.specs.declared.play.End.{End}

drop-item : {A : Type 0} (i : ℕ) (xs : List A) (x : A) → i < length xs → x ≡ get_or xs i x → drop i xs ≡ x ∷ drop (i + 1) xs
drop-item i xs x inside is = drop_more xs i x inside ∙ ap (λ y. y ∷ drop (i + 1) xs) (sym is)

-- a line `;<` more
pub missed-next : (v : Watched) (n : ℕ) (lines : List SendsLine) (i : ℕ) (x : SendsLine) (before after : Option (ℕ × Bool)) → i < length lines
    → x ≡ get_or lines i x → after ≡ missed_by v n before x → missed_sends v n after (drop (i + 1) lines) ≡ missed_sends v n before (drop i lines)
missed-next v n lines i x before after inside at is =
    ap (λ (m : Option (ℕ × Bool)). missed_sends v n m (drop (i + 1) lines)) is
    ∙ ap (missed_sends v n before) (sym (drop-item i lines x inside at))

then-is : (x y : List Finding × Bool) (b : Bool) → x.1 ≡ b → and_then x y ≡ cond b (x.0 ++ y.0, y.1) x
then-is x y b is = ap (λ (a : Bool). cond a (x.0 ++ y.0, y.1) x) is

next-is : (c : Course) (e : End) (n : ℕ) (steps : List Step) (s : Step) → n < length steps → s ≡ get_or steps n s
    → steps_found c e n (drop n steps) ≡ and_then (step_found c e n s) (steps_found c e (n + 1) (drop (n + 1) steps))
next-is c e n steps s inside at = ap (steps_found c e n) (drop-item n steps s inside at)

-- the client went on from a step: those after it are left
pub found-next : (c : Course) (e : End) (n : ℕ) (steps : List Step) (s : Step) (all : List Finding × Bool) (first old new : List Finding) (on : Bool)
    → n < length steps → s ≡ get_or steps n s → new ≡ old ++ (step_found c e n s).0 → on ≡ (step_found c e n s).1 → on ≡ true
    → old ++ (steps_found c e n (drop n steps)).0 ≡ first ++ all.0 → (steps_found c e n (drop n steps)).1 ≡ all.1
    → (new ++ (steps_found c e (n + 1) (drop (n + 1) steps)).0 ≡ first ++ all.0) × ((steps_found c e (n + 1) (drop (n + 1) steps)).1 ≡ all.1)
found-next c e n steps s all first old new on inside at gained is goes found last =
    let x = step_found c e n s in
    let y = steps_found c e (n + 1) (drop (n + 1) steps) in
    let next = next-is c e n steps s inside at ∙ then-is x y true (sym is ∙ goes) in (
      ap (λ (k : List Finding). k ++ y.0) gained ∙ append_assoc old x.0 y.0 ∙ ap (λ (p : List Finding × Bool). old ++ p.0) (sym next) ∙ found,
      ap (λ (p : List Finding × Bool). p.1) (sym next) ∙ last,
    )

-- it did not: no step after it is judged
pub found-stop : (c : Course) (e : End) (n : ℕ) (steps : List Step) (s : Step) (all : List Finding × Bool) (first old new : List Finding) (on : Bool)
    → n < length steps → s ≡ get_or steps n s → new ≡ old ++ (step_found c e n s).0 → on ≡ (step_found c e n s).1 → on ≡ false
    → old ++ (steps_found c e n (drop n steps)).0 ≡ first ++ all.0 → (steps_found c e n (drop n steps)).1 ≡ all.1
    → (new ≡ first ++ all.0) × (false ≡ all.1)
found-stop c e n steps s all first old new on inside at gained is stops found last =
    let x = step_found c e n s in
    let next = next-is c e n steps s inside at ∙ then-is x (steps_found c e (n + 1) (drop (n + 1) steps)) false (sym is ∙ stops) in (
      gained ∙ ap (λ (p : List Finding × Bool). old ++ p.0) (sym next) ∙ found,
      sym stops ∙ is ∙ ap (λ (p : List Finding × Bool). p.1) (sym next) ∙ last,
    )
