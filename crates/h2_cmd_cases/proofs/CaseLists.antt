-- The cases of a file, one after another.
use Rattle.std.proofs.Common.{◌≡◌, ◌∙◌, ◌+◌, ◌<◌, ◌≤◌, ◌&&◌, ℕ, suc, Bool, true, false, not, cond, ltb, is_some, Bor, List, [], ◌∷◌, length, map, take, drop, refl, sym, ap, ap₂, arith, length-drop}
use Rattle.std.proofs.lemmas.List.{drop-drop, drop-map, drop_all, length-map, take-map}
use Rattle.std.proofs.lemmas.Bool.{le-ltb, lt-ltb}
use Rattle.std.specs.List.{list_all, position_or_len}
use Rattle.h2_cmd_cases.specs.Files.{case_length, cases_from, in_front, is_silent_line, preamble_length, title_in}
use Rattle.h2_cmd_cases.specs.Lines.{begins, line_said}

-- whether a line begins a case
abbrev starts : List ℕ → Bool
starts l = begins (line_said l)

-- a line in front of a case that begins with another one
in_front-true : (l m : List ℕ) (ms : List (List ℕ)) (cases : List (List (List ℕ))) → starts m ≡ true → in_front l ((m ∷ ms) ∷ cases) ≡ (l ∷ []) ∷ (m ∷ ms) ∷ cases
in_front-true l m ms cases e = rw e refl

in_front-false : (l m : List ℕ) (ms : List (List ℕ)) (cases : List (List (List ℕ))) → starts m ≡ false → in_front l ((m ∷ ms) ∷ cases) ≡ (l ∷ m ∷ ms) ∷ cases
in_front-false l m ms cases e = rw e refl

pos-here : (m : List ℕ) (ms : List (List ℕ)) → starts m ≡ true → position_or_len starts (m ∷ ms) ≡ 0
pos-here m ms e = rw e refl

pos-skip : (m : List ℕ) (ms : List (List ℕ)) → starts m ≡ false → position_or_len starts (m ∷ ms) ≡ suc (position_or_len starts ms)
pos-skip m ms e = rw e (omega arith)

-- the first of the cases, and those after it
split : (l : List ℕ) (ls : List (List ℕ)) → cases_from (l ∷ ls) ≡ (l ∷ take (position_or_len starts ls) ls) ∷ cases_from (drop (position_or_len starts ls) ls)
unfolding cases_from
split l [] = refl
split l (m ∷ ms) = at (split m ms) (starts m) refl
  where
    at : cases_from (m ∷ ms) ≡ (m ∷ take (position_or_len starts ms) ms) ∷ cases_from (drop (position_or_len starts ms) ms) → (b : Bool) → starts m ≡ b
        → cases_from (l ∷ m ∷ ms) ≡ (l ∷ take (position_or_len starts (m ∷ ms)) (m ∷ ms)) ∷ cases_from (drop (position_or_len starts (m ∷ ms)) (m ∷ ms))
    at behind true e =
        ap (in_front l) behind ∙ in_front-true l m _ _ e
        ∙ ap (λ (cs : List (List (List ℕ))). (l ∷ []) ∷ cs) (sym behind)
        ∙ ap (λ (k : ℕ). (l ∷ take k (m ∷ ms)) ∷ cases_from (drop k (m ∷ ms))) (sym (pos-here m ms e))
    at behind false e =
        ap (in_front l) behind ∙ in_front-false l m _ _ e
        ∙ ap (λ (k : ℕ). (l ∷ take k (m ∷ ms)) ∷ cases_from (drop k (m ∷ ms))) (sym (pos-skip m ms e))

length-is : (l : List ℕ) (ls : List (List ℕ)) → suc (position_or_len starts ls) ≡ case_length (l ∷ ls)
length-is l ls = omega arith

cases-first : (xs : List (List ℕ)) → 0 < length xs → cases_from xs ≡ take (case_length xs) xs ∷ cases_from (drop (case_length xs) xs)
cases-first [] h = absurd (omega arith)
cases-first (l ∷ ls) h = split l ls ∙ ap (λ (k : ℕ). take k (l ∷ ls) ∷ cases_from (drop k (l ∷ ls))) (length-is l ls)

cases-none : cases_from [] ≡ []
unfolding cases_from
cases-none = refl

-- the case at a place among lines that are lent, and those after it
pub case-at : (lines : List (Bor (List ℕ))) (first n : ℕ) → first < length lines → n ≡ case_length (map (λ l. l.now) (drop first lines))
    → cases_from (drop first (map (λ l. l.now) lines)) ≡ map (λ l. l.now) (take n (drop first lines)) ∷ cases_from (drop (first + n) (map (λ l. l.now) lines))
case-at lines first n h is =
    let now : Bor (List ℕ) → List ℕ = λ l. l.now in
    let rest : List (List ℕ) = map now (drop first lines) in
    let some : 0 < length rest = omega (arith, length-map (drop first lines) now, length-drop first lines) in
    ap cases_from (drop-map now first lines) ∙ cases-first rest some
    ∙ ap (λ (k : ℕ). take k rest ∷ cases_from (drop k rest)) (sym is)
    ∙ ap₂ (λ (c : List (List ℕ)) (r : List (List ℕ)). c ∷ cases_from r) (take-map now n (drop first lines))
    (ap (drop n) (sym (drop-map now first lines)) ∙ drop-drop n first (map now lines))

pub none-left : (lines : List (Bor (List ℕ))) (first : ℕ) → length lines ≤ first → cases_from (drop first (map (λ l. l.now) lines)) ≡ []
none-left lines first h =
    let now : Bor (List ℕ) → List ℕ = λ l. l.now in
    ap cases_from (drop_all first (map now lines) (omega (arith, length-map lines now, h))) ∙ cases-none

-- ---- lines in front of the first case

abbrev front : List (Bor (List ℕ)) → List (List ℕ)
front lines = map (λ l. l.now) lines

pub no_front-alone : (lines : List (Bor (List ℕ))) (n : ℕ) → n ≡ case_length (front lines) → n ≡ length lines → 0 ≡ preamble_length (front lines)
no_front-alone lines n is all = at (front lines) n is (omega (arith, all, length-map lines (λ l. l.now)))
  where
    at : (m : List (List ℕ)) (n : ℕ) → n ≡ case_length m → length m ≤ n → 0 ≡ preamble_length m
    at m n is h = rw (← is, le-ltb n (length m) h) refl

pub no_front-titled : (lines : List (Bor (List ℕ))) → is_some (title_in (front lines)) ≡ true → 0 ≡ preamble_length (front lines)
no_front-titled lines titled = at (front lines) titled
  where
    by : (b s : Bool) (n : ℕ) → 0 ≡ cond (b && (not true && s)) n 0
    by true s n = refl
    by false s n = refl

    at : (m : List (List ℕ)) → is_some (title_in m) ≡ true → 0 ≡ preamble_length m
    at m t = rw t (by (ltb (case_length m) (length m)) (list_all is_silent_line (take (case_length m) m)) (case_length m))

silent_lent : (lines : List (Bor (List ℕ))) (n : ℕ) → list_all is_silent_line (take n (front lines)) ≡ list_all is_silent_line (map (λ l. l.now) (take n lines))
silent_lent lines n = ap (list_all is_silent_line) (take-map (λ l. l.now) n lines)

pub no_front-loud : (lines : List (Bor (List ℕ))) (n : ℕ) → n ≡ case_length (front lines) → list_all is_silent_line (map (λ l. l.now) (take n lines)) ≡ false → 0 ≡ preamble_length (front lines)
no_front-loud lines n is loud = at (front lines) n is (silent_lent lines n ∙ loud)
  where
    by : (b t : Bool) (n : ℕ) → 0 ≡ cond (b && (t && false)) n 0
    by true true n = refl
    by true false n = refl
    by false t n = refl

    at : (m : List (List ℕ)) (n : ℕ) → n ≡ case_length m → list_all is_silent_line (take n m) ≡ false → 0 ≡ preamble_length m
    at m n is s = rw (← is, s) (by (ltb n (length m)) (not (is_some (title_in m))) n)

pub front-is : (lines : List (Bor (List ℕ))) (n : ℕ) → n ≡ case_length (front lines) → n < length lines → is_some (title_in (front lines)) ≡ false
    → list_all is_silent_line (map (λ l. l.now) (take n lines)) ≡ true → n ≡ preamble_length (front lines)
front-is lines n is h titled silent = at (front lines) n is (omega (arith, h, length-map lines (λ l. l.now))) titled (silent_lent lines n ∙ silent)
  where
    at : (m : List (List ℕ)) (n : ℕ) → n ≡ case_length m → n < length m → is_some (title_in m) ≡ false → list_all is_silent_line (take n m) ≡ true → n ≡ preamble_length m
    at m n is h t s = rw (← is, lt-ltb n (length m) h, t, s) refl
