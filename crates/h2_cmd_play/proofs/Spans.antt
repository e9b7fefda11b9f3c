-- Which places of a run are written, and what an output holds then.
use Rattle.std.proofs.Common.{◌≡◌, ◌∙◌, ◌+◌, ◌-◌, ◌≤◌, ℕ, zero, suc, List, [], ◌∷◌, ◌++◌, Option, Some, None, Result, Ok, Err, IfErr, IfSome, OnOk, Bool, true, false, length, take, drop, nat_le, if◌then◌else◌, refl, sym, ap, ap₂, subst, arith, append_assoc, length-take, length-drop}
use Rattle.std.specs.List.{concat}
use Rattle.std.specs.Io.KnownBytes.{Appends}
use Rattle.std.proofs.lemmas.Bool.Decides.{nat_tests}
use Rattle.std.proofs.lemmas.List.{append-nil, drop-drop, drop-take, drop_all, take-append-drop, take-take, take_all}
use Rattle.std.proofs.lemmas.List.Folds.{concat-append}
use Rattle.h2_cmd_play.specs.Places.{Stops, StopsAt, Writes, before_last, items_shown, places_shown, text_shown, up_to}
use Rattle.h2_cmd_play.specs.declared.places.PlacesFault.{PlacesFault}
use Rattle.h2_cmd_play.specs.declared.places.PlacesFault.TheVariants.{NoMemory, NotWritten}
use Rattle.h2_cmd_play.specs.declared.places.ShownPlaces.{ShownPlaces}

-- ---- the next place of a list

take-next : (n : ℕ) (all : List (List ℕ)) (x : List ℕ) (xs : List (List ℕ)) → drop n all ≡ x ∷ xs → take (n + 1) all ≡ take n all ++ x ∷ []
take-next n all x xs e = sym (take-append-drop n (take (n + 1) all)) ∙ ap₂ (λ (p q : List (List ℕ)). p ++ q) (take-take n (n + 1) all (omega arith)) (drop-take n 1 all ∙ ap (take 1) e)

concat-next : (n : ℕ) (all : List (List ℕ)) (x : List ℕ) (xs : List (List ℕ)) → drop n all ≡ x ∷ xs → concat (take (n + 1) all) ≡ concat (take n all) ++ x
concat-next n all x xs e = ap concat (take-next n all x xs e) ∙ concat-append (take n all) (x ∷ []) ∙ ap (λ (t : List ℕ). concat (take n all) ++ t) (append-nil x)

pub drop-next : (n : ℕ) (all : List (List ℕ)) (x : List ℕ) (xs : List (List ℕ)) → drop n all ≡ x ∷ xs → drop (n + 1) all ≡ xs
drop-next n all x xs e = sym (drop-drop 1 n all) ∙ ap (drop 1) e

short-take : (n f : ℕ) (all : List (List ℕ)) → n ≤ f → drop f (take n all) ≡ []
short-take n f all le = drop_all f (take n all) (omega (arith, le, length-take n all))

-- of the first places, those from place f on: with one place more
shown-next : (f n : ℕ) (all : List (List ℕ)) (x : List ℕ) (xs : List (List ℕ)) → drop n all ≡ x ∷ xs → (b : Bool) → nat_le f n ≡ b
    → concat (drop f (take (n + 1) all)) ≡ concat (drop f (take n all)) ++ (if b then x else [])
shown-next f n all x xs e true is =
    let le : f ≤ n = grind (arith, nat_tests, is) in
    let m = n - f in
    let split : n ≡ f + m = omega (arith, le) in
    let more : n + 1 ≡ f + (m + 1) = omega (arith, le) in
    let at : drop m (drop f all) ≡ x ∷ xs = drop-drop m f all ∙ ap (λ (k : ℕ). drop k all) (sym split) ∙ e in
    ap (λ (k : ℕ). concat (drop f (take k all))) more ∙ ap concat (drop-take f (m + 1) all) ∙ concat-next m (drop f all) x xs at
    ∙ ap (λ (t : List (List ℕ)). concat t ++ x) (sym (drop-take f m all) ∙ ap (λ (k : ℕ). drop f (take k all)) (sym split))
shown-next f n all x xs e false is =
    let le : n + 1 ≤ f = grind (arith, nat_tests, is) in
    let less : n ≤ f = omega (arith, le) in
    ap concat (short-take (n + 1) f all le) ∙ ap (λ (t : List (List ℕ)). concat t ++ []) (sym (short-take n f all less))

-- items count from 1
item-next : (f n : ℕ) (all : List (List ℕ)) (x : List ℕ) (xs : List (List ℕ)) → drop n all ≡ x ∷ xs
    → concat (drop (f - 1) (take (n + 1) all)) ≡ concat (drop (f - 1) (take n all)) ++ text_shown f (n + 1) x
item-next f n all x xs e = go (nat_le f (n + 1)) refl
  where
    go : (b : Bool) → nat_le f (n + 1) ≡ b → concat (drop (f - 1) (take (n + 1) all)) ≡ concat (drop (f - 1) (take n all)) ++ (if b then x else [])
    go true is = shown-next (f - 1) n all x xs e true (grind (arith, nat_tests, is))
    go false is = shown-next (f - 1) n all x xs e false (grind (arith, nat_tests, is))

-- ---- what was written when no place is left that is written

all-taken : (n : ℕ) (all : List (List ℕ)) → drop n all ≡ [] → length all ≤ n
all-taken n all e = omega (arith, length-drop n all, ap length e)

pub stopped-at : (f n : ℕ) (last : Option ℕ) (all : List (List ℕ)) → IfSome last (λ l. n ≤ l) → before_last last n ≡ false
    → concat (drop f (take n all)) ≡ concat (drop f (up_to last all))
stopped-at f n None all le e = cc
stopped-at f n (Some l) all le e =
    let same : n ≡ l = grind (arith, nat_tests, e, le) in
    ap (λ (k : ℕ). concat (drop f (take k all))) same

pub ended-at : (f n : ℕ) (last : Option ℕ) (all : List (List ℕ)) → IfSome last (λ l. n ≤ l) → drop n all ≡ []
    → concat (drop f (take n all)) ≡ concat (drop f (up_to last all))
ended-at f n None all le e = ap (λ (t : List (List ℕ)). concat (drop f t)) (take_all n all (all-taken n all e))
ended-at f n (Some l) all le e =
    let far : length all ≤ l = omega (arith, le, all-taken n all e) in
    ap (λ (t : List (List ℕ)). concat (drop f t)) (take_all n all (all-taken n all e) ∙ sym (take_all l all far))

pub cut-at : (f n : ℕ) (last : Option ℕ) (all : List (List ℕ)) → IfSome last (λ l. n ≤ l)
    → concat (drop f (take n all)) ≡ concat (drop f (up_to last (take n all)))
cut-at f n None all le = refl
cut-at f n (Some l) all le =
    let short : length (take n all) ≤ l = omega (arith, le, length-take n all) in
    ap (λ (t : List (List ℕ)). concat (drop f t)) (sym (take_all l (take n all) short))

pub within-next : (n : ℕ) (last : Option ℕ) → IfSome last (λ l. n ≤ l) → before_last last n ≡ true → IfSome last (λ l. n + 1 ≤ l)
within-next n None le e = tt
within-next n (Some l) le e = grind (arith, nat_tests, e)

pub within-first : (last : Option ℕ) → IfSome last (λ l. 0 ≤ l)
within-first None = tt
within-first (Some l) = omega arith

-- ---- an output

-- nothing is written of no items
pub nothing-first : (f : ℕ) (all : List (List ℕ)) (held : List ℕ) → held ≡ held ++ concat (drop f (take 0 all))
nothing-first f all held = sym (append-nil held) ∙ ap (λ (t : List (List ℕ)). held ++ concat t) (sym (short-take 0 f all (omega arith)))

pub appended : (now text : List ℕ) (before after : Option (List ℕ)) → before ≡ Some now → Appends before after text → after ≡ Some (now ++ text)
appended now text before (Some later) e x = ap (λ (t : List ℕ). Some t) (subst (λ (b : Option (List ℕ)). Appends b (Some later) text) e x)
appended now text before None e x = absurd (subst (λ (b : Option (List ℕ)). Appends b None text) e x)

-- the text of the next item is written after those before it, where it is shown
pub item-written : (f n : ℕ) (all : List (List ℕ)) (x : List ℕ) (xs : List (List ℕ)) (held : List ℕ) (before after : Option (List ℕ)) → drop n all ≡ x ∷ xs
    → before ≡ Some (held ++ concat (drop (f - 1) (take n all))) → Appends before after (text_shown f (n + 1) x) → after ≡ Some (held ++ concat (drop (f - 1) (take (n + 1) all)))
item-written f n all x xs held before after e is x' =
    let done = concat (drop (f - 1) (take n all)) in
    appended (held ++ done) (text_shown f (n + 1) x) before after is x'
    ∙ ap (λ (t : List ℕ). Some t) (append_assoc held done (text_shown f (n + 1) x) ∙ ap (λ (t : List ℕ). held ++ t) (sym (item-next f n all x xs e)))

-- the start of a run, and then its items
start-shown : (f : ℕ) (last : Option ℕ) (start : List ℕ) (items : List (List ℕ))
    → text_shown f 0 start ++ concat (items_shown (record { first = f; last = last }) items) ≡ concat (places_shown (record { first = f; last = last }) (start ∷ items))
start-shown f None start items = first f
  where
    first : (f : ℕ) → text_shown f 0 start ++ concat (drop (f - 1) items) ≡ concat (drop f (start ∷ items))
    first zero = refl
    first (suc f) = let after : nat_le (suc f) 0 ≡ false = grind (arith, nat_tests) in let same : suc f - 1 ≡ f = omega arith in rw (after, same) refl
start-shown f (Some last) start items =
    let more : last + 1 ≡ suc last = omega arith in
    first f ∙ ap (λ (k : ℕ). concat (drop f (take k (start ∷ items)))) (sym more)
  where
    first : (f : ℕ) → text_shown f 0 start ++ concat (drop (f - 1) (take last items)) ≡ concat (drop f (start ∷ take last items))
    first zero = refl
    first (suc f) = let after : nat_le (suc f) 0 ≡ false = grind (arith, nat_tests) in let same : suc f - 1 ≡ f = omega arith in rw (after, same) refl

pub with-start : (shown : ShownPlaces) (start : List ℕ) (items : List (List ℕ)) (held : List ℕ) (before after : Option (List ℕ)) (r : Result (Unit {0}) PlacesFault) → before ≡ Some (held ++ text_shown shown.first 0 start)
    → OnOk r ((now : List ℕ) → before ≡ Some now → after ≡ Some (now ++ concat (items_shown shown items))) → IfErr r (λ why. (now : List ℕ) → before ≡ Some now → StopsAt shown items now after why)
    → Writes shown (start ∷ items) held after r
with-start shown start items held before after (Ok u) is o e =
    o (held ++ text_shown shown.first 0 start) is
    ∙ ap (λ (t : List ℕ). Some t) (append_assoc held (text_shown shown.first 0 start) (concat (items_shown shown items)) ∙ ap (λ (t : List ℕ). held ++ t) (start-shown shown.first shown.last start items))
with-start shown start items held before after (Err why) is o e = starts why (e (held ++ text_shown shown.first 0 start) is)
  where
    starts : (why : PlacesFault) → StopsAt shown items (held ++ text_shown shown.first 0 start) after why → Stops shown (start ∷ items) held after why
    starts NoMemory x =
        let some = concat (items_shown shown (take x.0 items)) in
        (suc x.0, x.1 ∙ ap (λ (t : List ℕ). Some t) (append_assoc held (text_shown shown.first 0 start) some ∙ ap (λ (t : List ℕ). held ++ t) (start-shown shown.first shown.last start (take x.0 items))))
    starts NotWritten x = tt
