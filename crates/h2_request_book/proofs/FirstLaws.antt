-- The first entry with a method and a path, as a book grows and shrinks.
use Rattle.std.proofs.Common.{◌≡◌, ◌∙◌, ℕ, zero, suc, ◌+◌, Bool, true, false, cond, not, nat_lt, List, [], ◌∷◌, ◌++◌, length, take, position, Option, None, Some, refl, sym, subst, ap, arith, true≢false, ◌&&◌}
use Rattle.std.proofs.lemmas.Bool.Decides.{nat_tests}
use Rattle.std.specs.Cmp.Lexicographic.{nat_list_eq_equiv}
use Rattle.std.proofs.lemmas.Map.Entries.{lookup-filter-values, option_filter}
use Rattle.std.specs.List.{IsDistinct, filter, position_or_len}
use Rattle.std.specs.Map.{keys_of}
use Rattle.std.specs.Option.{is_some, option_map, option_map_or}
use Rattle.indexmap.specs.IndexMap.{insert_entry}
use Rattle.h2_spec.specs.Requests.Answer.{Entry}
use Rattle.h2_request_book.specs.Firsts.{AreFirsts, Key, below, find, is_for, same, same_equiv, with_first}

abbrev key_of : Entry → Key
key_of e = (e.method, e.path)

position-cons : {X : Type 0} (p : X → Bool) (x : X) (xs : List X) → position p (x ∷ xs) ≡ cond (p x) (Some 0) (option_map suc (position p xs))
position-cons p x xs = by (p x) where
  n : ℕ
  n = position_or_len p xs

  one : 1 + n ≡ suc n
  one = omega arith

  here : (t : Bool) → nat_lt n (length xs) ≡ t → cond (nat_lt (1 + n) (suc (length xs))) (Some (1 + n)) None ≡ option_map suc (cond t (Some n) None)
  here true e = let next : nat_lt (1 + n) (suc (length xs)) ≡ true = grind (arith, nat_tests, e) in ap (λ b. cond b (Some (1 + n)) None) next ∙ ap (λ m. Some m) one
  here false e = let next : nat_lt (1 + n) (suc (length xs)) ≡ false = grind (arith, nat_tests, e) in ap (λ b. cond b (Some (1 + n)) None) next

  by : (b : Bool) → cond (nat_lt (cond (not b) (1 + n) 0) (suc (length xs))) (Some (cond (not b) (1 + n) 0)) None ≡ cond b (Some 0) (option_map suc (position p xs))
  by true = let first : nat_lt 0 (suc (length xs)) ≡ true = grind (arith, nat_tests) in ap (λ b. cond b (Some 0) None) first
  by false = here (nat_lt n (length xs)) refl

-- ---- a book that keeps its first entries

below-next : (n : ℕ) (o : Option ℕ) → option_map suc (below n o) ≡ below (suc n) (option_map suc o)
below-next n None = refl
below-next n (Some i) = by (nat_lt i n) refl where
  by : (t : Bool) → nat_lt i n ≡ t → option_map suc (cond t (Some i) None) ≡ cond (nat_lt (suc i) (suc n)) (Some (suc i)) None
  by true e = let next : nat_lt (suc i) (suc n) ≡ true = grind (arith, nat_tests, e) in ap (λ b. cond b (Some (suc i)) None) (sym next)
  by false e = let next : nat_lt (suc i) (suc n) ≡ false = grind (arith, nat_tests, e) in ap (λ b. cond b (Some (suc i)) None) (sym next)

below-none : (o : Option ℕ) → None ≡ below 0 o
below-none None = refl
below-none (Some i) = let no : nat_lt i 0 ≡ false = grind (arith, nat_tests) in ap (λ b. cond b (Some i) None) (sym no)

position-take : {X : Type 0} (p : X → Bool) (n : ℕ) (xs : List X) → position p (take n xs) ≡ below n (position p xs)
position-take p zero xs = below-none (position p xs)
position-take p (suc n) [] = refl
position-take p (suc n) (x ∷ xs) = position-cons p x (take n xs) ∙ by (p x) (position-take p n xs) ∙ ap (below (suc n)) (sym (position-cons p x xs)) where
  by : (b : Bool) → position p (take n xs) ≡ below n (position p xs) → cond b (Some 0) (option_map suc (position p (take n xs))) ≡ below (suc n) (cond b (Some 0) (option_map suc (position p xs)))
  by true rest = let first : nat_lt 0 (suc n) ≡ true = grind (arith, nat_tests) in ap (λ b. cond b (Some 0) None) (sym first)
  by false rest = ap (option_map suc) rest ∙ below-next n (position p xs)

pub firsts-kept : (places shorter : List (Key × ℕ)) (entries : List Entry) (n : ℕ) → AreFirsts places entries → ((key : Key) → find key shorter ≡ below n (find key places)) → AreFirsts shorter (take n entries)
firsts-kept places shorter entries n are kept = λ key. kept key ∙ ap (below n) (are key) ∙ sym (position-take (is_for key) n entries)

-- ---- a book with one more entry

-- what is found, or this number where nothing is and the test passes
abbrev or_new : Option ℕ → Bool → ℕ → Option ℕ
or_new (Some i) b n = Some i
or_new None b n = cond b (Some n) None

position-push : {X : Type 0} (p : X → Bool) (xs : List X) (x : X) → position p (xs ++ x ∷ []) ≡ or_new (position p xs) (p x) (length xs)
position-push p [] x = position-cons p x []
position-push p (y ∷ ys) x = position-cons p y (ys ++ x ∷ []) ∙ by (p y) (position-push p ys x) ∙ ap (λ o. or_new o (p x) (suc (length ys))) (sym (position-cons p y ys)) where
  next : (o : Option ℕ) (b : Bool) → option_map suc (or_new o b (length ys)) ≡ or_new (option_map suc o) b (suc (length ys))
  next (Some i) b = refl
  next None true = refl
  next None false = refl

  by : (b : Bool) → position p (ys ++ x ∷ []) ≡ or_new (position p ys) (p x) (length ys)
      → cond b (Some 0) (option_map suc (position p (ys ++ x ∷ []))) ≡ or_new (cond b (Some 0) (option_map suc (position p ys))) (p x) (suc (length ys))
  by true rest = refl
  by false rest = ap (option_map suc) rest ∙ next (position p ys) (p x)

find-push : (key : Key) (places : List (Key × ℕ)) (k : Key) (n : ℕ) → find key (places ++ (k, n) ∷ []) ≡ or_new (find key places) (same key k) n
find-push key [] k n = refl
find-push key (p ∷ ps) k n = by (same key p.0) (find-push key ps k n) where
  by : (b : Bool) → find key (ps ++ (k, n) ∷ []) ≡ or_new (find key ps) (same key k) n → cond b (Some p.1) (find key (ps ++ (k, n) ∷ [])) ≡ or_new (cond b (Some p.1) (find key ps)) (same key k) n
  by true rest = refl
  by false rest = rest

is_for-same : (key : Key) (e : Entry) → same key (key_of e) ≡ is_for key e
is_for-same key e = let method = nat_list_eq_equiv.symm key.0 e.method in let path = nat_list_eq_equiv.symm key.1 e.path in λ i. method i && path i

-- the same key finds the same
find-same : (a b : Key) (places : List (Key × ℕ)) → same a b ≡ true → find a places ≡ find b places
find-same a b [] h = refl
find-same a b (p ∷ ps) h = let alike = same_equiv.congr a b p.0 h in let rest = find-same a b ps h in λ i. cond (alike i) (Some p.1) (rest i)

noted : (key k : Key) (places : List (Key × ℕ)) (n : ℕ) → find key (with_first k n places) ≡ or_new (find key places) (same key k) n
noted key k places n = by (find k places) refl where
  found : (i : ℕ) → find k places ≡ Some i → (o : Option ℕ) → find key places ≡ o → (b : Bool) → same key k ≡ b → o ≡ or_new o b n
  found i e (Some j) f b h = refl
  found i e None f true h = absurd (some_none (sym e ∙ sym (find-same key k places h) ∙ f)) where
    some_none : {i : ℕ} → Some i ≡ None → ⊥
    some_none q = cc
  found i e None f false h = refl

  by : (o : Option ℕ) → find k places ≡ o → find key (with_first k n places) ≡ or_new (find key places) (same key k) n
  by (Some i) e = ap (λ o. find key (option_map_or (λ _. places) o (places ++ (k, n) ∷ []))) e ∙ found i e (find key places) refl (same key k) refl
  by None e = ap (λ o. find key (option_map_or (λ _. places) o (places ++ (k, n) ∷ []))) e ∙ find-push key places k n

pub firsts-added : (places : List (Key × ℕ)) (entries : List Entry) (e : Entry) (n : ℕ) → AreFirsts places entries → n ≡ length entries → AreFirsts (with_first (e.method, e.path) n places) (entries ++ e ∷ [])
firsts-added places entries e n are last = λ key.
    noted key (key_of e) places n ∙ (λ i. or_new (are key i) (is_for-same key e i) (last i)) ∙ sym (position-push (is_for key) entries e)

-- the same, by the entry's method and path under other names
pub firsts-more : (places : List (Key × ℕ)) (entries : List Entry) (e : Entry) (method path : List ℕ) (n : ℕ) → AreFirsts places entries → e.method ≡ method → e.path ≡ path → n ≡ length entries
    → AreFirsts (with_first (method, path) n places) (entries ++ e ∷ [])
firsts-more places entries e method path n are m p last = subst (λ (k : Key). AreFirsts (with_first k n places) (entries ++ e ∷ [])) (λ i. (m i, p i)) (firsts-added places entries e n are last)

-- ---- a map whose places from one on are dropped

pub kept-below : (count : ℕ) (es : List (Key × ℕ)) → IsDistinct same (keys_of es) → (key : Key) → find key (filter (λ e. nat_lt e.1 count) es) ≡ below count (find key es)
kept-below count es distinct key = lookup-filter-values same_equiv (λ (place : ℕ). nat_lt place count) key es distinct ∙ is-below (find key es) where
  is-below : (o : Option ℕ) → option_filter (λ (place : ℕ). nat_lt place count) o ≡ below count o
  is-below None = refl
  is-below (Some i) = refl

-- what is inserted where nothing is found
insert-last : (k : Key) (n : ℕ) (es : List (Key × ℕ)) → find k es ≡ None → insert_entry same es k n ≡ es ++ (k, n) ∷ []
insert-last k n [] h = refl
insert-last k n (e ∷ es) h = by (same k e.0) h (insert-last k n es) where
  by : (b : Bool) → cond b (Some e.1) (find k es) ≡ None → (find k es ≡ None → insert_entry same es k n ≡ es ++ (k, n) ∷ []) → cond b ((e.0, n) ∷ es) (e ∷ insert_entry same es k n) ≡ e ∷ (es ++ (k, n) ∷ [])
  by true g rest = cc
  by false g rest = ap (λ ys. e ∷ ys) (rest g)

pub noted-insert : (k : Key) (n : ℕ) (es : List (Key × ℕ)) → is_some (find k es) ≡ false → insert_entry same es k n ≡ with_first k n es
noted-insert k n es h = by (find k es) refl h where
  by : (o : Option ℕ) → find k es ≡ o → is_some o ≡ false → insert_entry same es k n ≡ with_first k n es
  by None e g = insert-last k n es e ∙ ap (λ o. option_map_or (λ _. es) o (es ++ (k, n) ∷ [])) (sym e)
  by (Some i) e g = absurd (true≢false g)
