-- The words of a script are read as what they say, and say what they are read as.
use Rattle.std.proofs.Common.{◌≡◌, ◌∙◌, ◌⊎◌, ◌+◌, ◌-◌, ◌*◌, ◌<◌, ◌≤◌, ◌++◌, ◌==◌, ◌&&◌, ℕ, Bool, true, false, zero, suc, List, [], ◌∷◌, Option, Some, None, Result, Ok, Err, drop, take, length, refl, sym, ap, arith, inl, inr, cond, nat_lt, nat_le, get_or, option_map, option_and_then, position, subst, eqb-true, leb-true, ltb-true, ltb-false, lt-ltb, le-leb, slice_index, true≢false}
use Rattle.std.specs.List.{position_or_len}
use Rattle.std.specs.Char.{digit_value}
use Rattle.std.specs.Str.Parse.{AllDigits, digits_value_after}
use Rattle.std.proofs.Math.Seq.{drop-append_seam, take-append_seam}
use Rattle.std.proofs.lemmas.List.{length-append, take-append-drop}
use Rattle.std.proofs.lemmas.List.Sums.{position_or_len_is, passes_at_first}
use Rattle.std.proofs.lemmas.Str.{digit_value_digit}
use Rattle.std.proofs.lemmas.Str.Parse.{digit_from_value}
use Rattle.hex.specs.Hex.{decode_of, decode_sized}
use Rattle.hex.specs.declared.FromHexError.{FromHexError}
use Rattle.hex.proofs.HexLemmas.{decode_of-ok, decode_sized-ok, decode_sized-twice}
use Rattle.h2_spec.specs.Texts.Assemble.{before, decoded, number_at, octet_at, octets_at, onwards, scanned, up_to}
use Rattle.h2_spec.specs.Texts.Script.{cut_at, SaysNumber, SaysOctet, SaysSomeOctets}
use Rattle.h2_spec.proofs.ScriptTexts.{Lacks}

-- ---- a value, or none

pub map_some : {A B : Type 0} (f : A → B) (o : Option A) (y : B) → option_map f o ≡ Some y → (x : A) × (o ≡ Some x) × (f x ≡ y)
map_some f None y e = absurd (cc)
map_some f (Some x) y e = (x, refl, cc)

pub then_some : {A B : Type 0} (f : A → Option B) (o : Option A) (y : B) → option_and_then f o ≡ Some y → (x : A) × (o ≡ Some x) × (f x ≡ Some y)
then_some f None y e = absurd (cc)
then_some f (Some x) y e = (x, refl, e)

-- ---- parts of a text

-- the end of a text, or c and more
abbrev pub IsEnd : ℕ → List ℕ → Type 0
IsEnd c rest = (rest ≡ []) ⊎ ((more : List ℕ) × (rest ≡ c ∷ more))

before_seam : (a b : List ℕ) (k : ℕ) → k < length a → get_or (a ++ b) k 0 ≡ get_or a k 0
before_seam [] b k lt = absurd (omega arith)
before_seam (x ∷ a) b zero lt = refl
before_seam (x ∷ a) b (suc k) lt = before_seam a b k (omega arith)

at_seam : (a b : List ℕ) (c : ℕ) → get_or (a ++ c ∷ b) (length a) 0 ≡ c
at_seam [] b c = refl
at_seam (x ∷ a) b c = at_seam a b c

same_octet : (c : ℕ) → (c == c) ≡ true
same_octet c = grind arith

-- the first c of a text that lacks it up to its rest
pub place : (c : ℕ) (a rest : List ℕ) → Lacks c a → IsEnd c rest → position_or_len (λ b. b == c) (a ++ rest) ≡ length a
place c a rest lacks end =
    position_or_len_is (λ b. b == c) (a ++ rest) (length a) 0 (simp length-append (omega arith))
    (λ k lt. rw (before_seam a rest k lt) (lacks k 0 lt)) (at end)
  where
    at : IsEnd c rest → length a < length (a ++ rest) → (get_or (a ++ rest) (length a) 0 == c) ≡ true
    at (inl none) lt = let fewer : length (a ++ rest) ≡ length a + length rest = length-append a rest in absurd (omega (arith, ap length none))
    at (inr more) lt = rw (more.1, at_seam a more.0 c) (same_octet c)

pub before_end : (c : ℕ) (a rest : List ℕ) → Lacks c a → IsEnd c rest → before c (a ++ rest) ≡ a
before_end c a rest lacks end = ap (λ (n : ℕ). take n (a ++ rest)) (place c a rest lacks end) ∙ take-append_seam a rest

pub onwards_end : (c : ℕ) (a rest : List ℕ) → Lacks c a → IsEnd c rest → onwards c (a ++ rest) ≡ rest
onwards_end c a rest lacks end = ap (λ (n : ℕ). drop n (a ++ rest)) (place c a rest lacks end) ∙ drop-append_seam a rest

pub whole : (c : ℕ) (xs : List ℕ) → before c xs ++ onwards c xs ≡ xs
whole c xs = take-append-drop (position_or_len (λ b. b == c) xs) xs

after_seam : (a b : List ℕ) (c : ℕ) → drop (length a + 1) (a ++ c ∷ b) ≡ b
after_seam [] b c = refl
after_seam (x ∷ a) b c = let e : suc (length a) + 1 ≡ suc (length a + 1) = omega arith in rw e (after_seam a b c)

pub cut_here : (c : ℕ) (a b : List ℕ) → Lacks c a → cut_at c (a ++ c ∷ b) ≡ Some (a, b)
cut_here c a b lacks =
    let all = a ++ c ∷ b in
    let inside : length a < length all = simp length-append (omega arith) in
    let first = place c a (c ∷ b) lacks (inr (b, refl)) in
    let found : position (λ x. x == c) all ≡ Some (length a) = rw (first, lt-ltb (length a) (length all) inside) refl in
    ap (option_map (λ i. (take i all, drop (i + 1) all))) found ∙ rw (take-append_seam a (c ∷ b), after_seam a b c) refl

same_pair : (a b x y : List ℕ) → ◌≡◌ {A = Option (List ℕ × List ℕ)} (Some (a, b)) (Some (x, y)) → (a ≡ x) × (b ≡ y)
same_pair a b x y e =
    let pairs : ◌≡◌ {A = List ℕ × List ℕ} (a, b) (x, y) = cc in
    (ap (λ (p : List ℕ × List ℕ). p.0) pairs, ap (λ (p : List ℕ × List ℕ). p.1) pairs)

split_here : (c : ℕ) (xs : List ℕ) (i : ℕ) → i < length xs → get_or xs i 0 ≡ c → xs ≡ take i xs ++ c ∷ drop (i + 1) xs
split_here c [] i lt e = absurd (omega arith)
split_here c (x ∷ xs) zero lt e = ap (λ (y : ℕ). y ∷ xs) e
split_here c (x ∷ xs) (suc i) lt e = let next : suc i + 1 ≡ suc (i + 1) = omega arith in rw next (ap (λ (ys : List ℕ). x ∷ ys) (split_here c xs i (omega arith) e))

pub cut_back : (c : ℕ) (xs a b : List ℕ) → cut_at c xs ≡ Some (a, b) → (xs ≡ a ++ c ∷ b) × (before c xs ≡ a)
cut_back c xs a b e = go (nat_lt (position_or_len (λ x. x == c) xs) (length xs)) refl e
  where
    go : (t : Bool) → nat_lt (position_or_len (λ x. x == c) xs) (length xs) ≡ t
        → option_map {U = List ℕ × List ℕ} (λ i. (take i xs, drop (i + 1) xs)) (cond t (Some (position_or_len (λ x. x == c) xs)) None) ≡ Some (a, b) → (xs ≡ a ++ c ∷ b) × (before c xs ≡ a)
    go false is e = absurd (cc)
    go true is e =
        let i = position_or_len (λ x. x == c) xs in
        let inside : i < length xs = ltb-true _ _ is in
        let same = same_pair (take i xs) (drop (i + 1) xs) a b e in
        let here = eqb-true _ _ (passes_at_first (λ x. x == c) xs 0 inside) in
        (split_here c xs i inside here ∙ rw (same.0, same.1) refl, same.0)

pub cut_none : (c : ℕ) (xs : List ℕ) → cut_at c xs ≡ None → before c xs ≡ xs
cut_none c xs e = go (nat_lt (position_or_len (λ x. x == c) xs) (length xs)) refl e
  where
    go : (t : Bool) → nat_lt (position_or_len (λ x. x == c) xs) (length xs) ≡ t
        → option_map {U = List ℕ × List ℕ} (λ i. (take i xs, drop (i + 1) xs)) (cond t (Some (position_or_len (λ x. x == c) xs)) None) ≡ None → before c xs ≡ xs
    go true is e = absurd (cc)
    go false is e =
        let far : length xs ≤ position_or_len (λ x. x == c) xs = ltb-false _ _ is in
        all xs _ far
      where
        all : (ys : List ℕ) (n : ℕ) → length ys ≤ n → take n ys ≡ ys
        all [] zero h = refl
        all [] (suc n) h = refl
        all (y ∷ ys) zero h = absurd (omega arith)
        all (y ∷ ys) (suc n) h = ap (λ (zs : List ℕ). y ∷ zs) (all ys n (omega arith))

-- ---- numbers

scan_value : (n : ℕ) (ds : List ℕ) → AllDigits 10 ds → scanned n ds ≡ Some (digits_value_after 10 n ds)
unfolding scanned
scan_value n [] h = refl
scan_value n (c ∷ cs) h =
    let range = digit_from_value c h.0 in
    let value : digit_value c + 48 ≡ c = digit_value_digit c range in
    let same : c - 48 ≡ digit_value c = omega arith in
    rw (le-leb 48 c range.0, le-leb c 57 range.1)
    (ap (λ (d : ℕ). scanned (n * 10 + d) cs) same ∙ scan_value (n * 10 + digit_value c) cs h.1)

both : (a b : Bool) → (a && b) ≡ true → (a ≡ true) × (b ≡ true)
both true b e = (refl, e)
both false b e = absurd (true≢false (sym e))

digit_small : (c : ℕ) → 48 ≤ c → c ≤ 57 → digit_value c ≡ c - 48
digit_small c low high = let value : digit_value c + 48 ≡ c = digit_value_digit c (low, high) in omega arith

scan_back : (n : ℕ) (ds : List ℕ) (v : ℕ) → scanned n ds ≡ Some v → AllDigits 10 ds × (v ≡ digits_value_after 10 n ds)
unfolding scanned
scan_back n [] v e = (tt, cc)
scan_back n (c ∷ cs) v e = go (nat_le 48 c && nat_le c 57) refl e (λ m k. scan_back m cs v k)
  where
    go : (t : Bool) → (nat_le 48 c && nat_le c 57) ≡ t → cond t (scanned (n * 10 + (c - 48)) cs) None ≡ Some v
        → ((m : ℕ) → scanned m cs ≡ Some v → AllDigits 10 cs × (v ≡ digits_value_after 10 m cs)) → ((digit_value c < 10) × AllDigits 10 cs) × (v ≡ digits_value_after 10 (n * 10 + digit_value c) cs)
    go false is k more = absurd (cc)
    go true is k more =
        let tests = both _ _ is in
        let low : 48 ≤ c = leb-true 48 c tests.0 in
        let high : c ≤ 57 = leb-true c 57 tests.1 in
        let value = digit_small c low high in
        let rest = more (n * 10 + (c - 48)) k in
        ((omega arith, rest.0), rest.1 ∙ ap (λ (d : ℕ). digits_value_after 10 (n * 10 + d) cs) (sym value))

pub number_read : (most : ℕ) (text : List ℕ) (n : ℕ) → SaysNumber most text n → number_at most text ≡ Some n
number_read most text n h =
    let value : scanned 0 text ≡ Some n = scan_value 0 text h.0.1 ∙ ap (λ (x : ℕ). Some x) (sym h.2) in
    rw (lt-ltb 0 (length text) h.0.0, le-leb (length text) 10 h.1, value, le-leb n most h.3) refl

pub number_back : (most : ℕ) (text : List ℕ) (n : ℕ) → number_at most text ≡ Some n → SaysNumber most text n
number_back most text n e = go (nat_lt 0 (length text) && nat_le (length text) 10) refl e
  where
    small : (v : ℕ) → scanned 0 text ≡ Some v → (t : Bool) → nat_le v most ≡ t → cond t (Some v) None ≡ Some n → (v ≡ n) × (v ≤ most)
    small v is true le k = (cc, leb-true v most le)
    small v is false le k = absurd (cc)

    go : (t : Bool) → (nat_lt 0 (length text) && nat_le (length text) 10) ≡ t → cond t (option_and_then (up_to most) (scanned 0 text)) None ≡ Some n → SaysNumber most text n
    go false is k = absurd (cc)
    go true is k =
        let tests = both _ _ is in
        let step = then_some (up_to most) (scanned 0 text) n k in
        let fits = small step.0 step.1 (nat_le step.0 most) refl step.2 in
        let value = scan_back 0 text step.0 step.1 in
        ((ltb-true _ _ tests.0, value.0), leb-true _ _ tests.1, sym fits.0 ∙ value.1, subst (λ (x : ℕ). x ≤ most) fits.0 fits.1)

-- ---- octets

decoded_back : (r : Result (List ℕ) FromHexError) (o : List ℕ) → decoded r ≡ Some o → r ≡ Ok o
decoded_back (Ok xs) o e = let same : xs ≡ o = cc in ap (λ (x : List ℕ). Ok x) same
decoded_back (Err f) o e = absurd (cc)

pub octet_read : (text : List ℕ) (n : ℕ) → SaysOctet text n → octet_at text ≡ Some n
octet_read text n h =
    let even = decode_of-ok text (n ∷ []) h in
    let same : decode_sized text 1 ≡ Ok (n ∷ []) = decode_sized-twice text 1 even.2 ∙ h in
    rw same refl

pub octet_back : (text : List ℕ) (n : ℕ) → octet_at text ≡ Some n → SaysOctet text n
octet_back text n e =
    let step = map_some (λ (xs : List ℕ). slice_index xs 0) (decoded (decode_sized text 1)) n e in
    let ok = decoded_back (decode_sized text 1) step.0 step.1 in
    let len = decode_sized-ok text 1 step.0 ok in
    let is : decode_of text ≡ Ok step.0 = sym (decode_sized-twice text 1 len) ∙ ok in
    let size : length text ≡ 2 * length step.0 = (decode_of-ok text step.0 is).2 in
    is ∙ ap (λ (xs : List ℕ). Ok xs) (one step.0 (omega (arith, len)) step.2)
  where
    one : (xs : List ℕ) → length xs ≡ 1 → slice_index xs 0 ≡ n → xs ≡ n ∷ []
    one [] l e = absurd (omega arith)
    one (x ∷ []) l e = ap (λ (y : ℕ). y ∷ []) e
    one (x ∷ y ∷ ys) l e = absurd (omega arith)

pub octets_read : (text octets : List ℕ) → SaysSomeOctets text octets → octets_at text ≡ Some octets
octets_read text octets h =
    let size : length text ≡ 2 * length octets = (decode_of-ok text octets h.1).2 in
    let some : (length text == 0) ≡ false = grind arith in
    rw (some, h.1) refl

pub octets_back : (text octets : List ℕ) → octets_at text ≡ Some octets → SaysSomeOctets text octets
octets_back text octets e = go (length text == 0) refl e
  where
    go : (t : Bool) → (length text == 0) ≡ t → cond t None (decoded (decode_of text)) ≡ Some octets → SaysSomeOctets text octets
    go true is k = absurd (cc)
    go false is k =
        let ok = decoded_back (decode_of text) octets k in
        let size : length text ≡ 2 * length octets = (decode_of-ok text octets ok).2 in
        (grind arith, ok)
