-- Own octets with loans among them, as more are appended, and as they leave from the front and from the end.
use Rattle.std.proofs.Common.{◌≡◌, ◌⊎◌, ℕ, ◌+◌, ◌-◌, ◌<◌, ◌≤◌, ◌∙◌, inl, inr, None, Option, List, [], ◌∷◌, ◌++◌, length, take, drop, Some, refl, sym, ap, subst, append_assoc, arith, length-drop}
use Rattle.std.proofs.lemmas.List.{append-nil, drop-append-le, drop-drop, drop-take, length-append, length-take-le, take-append-drop, take-append-le}
use Rattle.std.proofs.lemmas.Bool.{cases_lt}
use Rattle.std.proofs.Math.ListN.{drop_of_length-le}
use Rattle.std.proofs.Math.Seq.{drop-append_seam, drop-length, take-append-add, take-append_seam, take-length}
use Rattle.h2_frame.specs.declared.lending.Loan.{Loan}
use Rattle.h2_frame.specs.Loans.{AreLoans, IsPutShorter, IsShortened, first_loan, spread}

-- ---- lists

abbrev IsFound : List Loan → Option Loan → Type 0
IsFound ps None = ps ≡ []
IsFound ps (Some p) = ps ≡ p ∷ drop 1 ps

found : (ps : List Loan) → IsFound ps (first_loan ps)
found [] = refl
found (p ∷ ps) = refl

pub is-first : (ps : List Loan) (p : Loan) → first_loan ps ≡ Some p → ps ≡ p ∷ drop 1 ps
is-first ps p e = subst (IsFound ps) e (found ps)

pub no-first : (ps : List Loan) → first_loan ps ≡ None → ps ≡ []
no-first ps e = subst (IsFound ps) e (found ps)

-- the front of octets that begin with these
pub front-is : (front rest all : List ℕ) → all ≡ front ++ rest → front ≡ take (length front) all
front-is front rest all e = subst (λ (xs : List ℕ). front ≡ take (length front) xs) (sym e) (sym (take-append_seam front rest))

-- octets without their last ones
pub cut-second : (a b : List ℕ) (c : ℕ) → c ≤ length b → take (length (a ++ b) - c) (a ++ b) ≡ a ++ take (length b - c) b
cut-second a b c h =
    let count : length (a ++ b) - c ≡ length a + (length b - c) = omega (arith, length-append a b, h) in
    subst (λ (n : ℕ). take n (a ++ b) ≡ a ++ take (length b - c) b) (sym count) (take-append-add a b (length b - c))

pub cut-drop : (i c : ℕ) (xs : List ℕ) → i + c ≤ length xs → drop i (take (length xs - c) xs) ≡ take (length (drop i xs) - c) (drop i xs)
cut-drop i c xs h =
    let whole : length xs - c ≡ i + (length (drop i xs) - c) = omega (arith, length-drop i xs, h) in
    subst (λ (n : ℕ). drop i (take n xs) ≡ take (length (drop i xs) - c) (drop i xs)) (sym whole) (drop-take i (length (drop i xs) - c) xs)

take-within : (m n : ℕ) (xs : List ℕ) → m ≤ n → n ≤ length xs → take m (take n xs) ≡ take m xs
take-within m n xs h g =
    let split = take-append-drop n xs in
    let fits : m ≤ length (take n xs) = subst (λ (k : ℕ). m ≤ k) (sym (length-take-le n xs g)) h in
    sym (take-append-le m (take n xs) (drop n xs) fits) ∙ ap (take m) split

-- ---- places

pub loans-within : (i n : ℕ) (ps : List Loan) → AreLoans i n ps → i ≤ n
loans-within i n [] h = h
loans-within i n (p ∷ ps) h = let more = loans-within p.at n ps h.2 in let here = h.0 in omega (arith, here, more)

pub loans-longer : (i n m : ℕ) (ps : List Loan) → n ≤ m → AreLoans i n ps → AreLoans i m ps
loans-longer i n m [] g h = omega (arith, g, h)
loans-longer i n m (p ∷ ps) g h = (h.0, h.1, loans-longer p.at n m ps g h.2)

-- ---- octets are appended

pub spread-append : (i : ℕ) (own more : List ℕ) (ps : List Loan) → AreLoans i (length own) ps → spread i (own ++ more) ps ≡ spread i own ps ++ more
unfolding spread
spread-append i own more [] h = drop-append-le i own more h
spread-append i own more (p ∷ ps) h =
    let within = loans-within p.at (length own) ps h.2 in
    ap (λ (xs : List ℕ). drop i xs ++ (p.octets.now ++ spread p.at (own ++ more) ps)) (take-append-le p.at own more within)
    ∙ ap (λ (xs : List ℕ). drop i (take p.at own) ++ (p.octets.now ++ xs)) (spread-append p.at own more ps h.2)
    ∙ sym (append_assoc (drop i (take p.at own)) (p.octets.now ++ spread p.at own ps) more
    ∙ ap (λ (xs : List ℕ). drop i (take p.at own) ++ xs) (append_assoc p.octets.now (spread p.at own ps) more))

pub loans-append : (i : ℕ) (own more : List ℕ) (ps : List Loan) → AreLoans i (length own) ps → AreLoans i (length (own ++ more)) ps
loans-append i own more ps h = loans-longer i (length own) (length (own ++ more)) ps (omega (arith, length-append own more)) h

-- ---- octets are lent

pub spread-lend : (i : ℕ) (own : List ℕ) (p : Loan) (ps : List Loan) → p.at ≡ length own → AreLoans i (length own) ps → spread i own (ps ++ p ∷ []) ≡ spread i own ps ++ p.octets.now
unfolding spread
spread-lend i own p [] e h =
    ap (λ (n : ℕ). drop i (take n own) ++ (p.octets.now ++ drop n own)) e
    ∙ ap (λ (xs : List ℕ). drop i xs ++ (p.octets.now ++ drop (length own) own)) (take-length own)
    ∙ ap (λ (xs : List ℕ). drop i own ++ (p.octets.now ++ xs)) (drop-length own)
    ∙ ap (λ (xs : List ℕ). drop i own ++ xs) (append-nil p.octets.now)
spread-lend i own p (q ∷ ps) e h =
    ap (λ (xs : List ℕ). drop i (take q.at own) ++ (q.octets.now ++ xs)) (spread-lend q.at own p ps e h.2)
    ∙ sym (append_assoc (drop i (take q.at own)) (q.octets.now ++ spread q.at own ps) p.octets.now
    ∙ ap (λ (xs : List ℕ). drop i (take q.at own) ++ xs) (append_assoc q.octets.now (spread q.at own ps) p.octets.now))

pub loans-lend : (i n : ℕ) (p : Loan) (ps : List Loan) → p.at ≡ n → 0 < length p.octets.now → AreLoans i n ps → AreLoans i n (ps ++ p ∷ [])
loans-lend i n p [] e some h = (omega (arith, e, h), some, omega (arith, e))
loans-lend i n p (q ∷ ps) e some h = (h.0, h.1, loans-lend q.at n p ps e some h.2)

-- a head is copied and then octets are lent
pub spread-lent : (i : ℕ) (own head : List ℕ) (p : Loan) (ps : List Loan) → p.at ≡ length (own ++ head) → AreLoans i (length own) ps
    → spread i (own ++ head) (ps ++ p ∷ []) ≡ spread i own ps ++ head ++ p.octets.now
spread-lent i own head p ps e h =
    spread-lend i (own ++ head) p ps e (loans-append i own head ps h)
    ∙ ap (λ (xs : List ℕ). xs ++ p.octets.now) (spread-append i own head ps h)

-- ---- octets leave from the front

pub own-front : (i : ℕ) (own : List ℕ) (p : Loan) (ps : List Loan) → drop i (take p.at own) ≡ take (length (drop i (take p.at own))) (spread i own (p ∷ ps))
unfolding spread
own-front i own p ps = front-is (drop i (take p.at own)) (p.octets.now ++ spread p.at own ps) (spread i own (p ∷ ps)) refl

none-before : (i : ℕ) (own : List ℕ) (p : Loan) → p.at ≤ i → p.at ≤ length own → drop i (take p.at own) ≡ []
none-before i own p h g = drop_of_length-le (take p.at own) (omega (arith, length-take-le p.at own g, h))

-- the first loan is in front
pub spread-first : (i : ℕ) (own : List ℕ) (p : Loan) (ps : List Loan) → p.at ≤ i → AreLoans i (length own) (p ∷ ps) → spread i own (p ∷ ps) ≡ p.octets.now ++ spread i own ps
unfolding spread
spread-first i own p ps h loans =
    let within = loans-within p.at (length own) ps loans.2 in
    let least = loans.0 in
    let same : p.at ≡ i = omega (arith, h, least) in
    ap (λ (xs : List ℕ). xs ++ (p.octets.now ++ spread p.at own ps)) (none-before i own p h within)
    ∙ ap (λ (n : ℕ). p.octets.now ++ spread n own ps) same

pub loans-first : (i n : ℕ) (p : Loan) (ps : List Loan) → p.at ≤ i → AreLoans i n (p ∷ ps) → AreLoans i n ps
loans-first i n p ps h loans =
    let least = loans.0 in
    let same : p.at ≡ i = omega (arith, h, least) in
    subst (λ (k : ℕ). AreLoans k n ps) same loans.2

pub lent-front : (i : ℕ) (own : List ℕ) (p : Loan) (ps : List Loan) → p.at ≤ i → AreLoans i (length own) (p ∷ ps) → p.octets.now ≡ take (length p.octets.now) (spread i own (p ∷ ps))
lent-front i own p ps h loans = front-is p.octets.now (spread i own ps) (spread i own (p ∷ ps)) (spread-first i own p ps h loans)

-- own octets in front of a loan
pub drop-own : (i k : ℕ) (own : List ℕ) (p : Loan) (ps : List Loan) → i + k ≤ p.at → AreLoans i (length own) (p ∷ ps) → spread (i + k) own (p ∷ ps) ≡ drop k (spread i own (p ∷ ps))
unfolding spread
drop-own i k own p ps h loans =
    let within = loans-within p.at (length own) ps loans.2 in
    let size = length-drop i (take p.at own) in
    let all = length-take-le p.at own within in
    let fits : k ≤ length (drop i (take p.at own)) = omega (arith, size, all, h) in
    ap (λ (xs : List ℕ). xs ++ (p.octets.now ++ spread p.at own ps)) (sym (drop-drop k i (take p.at own)))
    ∙ sym (drop-append-le k (drop i (take p.at own)) (p.octets.now ++ spread p.at own ps) fits)

-- octets of the first loan
pub drop-lent : (i k : ℕ) (own : List ℕ) (p q : Loan) (ps : List Loan) → p.at ≤ i → AreLoans i (length own) (p ∷ ps) → k ≤ length p.octets.now → q.at ≡ p.at → q.octets.now ≡ drop k p.octets.now
    → 0 < length q.octets.now → spread i own (q ∷ ps) ≡ drop k (spread i own (p ∷ ps))
drop-lent i k own p q ps h loans fits e is some =
    let same : q.at ≤ i = omega (arith, e, h) in
    let loans' : AreLoans i (length own) (q ∷ ps) = (subst (λ (n : ℕ). i ≤ n) (sym e) loans.0, some, subst (λ (n : ℕ). AreLoans n (length own) ps) (sym e) loans.2) in
    spread-first i own q ps same loans'
    ∙ ap (λ (xs : List ℕ). xs ++ spread i own ps) is
    ∙ sym (drop-append-le k p.octets.now (spread i own ps) fits)
    ∙ ap (drop k) (sym (spread-first i own p ps h loans))

-- all octets of the first loan
pub drop-loan : (i k : ℕ) (own : List ℕ) (p : Loan) (ps : List Loan) → p.at ≤ i → AreLoans i (length own) (p ∷ ps) → k ≡ length p.octets.now → spread i own ps ≡ drop k (spread i own (p ∷ ps))
drop-loan i k own p ps h loans all =
    sym (ap (λ (n : ℕ). drop n (spread i own (p ∷ ps))) all
    ∙ ap (drop (length p.octets.now)) (spread-first i own p ps h loans)
    ∙ drop-append_seam p.octets.now (spread i own ps))

-- ---- octets leave from the end

pub loans-last : (i n : ℕ) (p : Loan) (ps : List Loan) → AreLoans i n (ps ++ p ∷ []) → (i ≤ p.at) × (p.at ≤ n) × (0 < length p.octets.now) × AreLoans i p.at ps
loans-last i n p [] h = (h.0, h.2, h.1, h.0)
loans-last i n p (q ∷ ps) h =
    let more = loans-last q.at n p ps h.2 in
    let here = h.0 in
    let there = more.0 in
    (omega (arith, here, there), more.1, more.2, (h.0, h.1, more.3))

pub spread-last : (i : ℕ) (own : List ℕ) (p : Loan) (ps : List Loan) → AreLoans i (length own) (ps ++ p ∷ []) → spread i own (ps ++ p ∷ []) ≡ spread i (take p.at own) ps ++ (p.octets.now ++ drop p.at own)
unfolding spread
spread-last i own p [] h = refl
spread-last i own p (q ∷ ps) h =
    let last = loans-last q.at (length own) p ps h.2 in
    let rest = p.octets.now ++ drop p.at own in
    ap (λ (xs : List ℕ). drop i (take q.at own) ++ (q.octets.now ++ xs)) (spread-last q.at own p ps h.2)
    ∙ ap (λ (xs : List ℕ). drop i xs ++ (q.octets.now ++ (spread q.at (take p.at own) ps ++ rest))) (sym (take-within q.at p.at own last.0 last.1))
    ∙ sym (append_assoc (drop i (take q.at (take p.at own))) (q.octets.now ++ spread q.at (take p.at own) ps) rest
    ∙ ap (λ (xs : List ℕ). drop i (take q.at (take p.at own)) ++ xs) (append_assoc q.octets.now (spread q.at (take p.at own) ps) rest))

-- own octets after the last loan
pub cut-own : (i c : ℕ) (own : List ℕ) (p : Loan) (ps : List Loan) → p.at + c ≤ length own → AreLoans i (length own) (ps ++ p ∷ [])
    → (AreLoans i (length (take (length own - c) own)) (ps ++ p ∷ []))
    × (spread i (take (length own - c) own) (ps ++ p ∷ []) ≡ take (length (spread i own (ps ++ p ∷ [])) - c) (spread i own (ps ++ p ∷ [])))
cut-own i c own p ps h loans =
    let cut = take (length own - c) own in
    let size : length cut ≡ length own - c = length-take-le (length own - c) own (omega arith) in
    let last = loans-last i (length own) p ps loans in
    let within : p.at ≤ length cut = omega (arith, size, h) in
    let shorter : AreLoans i (length cut) (ps ++ p ∷ []) = loans-longer i p.at (length cut) (ps ++ p ∷ []) within (loans-lend i p.at p ps refl last.2 last.3) in
    let old = spread-last i own p ps loans in
    let front = spread i (take p.at own) ps in
    let tail = drop p.at own in
    let fits : c ≤ length tail = omega (arith, length-drop p.at own, h) in
    let less : p.at ≤ length own - c = omega (arith, h) in (
      shorter,
      spread-last i cut p ps shorter
          ∙ ap (λ (xs : List ℕ). spread i xs ps ++ (p.octets.now ++ drop p.at cut)) (take-within p.at (length own - c) own less (omega arith))
          ∙ ap (λ (xs : List ℕ). front ++ (p.octets.now ++ xs)) (cut-drop p.at c own h)
          ∙ sym (append_assoc front p.octets.now (take (length tail - c) tail))
          ∙ sym (cut-second (front ++ p.octets.now) tail c fits)
          ∙ ap (λ (xs : List ℕ). take (length xs - c) xs) (append_assoc front p.octets.now tail ∙ sym old),
    )

-- octets of the last loan
pub cut-lent : (i c : ℕ) (own : List ℕ) (p q : Loan) (ps : List Loan) → length own ≤ p.at → AreLoans i (length own) (ps ++ p ∷ []) → c < length p.octets.now → q.at ≡ p.at
    → q.octets.now ≡ take (length p.octets.now - c) p.octets.now
    → (AreLoans i (length own) (ps ++ q ∷ []))
    × (spread i own (ps ++ q ∷ []) ≡ take (length (spread i own (ps ++ p ∷ [])) - c) (spread i own (ps ++ p ∷ [])))
cut-lent i c own p q ps h loans fits e is =
    let last = loans-last i (length own) p ps loans in
    let most = last.1 in
    let same : p.at ≡ length own = omega (arith, h, most) in
    let same' : q.at ≡ length own = e ∙ same in
    let before : AreLoans i (length own) ps = subst (λ (n : ℕ). AreLoans i n ps) same last.3 in
    let size : length q.octets.now ≡ length p.octets.now - c = ap length is ∙ length-take-le (length p.octets.now - c) p.octets.now (omega arith) in
    let some : 0 < length q.octets.now = omega (arith, size, fits) in (
      loans-lend i (length own) q ps same' some before,
      spread-lend i own q ps same' before
          ∙ ap (λ (xs : List ℕ). spread i own ps ++ xs) is
          ∙ sym (cut-second (spread i own ps) p.octets.now c (omega (arith, fits)))
          ∙ ap (λ (xs : List ℕ). take (length xs - c) xs) (sym (spread-lend i own p ps same before)),
    )

-- all octets of the last loan
pub cut-loan : (i c : ℕ) (own : List ℕ) (p : Loan) (ps : List Loan) → length own ≤ p.at → AreLoans i (length own) (ps ++ p ∷ []) → c ≡ length p.octets.now
    → (AreLoans i (length own) ps) × (spread i own ps ≡ take (length (spread i own (ps ++ p ∷ [])) - c) (spread i own (ps ++ p ∷ [])))
cut-loan i c own p ps h loans all =
    let last = loans-last i (length own) p ps loans in
    let most = last.1 in
    let same : p.at ≡ length own = omega (arith, h, most) in
    let before : AreLoans i (length own) ps = subst (λ (n : ℕ). AreLoans i n ps) same last.3 in
    let none : length p.octets.now - c ≡ 0 = omega (arith, all) in (
      before,
      sym (append-nil (spread i own ps))
          ∙ ap (λ (n : ℕ). spread i own ps ++ take n p.octets.now) (sym none)
          ∙ sym (cut-second (spread i own ps) p.octets.now c (omega (arith, all)))
          ∙ ap (λ (xs : List ℕ). take (length xs - c) xs) (sym (spread-lend i own p ps same before)),
    )

-- ---- of loans that were found, or changed

pub spread-none : (i : ℕ) (own : List ℕ) (ps : List Loan) → ps ≡ [] → spread i own ps ≡ drop i own
unfolding spread
spread-none i own ps e = subst (λ (qs : List Loan). spread i own qs ≡ drop i own) (sym e) refl

pub whole-front : (xs ys : List ℕ) → xs ≡ ys → xs ≡ take (length xs) ys
whole-front xs ys e = subst (λ (zs : List ℕ). xs ≡ take (length xs) zs) e (sym (take-length xs))

pub appended : (i : ℕ) (own more new : List ℕ) (ps : List Loan) → AreLoans i (length own) ps → new ≡ own ++ more → (AreLoans i (length new) ps) × (spread i new ps ≡ spread i own ps ++ more)
appended i own more new ps h e = (
  subst (λ (xs : List ℕ). AreLoans i (length xs) ps) (sym e) (loans-append i own more ps h),
  ap (λ (xs : List ℕ). spread i xs ps) e ∙ spread-append i own more ps h,
)

-- octets were copied after the own ones, in three parts
pub copied : (i : ℕ) (own held one two three a b c : List ℕ) (ps : List Loan) → AreLoans i (length own) ps → held ≡ own → one ≡ held ++ a → two ≡ one ++ b → three ≡ two ++ c
    → (AreLoans i (length three) ps) × (spread i three ps ≡ spread i own ps ++ a ++ b ++ c)
copied i own held one two three a b c ps h e f g k =
    let x = appended i own a one ps h (f ∙ ap (λ (xs : List ℕ). xs ++ a) e) in
    let y = appended i one b two ps x.0 g in
    let z = appended i two c three ps y.0 k in
    (z.0, z.1 ∙ ap (λ (xs : List ℕ). xs ++ c) (y.1 ∙ ap (λ (xs : List ℕ). xs ++ b) x.1))

-- a head was copied, and octets were lent after it
pub lent : (i : ℕ) (own head new : List ℕ) (p : Loan) (ps qs rs : List Loan) → AreLoans i (length own) ps → new ≡ own ++ head → qs ≡ ps → rs ≡ qs ++ p ∷ [] → p.at ≡ length new → 0 < length p.octets.now
    → (AreLoans i (length new) rs) × (spread i new rs ≡ spread i own ps ++ head ++ p.octets.now)
lent i own head new p ps qs rs h e f g at some =
    let all : rs ≡ ps ++ p ∷ [] = g ∙ ap (λ (xs : List Loan). xs ++ p ∷ []) f in
    let place : p.at ≡ length (own ++ head) = at ∙ ap length e in
    let loans : AreLoans i (length (own ++ head)) (ps ++ p ∷ []) = loans-lend i (length (own ++ head)) p ps place some (loans-append i own head ps h) in (
      subst (λ (xs : List ℕ). AreLoans i (length xs) rs) (sym e) (subst (AreLoans i (length (own ++ head))) (sym all) loans),
      ap (λ (xs : List ℕ). spread i xs rs) e ∙ ap (spread i (own ++ head)) all ∙ spread-lent i own head p ps place h,
    )

-- octets of the first loan are gone
pub drop-shortened : (i k : ℕ) (own : List ℕ) (p : Loan) (ps qs : List Loan) → p.at ≤ i → AreLoans i (length own) (p ∷ ps) → k ≤ length p.octets.now → IsShortened (drop k) k (p ∷ ps) qs
    → (AreLoans i (length own) qs) × (spread i own qs ≡ drop k (spread i own (p ∷ ps)))
drop-shortened i k own p ps qs h loans fits shorter = by (cases_lt k (length p.octets.now))
  where
    by : (k < length p.octets.now) ⊎ (length p.octets.now ≤ k) → (AreLoans i (length own) qs) × (spread i own qs ≡ drop k (spread i own (p ∷ ps)))
    by (inl less) =
        let x = shorter.0 less in
        let q = x.0 in
        let some : 0 < length q.octets.now = subst (λ (xs : List ℕ). 0 < length xs) (sym x.3) (omega (arith, length-drop k p.octets.now, less)) in
        let loans' : AreLoans i (length own) (q ∷ ps) = (subst (λ (n : ℕ). i ≤ n) (sym x.2) loans.0, some, subst (λ (n : ℕ). AreLoans n (length own) ps) (sym x.2) loans.2) in
        (subst (AreLoans i (length own)) (sym x.1) loans', ap (spread i own) x.1 ∙ drop-lent i k own p q ps h loans fits x.2 x.3 some)
    by (inr most) =
        let rest = shorter.1 most in
        (subst (AreLoans i (length own)) (sym rest) (loans-first i (length own) p ps h loans), ap (spread i own) rest ∙ drop-loan i k own p ps h loans (omega (arith, fits, most)))

-- octets of the last loan are gone
pub cut-shortened : (i c : ℕ) (own : List ℕ) (p : Loan) (ps qs : List Loan) → length own ≤ p.at → AreLoans i (length own) (ps ++ p ∷ []) → c ≤ length p.octets.now → IsPutShorter ps p c qs
    → (AreLoans i (length own) qs) × (spread i own qs ≡ take (length (spread i own (ps ++ p ∷ [])) - c) (spread i own (ps ++ p ∷ [])))
cut-shortened i c own p ps qs h loans fits shorter = by (cases_lt c (length p.octets.now))
  where
    Goal : List Loan → Type 0
    Goal rs = (AreLoans i (length own) rs) × (spread i own rs ≡ take (length (spread i own (ps ++ p ∷ [])) - c) (spread i own (ps ++ p ∷ [])))

    by : (c < length p.octets.now) ⊎ (length p.octets.now ≤ c) → Goal qs
    by (inl less) = let x = shorter.0 less in subst Goal (sym x.1) (cut-lent i c own p x.0 ps h loans less x.2 x.3)
    by (inr most) = subst Goal (sym (shorter.1 most)) (cut-loan i c own p ps h loans (omega (arith, fits, most)))
