-- What is at the front of octets stays there with more octets after it: strings, and instructions.
use Rattle.std.proofs.Common.{◌≡◌, ℕ, zero, suc, ◌+◌, ◌-◌, ◌<◌, ◌≤◌, Bool, true, false, cond, List, [], ◌∷◌, ◌++◌, length, take, drop, refl, ap, sym, ◌∙◌, subst, arith, leb, leb-true, le-leb, length-append, length-drop}
use Rattle.std.proofs.lemmas.List.{append-nil, take-append-le, drop-append-le, drop-take, length-take-le, take_all}
use Rattle.std.proofs.Math.Seq.{take-add}
use Rattle.h2_spec.specs.Hpack.Integer.{IsReadOf, int_at}
use Rattle.h2_spec.specs.Read.{Read, Whole, More, TooLong, read_map}
use Rattle.h2_spec.specs.Hpack.Instruction.{Str, Shape, Mode, IncrementalIndexing, WithoutIndexing, NeverIndexed, NameRef, Ref, Literal, Indexed, Update, Named, mode_prefix, read_past, read_then, octets_at, string_at, name_by, value_at, literal_at, instr_by, instr_at}
use Rattle.h2_spec.proofs.IntegerLaws as integers

-- what is read to its end is read so with more octets after it
abbrev pub Stays : {A : Type 0} → Read A → Read A → Type 0
Stays (Whole a used) y = y ≡ Whole a used
Stays More y = Unit {0}
Stays TooLong y = y ≡ TooLong

-- what is read takes no more than these octets
abbrev pub Within : {A : Type 0} → ℕ → Read A → Type 0
Within n (Whole a used) = used ≤ n
Within n More = Unit {0}
Within n TooLong = Unit {0}

-- what is read takes an octet or more
abbrev pub Takes : {A : Type 0} → Read A → Type 0
Takes (Whole a used) = 0 < used
Takes More = Unit {0}
Takes TooLong = Unit {0}

pub record IsReader {A : Type 0} (p : List ℕ → Read A) : Type 0 where
  pub stays : (b c : List ℕ) → Stays (p b) (p (b ++ c))
  pub within : (b : List ℕ) → Within (length b) (p b)
  pub exact : (b : List ℕ) (a : A) (used : ℕ) → p b ≡ Whole a used → p (take used b) ≡ Whole a used

-- ---- one thing after another

map-stays : {A B : Type 0} (f : A → B) (x y : Read A) → Stays x y → Stays (read_map f x) (read_map f y)
map-stays f (Whole a used) y h = ap (read_map f) h
map-stays f More y h = tt
map-stays f TooLong y h = ap (read_map f) h

map-within : {A B : Type 0} (f : A → B) (n : ℕ) (x : Read A) → Within n x → Within n (read_map f x)
map-within f n (Whole a used) h = h
map-within f n More h = tt
map-within f n TooLong h = tt

map-takes : {A B : Type 0} (f : A → B) (x : Read A) → Takes x → Takes (read_map f x)
map-takes f (Whole a used) h = h
map-takes f More h = tt
map-takes f TooLong h = tt

pub mapped : {A B : Type 0} (f : A → B) (r : Read A) (x : B) (used : ℕ) → read_map f r ≡ Whole x used → (a : A) × (r ≡ Whole a used) × (f a ≡ x)
mapped f (Whole a n) x used e =
    let same : f a ≡ x = cc in
    let count : n ≡ used = cc in
    (a, ap (Whole a) count, same)
mapped f More x used e = absurd cc
mapped f TooLong x used e = absurd cc

map-reader : {A B : Type 0} (f : A → B) (p : List ℕ → Read A) → IsReader p → IsReader (λ b. read_map f (p b))
map-reader f p r = record {
  stays = λ b c. map-stays f (p b) (p (b ++ c)) (r.stays b c);
  within = λ b. map-within f (length b) (p b) (r.within b);
  exact = λ b x used e.
      let w = mapped f (p b) x used e in
      ap (read_map f) (r.exact b w.0 used w.1) ∙ ap (λ y. Whole y used) w.2;
}

past-stays : {A : Type 0} (used : ℕ) (x y : Read A) → Stays x y → Stays (read_past used x) (read_past used y)
past-stays used (Whole a more) y h = ap (read_past used) h
past-stays used More y h = tt
past-stays used TooLong y h = ap (read_past used) h

past-within : {A : Type 0} (used n : ℕ) (x : Read A) → used ≤ n → Within (n - used) x → Within n (read_past used x)
past-within used n (Whole a more) h k = omega (arith, h, k)
past-within used n More h k = tt
past-within used n TooLong h k = tt

past-takes : {A : Type 0} (used : ℕ) (x : Read A) → 0 < used → Takes (read_past used x)
past-takes used (Whole a more) h = omega (arith, h)
past-takes used More h = tt
past-takes used TooLong h = tt

past-whole : {A : Type 0} (used : ℕ) (r : Read A) (x : A) (n : ℕ) → read_past used r ≡ Whole x n → (m : ℕ) × (r ≡ Whole x m) × (n ≡ used + m)
past-whole used (Whole a m) x n e =
    let same : a ≡ x = cc in
    let count : used + m ≡ n = cc in
    (m, ap (λ y. Whole y m) same, sym count)
past-whole used More x n e = absurd cc
past-whole used TooLong x n e = absurd cc

-- what two things, one after the other, took
pub record Both {A B : Type 0} (b : List ℕ) (r : Read A) (f : A → List ℕ → Read B) (x : B) (n : ℕ) : Type 0 where
  pub one : A
  pub used : ℕ
  pub more : ℕ
  pub first : r ≡ Whole one used
  pub behind : f one (drop used b) ≡ Whole x more
  pub count : n ≡ used + more

then-whole : {A B : Type 0} (b : List ℕ) (r : Read A) (f : A → List ℕ → Read B) (x : B) (n : ℕ) → read_then b r f ≡ Whole x n → Both b r f x n
then-whole b (Whole a used) f x n e = let w = past-whole used (f a (drop used b)) x n e in record { one = a; used = used; more = w.0; first = refl; behind = w.1; count = w.2 }
then-whole b More f x n e = absurd cc
then-whole b TooLong f x n e = absurd cc

module _ {A B : Type 0} (f : A → List ℕ → Read B) (readers : (a : A) → IsReader (f a)) where
  then-stays : (b c : List ℕ) (x y : Read A) → Within (length b) x → Stays x y → Stays (read_then b x f) (read_then (b ++ c) y f)
  then-stays b c (Whole a used) y w h = rw (h, drop-append-le used b c w) (past-stays used (f a (drop used b)) (f a (drop used b ++ c)) ((readers a).stays (drop used b) c))
  then-stays b c More y w h = tt
  then-stays b c TooLong y w h = rw h refl

  then-within : (b : List ℕ) (x : Read A) → Within (length b) x → Within (length b) (read_then b x f)
  then-within b (Whole a used) w =
      past-within used (length b) (f a (drop used b)) w (subst (λ n. Within n (f a (drop used b))) (length-drop used b) ((readers a).within (drop used b)))
  then-within b More w = tt
  then-within b TooLong w = tt

  then-takes : (b : List ℕ) (x : Read A) → Takes x → Takes (read_then b x f)
  then-takes b (Whole a used) t = past-takes used (f a (drop used b)) t
  then-takes b More t = tt
  then-takes b TooLong t = tt

  then-exact : (p : List ℕ → Read A) → IsReader p → (b : List ℕ) (x : B) (n : ℕ) → read_then b (p b) f ≡ Whole x n → read_then (take n b) (p (take n b)) f ≡ Whole x n
  then-exact p r b x n e =
      let w = then-whole b (p b) f x n e in
      let front : p (take w.used b) ≡ Whole w.one w.used = r.exact b w.one w.used w.first in
      let cut : take n b ≡ take w.used b ++ take w.more (drop w.used b) = ap (λ k. take k b) w.count ∙ take-add w.used w.more b in
      let first : p (take n b) ≡ Whole w.one w.used = ap p cut ∙ subst (λ y. Stays y (p (take w.used b ++ take w.more (drop w.used b)))) front (r.stays (take w.used b) (take w.more (drop w.used b))) in
      let rest : drop w.used (take n b) ≡ take w.more (drop w.used b) = ap (λ k. drop w.used (take k b)) w.count ∙ drop-take w.used w.more b in
      let behind : f w.one (drop w.used (take n b)) ≡ Whole x w.more = ap (f w.one) rest ∙ (readers w.one).exact (drop w.used b) x w.more w.behind in
      ap (λ y. read_then (take n b) y f) first ∙ ap (read_past w.used) behind ∙ ap (Whole x) (sym w.count)

  pub then-reader : (p : List ℕ → Read A) → IsReader p → IsReader (λ b. read_then b (p b) f)
  then-reader p r = record {
    stays = λ b c. then-stays b c (p b) (p (b ++ c)) (r.within b) (r.stays b c);
    within = λ b. then-within b (p b) (r.within b);
    exact = then-exact p r;
  }

-- ---- integers, strings, literals

whole-reader : {A : Type 0} (a : A) → IsReader (λ b. Whole a 0)
whole-reader a = record { stays = λ b c. refl; within = λ b. omega arith; exact = λ b x used e. e }

number-stays : (x y : Read ℕ) → integers.Stays x y → Stays x y
number-stays (Whole v used) y h = h
number-stays More y h = tt
number-stays TooLong y h = h

number-within : (n : ℕ) (b : List ℕ) (x : Read ℕ) → IsReadOf n b x → Within (length b) x
number-within n b (Whole v used) h = h.0
number-within n b More h = tt
number-within n b TooLong h = tt

number-takes : (n : ℕ) (b : List ℕ) (x : Read ℕ) → IsReadOf n b x → Takes x
number-takes n b (Whole v zero) h = absurd h.1
number-takes n b (Whole v (suc used)) h = omega arith
number-takes n b More h = tt
number-takes n b TooLong h = tt

number-exact : (n : ℕ) (b : List ℕ) (v used : ℕ) → IsReadOf n b (Whole v used) → int_at n (take used b) ≡ Whole v used
number-exact n b v used h =
    ap (int_at n) (sym (append-nil (take used b))) ∙ integers.int_whole n v (take used b) [] h.1 ∙ ap (Whole v) (length-take-le used b h.0)

pub number-reader : (n : ℕ) → IsReader (int_at n)
number-reader n = record {
  stays = λ b c. number-stays (int_at n b) (int_at n (b ++ c)) (integers.int-stays n b c);
  within = λ b. number-within n b (int_at n b) (integers.int_read n b);
  exact = λ b v used e. number-exact n b v used (subst (IsReadOf n b) e (integers.int_read n b));
}

pub octets-reader : (huffman : Bool) (n : ℕ) → IsReader (octets_at huffman n)
octets-reader huffman n = record {
  stays = λ b c. stays b c (leb n (length b)) refl;
  within = λ b. within b (leb n (length b)) refl;
  exact = λ b a used e. exact b a used (leb n (length b)) refl e;
}
  where
    str : List ℕ → Str
    str xs = record { huffman = huffman; octets = xs }

    stays : (b c : List ℕ) (t : Bool) → leb n (length b) ≡ t → Stays (cond t (Whole (str (take n b)) n) More) (octets_at huffman n (b ++ c))
    stays b c true e =
        let enough = leb-true n (length b) e in
        let more : leb n (length (b ++ c)) ≡ true = le-leb n (length (b ++ c)) (omega (arith, enough, length-append b c)) in
        rw (more, take-append-le n b c enough) refl
    stays b c false e = tt

    within : (b : List ℕ) (t : Bool) → leb n (length b) ≡ t → Within (length b) (cond t (Whole (str (take n b)) n) More)
    within b true e = leb-true n (length b) e
    within b false e = tt

    exact : (b : List ℕ) (a : Str) (used : ℕ) (t : Bool) → leb n (length b) ≡ t → cond t (Whole (str (take n b)) n) More ≡ Whole a used → octets_at huffman n (take used b) ≡ Whole a used
    exact b a used true e h =
        let same : str (take n b) ≡ a = cc in
        let count : n ≡ used = cc in
        let front : length (take n b) ≡ n = length-take-le n b (leb-true n (length b) e) in
        let enough : leb n (length (take n b)) ≡ true = le-leb n (length (take n b)) (omega (arith, front)) in
        ap (λ k. octets_at huffman n (take k b)) (sym count) ∙ rw (enough, take_all n (take n b) (omega (arith, front))) (ap (λ s. Whole s n) same ∙ ap (Whole a) count)
    exact b a used false e h = absurd cc

flagged-reader : (huffman : Bool) → IsReader (λ b. read_then b (int_at 7 b) (octets_at huffman))
flagged-reader huffman = then-reader (octets_at huffman) (octets-reader huffman) (int_at 7) (number-reader 7)

string-stays : (b c : List ℕ) → Stays (string_at b) (string_at (b ++ c))
unfolding string_at
string-stays [] c = tt
string-stays (o ∷ b) c = (flagged-reader (leb 128 o)).stays (o ∷ b) c

string-within : (b : List ℕ) → Within (length b) (string_at b)
unfolding string_at
string-within [] = tt
string-within (o ∷ b) = (flagged-reader (leb 128 o)).within (o ∷ b)

number-first : (n : ℕ) (b : List ℕ) → Takes (int_at n b)
number-first n b = number-takes n b (int_at n b) (integers.int_read n b)

string-takes : (b : List ℕ) → Takes (string_at b)
unfolding string_at
string-takes [] = tt
string-takes (o ∷ b) = then-takes (octets_at (leb 128 o)) (octets-reader (leb 128 o)) (o ∷ b) (int_at 7 (o ∷ b)) (number-first 7 (o ∷ b))

string-exact : (b : List ℕ) (s : Str) (used : ℕ) → string_at b ≡ Whole s used → string_at (take used b) ≡ Whole s used
unfolding string_at
string-exact [] s used e = absurd cc
string-exact (o ∷ b) s zero e = let w = string-takes (o ∷ b) in absurd (omega (arith, subst Takes e w))
string-exact (o ∷ b) s (suc used) e = (flagged-reader (leb 128 o)).exact (o ∷ b) s (suc used) e

pub string-reader : IsReader string_at
string-reader = record { stays = string-stays; within = string-within; exact = string-exact }

pub name-reader : (i : ℕ) → IsReader (name_by i)
name-reader zero = map-reader Named string_at string-reader
name-reader (suc i) = whole-reader (Ref (suc i))

pub value-reader : (mode : Mode) (name : NameRef Str) → IsReader (value_at mode name)
value-reader mode name = map-reader (Literal mode name) string_at string-reader

literal-reader : (mode : Mode) → IsReader (literal_at mode)
literal-reader mode =
    then-reader (value_at mode) (value-reader mode) (λ b. read_then b (int_at (mode_prefix mode) b) name_by) (then-reader name_by name-reader (int_at (mode_prefix mode)) (number-reader (mode_prefix mode)))

literal-takes : (mode : Mode) (b : List ℕ) → Takes (literal_at mode b)
literal-takes mode b =
    then-takes (value_at mode) (value-reader mode) b (read_then b (int_at (mode_prefix mode) b) name_by)
    (then-takes name_by name-reader b (int_at (mode_prefix mode) b) (number-first (mode_prefix mode) b))

-- ---- instructions

-- a choice between readers by what is known of the first octet
choice-reader : {A : Type 0} (t : Bool) (p q : List ℕ → Read A) → IsReader p → IsReader q → IsReader (λ b. cond t (p b) (q b))
choice-reader true p q r s = r
choice-reader false p q r s = s

choice-takes : {A : Type 0} (t : Bool) (x y : Read A) → Takes x → Takes y → Takes (cond t x y)
choice-takes true x y h k = h
choice-takes false x y h k = k

by-reader : (o : ℕ) → IsReader (instr_by o)
by-reader o =
    choice-reader (leb 128 o) (λ b. read_map Indexed (int_at 7 b)) _ (map-reader Indexed (int_at 7) (number-reader 7))
    (choice-reader (leb 64 o) (literal_at IncrementalIndexing) _ (literal-reader IncrementalIndexing)
    (choice-reader (leb 32 o) (λ b. read_map Update (int_at 5 b)) _ (map-reader Update (int_at 5) (number-reader 5))
    (choice-reader (leb 16 o) (literal_at NeverIndexed) (literal_at WithoutIndexing) (literal-reader NeverIndexed) (literal-reader WithoutIndexing))))

by-takes : (o : ℕ) (b : List ℕ) → Takes (instr_by o b)
by-takes o b =
    choice-takes (leb 128 o) (read_map Indexed (int_at 7 b)) _ (map-takes Indexed (int_at 7 b) (number-first 7 b))
    (choice-takes (leb 64 o) (literal_at IncrementalIndexing b) _ (literal-takes IncrementalIndexing b)
    (choice-takes (leb 32 o) (read_map Update (int_at 5 b)) _ (map-takes Update (int_at 5 b) (number-first 5 b))
    (choice-takes (leb 16 o) (literal_at NeverIndexed b) (literal_at WithoutIndexing b) (literal-takes NeverIndexed b) (literal-takes WithoutIndexing b))))

-- no spelling begins another: an instruction that is there stays there
pub instr-stays : (b c : List ℕ) → Stays (instr_at b) (instr_at (b ++ c))
unfolding instr_at
instr-stays [] c = tt
instr-stays (o ∷ b) c = (by-reader o).stays (o ∷ b) c

pub instr-within : (b : List ℕ) → Within (length b) (instr_at b)
unfolding instr_at
instr-within [] = tt
instr-within (o ∷ b) = (by-reader o).within (o ∷ b)

pub instr-takes : (b : List ℕ) → Takes (instr_at b)
unfolding instr_at
instr-takes [] = tt
instr-takes (o ∷ b) = by-takes o (o ∷ b)

instr-exact : (b : List ℕ) (shape : Shape) (used : ℕ) → instr_at b ≡ Whole shape used → instr_at (take used b) ≡ Whole shape used
unfolding instr_at
instr-exact [] shape used e = absurd cc
instr-exact (o ∷ b) shape zero e = absurd (omega (arith, subst Takes e (instr-takes (o ∷ b))))
instr-exact (o ∷ b) shape (suc used) e = (by-reader o).exact (o ∷ b) shape (suc used) e

-- the same of what is known to be there
pub whole-takes : (octets : List ℕ) (shape : Shape) (used : ℕ) → instr_at octets ≡ Whole shape used → (0 < used) × (used ≤ length octets)
whole-takes octets shape used e = (subst Takes e (instr-takes octets), subst (Within (length octets)) e (instr-within octets))

pub whole-stays : (octets more : List ℕ) (shape : Shape) (used : ℕ) → instr_at octets ≡ Whole shape used → instr_at (octets ++ more) ≡ Whole shape used
whole-stays octets more shape used e = subst (λ r. Stays r (instr_at (octets ++ more))) e (instr-stays octets more)

pub too_long-stays : (octets more : List ℕ) → instr_at octets ≡ TooLong → instr_at (octets ++ more) ≡ TooLong
too_long-stays octets more e = subst (λ r. Stays r (instr_at (octets ++ more))) e (instr-stays octets more)

-- the octets that an instruction takes are its whole spelling
pub whole-exact : (octets : List ℕ) (shape : Shape) (used : ℕ) → instr_at octets ≡ Whole shape used → instr_at (take used octets) ≡ Whole shape used
whole-exact octets shape used e = instr-exact octets shape used e
