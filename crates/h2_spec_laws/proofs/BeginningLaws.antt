-- What begins an instruction can be ended: integers, strings, and instructions.
use Rattle.std.proofs.Common.{◌≡◌, ℕ, zero, suc, ◌+◌, ◌-◌, ◌*◌, ◌<◌, ◌≤◌, ◌%◌, ◌^◌, Bool, true, false, cond, List, [], ◌∷◌, ◌++◌, length, take, drop, refl, ap, sym, ◌∙◌, subst, arith, leb, leb-false, le-leb, length-append, length-drop, append_assoc}
use Rattle.std.proofs.lemmas.List.{append-nil, drop-append-le, drop_at}
use Rattle.std.proofs.lemmas.Nat.{pow_pos}
use Rattle.std.specs.List.{AllByRecursion}
use Rattle.h2_spec.specs.Hpack.Integer.{groups, IsContinuation, IsInt, IsUnfinished, IsReadOf, int_at}
use Rattle.h2_spec.specs.Read.{Read, Whole, More, TooLong, read_map}
use Rattle.h2_spec.specs.Hpack.Instruction.{Str, Shape, Mode, IncrementalIndexing, WithoutIndexing, NeverIndexed, NameRef, Literal, Indexed, Update, Named, mode_prefix, read_past, read_then, octets_at, string_at, name_by, value_at, literal_at, instr_by, instr_at}
use Rattle.h2_spec.proofs.IntegerLaws.{continues, int_read, int_whole}
use Rattle.h2_spec.proofs.InstructionLaws.{Stays, Within, IsReader, then-reader, number-reader, octets-reader, name-reader, value-reader, instr-stays, instr-within}

-- with some octets more they are one whole thing
pub record CanEnd {A : Type 0} (p : List ℕ → Read A) (b : List ℕ) : Type 0 where
  pub more : List ℕ
  pub one : A
  pub whole : p (b ++ more) ≡ Whole one (length (b ++ more))

-- what begins such a thing can be ended
abbrev IsEndable : {A : Type 0} → (List ℕ → Read A) → Type 0
IsEndable p = (b : List ℕ) → p b ≡ More → CanEnd p b

-- ---- one thing after another

map-more : {A B : Type 0} (f : A → B) (r : Read A) → read_map f r ≡ More → r ≡ More
map-more f (Whole a used) e = absurd cc
map-more f More e = refl
map-more f TooLong e = absurd cc

map-ends : {A B : Type 0} (f : A → B) (p : List ℕ → Read A) → IsEndable p → IsEndable (λ b. read_map f (p b))
map-ends f p h b e = let x = h b (map-more f (p b) e) in record { more = x.more; one = f x.one; whole = ap (read_map f) x.whole }

past-more : {A : Type 0} (used : ℕ) (r : Read A) → read_past used r ≡ More → r ≡ More
past-more used (Whole a more) e = absurd cc
past-more used More e = refl
past-more used TooLong e = absurd cc

-- what can follow another thing
record IsSecond {A B : Type 0} (f : A → List ℕ → Read B) : Type 0 where
  readers : (a : A) → IsReader (f a)
  endable : (a : A) → IsEndable (f a)
  starts : (a : A) → f a [] ≡ TooLong → ⊥

drop-whole : (b : List ℕ) → drop (length b) b ≡ []
drop-whole [] = refl
drop-whole (o ∷ b) = drop-whole b

module _ {A B : Type 0} (f : A → List ℕ → Read B) (second : IsSecond f) (p : List ℕ → Read A) (reader : IsReader p) where
  abbrev both : List ℕ → Read B
  both b = read_then b (p b) f

  -- the first is whole, and the second is ended
  second-ends : (b : List ℕ) (a : A) (used : ℕ) → p b ≡ Whole a used → f a (drop used b) ≡ More → CanEnd both b
  second-ends b a used k e =
      let x = second.endable a (drop used b) e in
      let within : used ≤ length b = subst (Within (length b)) k (reader.within b) in
      let front : p (b ++ x.more) ≡ Whole a used = subst (λ y. Stays y (p (b ++ x.more))) k (reader.stays b x.more) in
      let rest : drop used (b ++ x.more) ≡ drop used b ++ x.more = drop-append-le used b x.more within in
      let count : used + length (drop used b ++ x.more) ≡ length (b ++ x.more) = omega (arith, within, length-append (drop used b) x.more, length-drop used b, length-append b x.more) in
      record {
        more = x.more;
        one = x.one;
        whole = ap (λ y. read_then (b ++ x.more) y f) front ∙ ap (λ y. read_past used (f a y)) rest ∙ ap (read_past used) x.whole ∙ ap (Whole x.one) count;
      }

  -- the first is ended, and nothing follows it yet
  first-ends : (b c : List ℕ) (a : A) → p (b ++ c) ≡ Whole a (length (b ++ c)) → (r : Read B) → f a [] ≡ r → CanEnd both b
  first-ends b c a k (Whole x n) e =
      let w = b ++ c in
      let none : n ≤ 0 = subst (Within 0) e ((second.readers a).within []) in
      let count : length w + n ≡ length w = omega (arith, none) in
      record {
        more = c;
        one = x;
        whole = ap (λ y. read_then w y f) k ∙ ap (λ y. read_past (length w) (f a y)) (drop-whole w) ∙ ap (read_past (length w)) e ∙ ap (Whole x) count;
      }
  first-ends b c a k More e =
      let w = b ++ c in
      let x = second.endable a [] e in
      let front : p (w ++ x.more) ≡ Whole a (length w) = subst (λ y. Stays y (p (w ++ x.more))) k (reader.stays w x.more) in
      let rest : drop (length w) (w ++ x.more) ≡ x.more = drop_at w x.more (length w) refl in
      let whole : both (w ++ x.more) ≡ Whole x.one (length (w ++ x.more)) =
      ap (λ y. read_then (w ++ x.more) y f) front ∙ ap (λ y. read_past (length w) (f a y)) rest ∙ ap (read_past (length w)) x.whole ∙ ap (Whole x.one) (sym (length-append w x.more)) in
      record {
        more = c ++ x.more;
        one = x.one;
        whole = subst (λ l. both l ≡ Whole x.one (length l)) (append_assoc b c x.more) whole;
      }
  first-ends b c a k TooLong e = absurd (second.starts a e)

  then-ends : IsEndable p → IsEndable (λ b. read_then b (p b) f)
  then-ends h b e = at (p b) refl e
    where
      at : (x : Read A) → p b ≡ x → read_then b x f ≡ More → CanEnd both b
      at (Whole a used) k e = second-ends b a used k (past-more used (f a (drop used b)) e)
      at More k e = let x = h b k in first-ends b x.more x.one x.whole (f x.one []) refl
      at TooLong k e = absurd cc

-- ---- integers, strings, literals

ended : (cs : List ℕ) → AllByRecursion (λ c. 128 ≤ c) cs → IsContinuation (cs ++ 0 ∷ [])
ended [] h = omega arith
ended (c ∷ cs) h = continues c (cs ++ 0 ∷ []) h.0 (ended cs h.1)

unfinished-ends : (n o : ℕ) (cs : List ℕ) → IsUnfinished n (o ∷ cs) → (v : ℕ) × IsInt n v (o ∷ (cs ++ 0 ∷ []))
unfinished-ends n o [] h = (2 ^ n - 1 + groups (0 ∷ []), (h.0, omega arith, omega arith, refl))
unfinished-ends n o (c ∷ cs) h = (2 ^ n - 1 + groups (c ∷ cs ++ 0 ∷ []), (h.0, ended (c ∷ cs) h.1, omega (arith, h.2, length-append cs (0 ∷ [])), refl))

number-ends : (n : ℕ) → int_at n (0 ∷ []) ≡ Whole 0 1 → IsEndable (int_at n)
number-ends n zero_whole [] e = record { more = 0 ∷ []; one = 0; whole = zero_whole }
number-ends n zero_whole (o ∷ cs) e =
    let x = unfinished-ends n o cs (subst (IsReadOf n (o ∷ cs)) e (int_read n (o ∷ cs))) in
    let b = o ∷ (cs ++ 0 ∷ []) in
    record { more = 0 ∷ []; one = x.0; whole = ap (int_at n) (sym (append-nil b)) ∙ int_whole n x.0 b [] x.1 }

abbrev zeros : ℕ → List ℕ
zeros zero = []
zeros (suc n) = 0 ∷ zeros n

length-zeros : (n : ℕ) → length (zeros n) ≡ n
length-zeros zero = refl
length-zeros (suc n) = ap suc (length-zeros n)

octets-end : (huffman : Bool) (n : ℕ) → IsEndable (octets_at huffman n)
octets-end huffman n b e = at (leb n (length b)) refl e
  where
    str : List ℕ → Str
    str xs = record { huffman = huffman; octets = xs }

    at : (t : Bool) → leb n (length b) ≡ t → cond t (Whole (str (take n b)) n) More ≡ More → CanEnd (octets_at huffman n) b
    at true k e = absurd cc
    at false k e =
        let short = leb-false n (length b) k in
        let more = zeros (n - length b) in
        let count : n ≡ length (b ++ more) = omega (arith, short, length-zeros (n - length b), length-append b more) in
        let enough : leb n (length (b ++ more)) ≡ true = le-leb n (length (b ++ more)) (omega (arith, count)) in
        record { more = more; one = str (take n (b ++ more)); whole = rw enough (ap (Whole (str (take n (b ++ more)))) count) }

octets-start : (huffman : Bool) (n : ℕ) (t : Bool) (x : Str) → cond t (Whole x n) More ≡ TooLong → ⊥
octets-start huffman n true x e = cc
octets-start huffman n false x e = cc

octets-second : (huffman : Bool) → IsSecond (octets_at huffman)
octets-second huffman = record { readers = octets-reader huffman; endable = octets-end huffman; starts = λ n. octets-start huffman n (leb n 0) (record { huffman = huffman; octets = take n [] }) }

zero-whole : (n : ℕ) → 0 < n → int_at n (0 ∷ []) ≡ Whole 0 1
zero-whole n h = int_whole n 0 (0 ∷ []) [] (zero-low n, one-more n h)
  where
    zero-low : (n : ℕ) → 0 % 2 ^ n ≡ 0
    zero-low n = omega arith

    one-more : (n : ℕ) → 0 < n → 0 < 2 ^ n - 1
    one-more zero h = absurd (omega arith)
    one-more (suc n) h = let two : 2 ^ suc n ≡ 2 * 2 ^ n = omega arith in omega (arith, two, pow_pos n)

flagged-ends : (huffman : Bool) → IsEndable (λ b. read_then b (int_at 7 b) (octets_at huffman))
flagged-ends huffman = then-ends (octets_at huffman) (octets-second huffman) (int_at 7) (number-reader 7) (number-ends 7 (zero-whole 7 (omega arith)))

string-ends : IsEndable string_at
unfolding string_at
string-ends [] e = record { more = 0 ∷ []; one = record { huffman = false; octets = [] }; whole = ap (λ y. read_then (0 ∷ []) y (octets_at false)) (zero-whole 7 (omega arith)) }
string-ends (o ∷ b) e = let x = flagged-ends (leb 128 o) (o ∷ b) e in record { more = x.more; one = x.one; whole = x.whole }

string-start : string_at [] ≡ TooLong → ⊥
unfolding string_at
string-start e = cc

map-start : {A B : Type 0} (f : A → B) (r : Read A) → (r ≡ TooLong → ⊥) → read_map f r ≡ TooLong → ⊥
map-start f (Whole a used) h e = cc
map-start f More h e = cc
map-start f TooLong h e = h refl

name-ends : (i : ℕ) → IsEndable (name_by i)
name-ends zero = map-ends Named string_at string-ends
name-ends (suc i) = λ b e. absurd cc

name-start : (i : ℕ) → name_by i [] ≡ TooLong → ⊥
name-start zero = map-start Named (string_at []) string-start
name-start (suc i) = λ e. cc

name-second : IsSecond name_by
name-second = record { readers = name-reader; endable = name-ends; starts = name-start }

value-second : (mode : Mode) → IsSecond (value_at mode)
value-second mode = record {
  readers = value-reader mode;
  endable = λ name. map-ends (Literal mode name) string_at string-ends;
  starts = λ name. map-start (Literal mode name) (string_at []) string-start;
}

prefix-some : (mode : Mode) → 0 < mode_prefix mode
prefix-some IncrementalIndexing = omega arith
prefix-some WithoutIndexing = omega arith
prefix-some NeverIndexed = omega arith

literal-ends : (mode : Mode) → IsEndable (literal_at mode)
literal-ends mode =
    let n = mode_prefix mode in
    let name : List ℕ → Read (NameRef Str) = λ b. read_then b (int_at n b) name_by in
    then-ends (value_at mode) (value-second mode) name (then-reader name_by name-reader (int_at n) (number-reader n))
    (then-ends name_by name-second (int_at n) (number-reader n) (number-ends n (zero-whole n (prefix-some mode))))

-- ---- instructions

choice-ends : {A : Type 0} (t : Bool) (p q : List ℕ → Read A) → IsEndable p → IsEndable q → IsEndable (λ b. cond t (p b) (q b))
choice-ends true p q r s = r
choice-ends false p q r s = s

by-ends : (o : ℕ) → IsEndable (instr_by o)
by-ends o =
    choice-ends (leb 128 o) (λ b. read_map Indexed (int_at 7 b)) _ (map-ends Indexed (int_at 7) (number-ends 7 (zero-whole 7 (omega arith))))
    (choice-ends (leb 64 o) (literal_at IncrementalIndexing) _ (literal-ends IncrementalIndexing)
    (choice-ends (leb 32 o) (λ b. read_map Update (int_at 5 b)) _ (map-ends Update (int_at 5) (number-ends 5 (zero-whole 5 (omega arith))))
    (choice-ends (leb 16 o) (literal_at NeverIndexed) (literal_at WithoutIndexing) (literal-ends NeverIndexed) (literal-ends WithoutIndexing))))

pub instr-ends : (b : List ℕ) → instr_at b ≡ More → CanEnd instr_at b
unfolding instr_at int_at
instr-ends [] e = record { more = 130 ∷ []; one = Indexed 2; whole = refl }
instr-ends (o ∷ b) e = let x = by-ends o (o ∷ b) e in record { more = x.more; one = x.one; whole = x.whole }

-- what is ended only by octets more is a beginning
pub begins : (b c : List ℕ) (shape : Shape) → 0 < length c → instr_at (b ++ c) ≡ Whole shape (length (b ++ c)) → instr_at b ≡ More
begins b c shape h e = at (instr_at b) (instr-stays b c) (instr-within b)
  where
    at : (r : Read Shape) → Stays r (instr_at (b ++ c)) → Within (length b) r → r ≡ More
    at (Whole a used) s w =
        let same : Whole a used ≡ Whole shape (length (b ++ c)) = sym s ∙ e in
        let count : used ≡ length (b ++ c) = cc in
        absurd (omega (arith, w, count, h, length-append b c))
    at More s w = refl
    at TooLong s w = let clash : TooLong ≡ Whole shape (length (b ++ c)) = sym s ∙ e in absurd cc
