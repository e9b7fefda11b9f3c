-- The five forms are what is read as an instruction, and nothing else is.
use Rattle.std.proofs.Common.{◌≡◌, ℕ, zero, suc, ◌+◌, ◌/◌, ◌^◌, ◌<◌, ◌≤◌, Bool, true, false, cond, List, [], ◌∷◌, ◌++◌, length, take, drop, refl, sym, ap, subst, ◌∙◌, arith, leb, leb-true, leb-false, le-leb, length-append, length-drop, append_assoc, Some}
use Rattle.std.proofs.lemmas.Bool.{lt-leb}
use Rattle.std.proofs.lemmas.List.{append-nil, drop_at, length-take-le, take_all}
use Rattle.std.proofs.Math.Seq.{take-add}
use Rattle.hex.specs.Hex.{IsBytes}
use Rattle.h2_spec.specs.Hpack.Integer.{IsInt, IsReadOf, int_at}
use Rattle.h2_spec.specs.Read.{Read, Whole, More, TooLong, read_map}
use Rattle.h2_spec.specs.Hpack.Instruction.{Mode, IncrementalIndexing, WithoutIndexing, NeverIndexed, NameRef, Ref, Named, Indexed, Update, Literal, Str, Shape, Instruction, read_past, read_then, octets_at, string_at, mode_prefix, name_by, value_at, literal_at, instr_by, instr_at, instruction_at}
use Rattle.h2_spec.proofs.IntegerLaws.{int_read, int_whole}
use Rattle.h2_spec.proofs.InstructionTexts.{spelling-read, read-spelling}
use Rattle.h2_spec.proofs.InstructionWriting.{enough, string-first, first-of, by-indexed, by-update, by-mode}
use Rattle.h2_spec.proofs.ScriptTexts.{bytes_after, bytes_below}
use Rattle.h2_spec_laws.specs.Forms.{IsMarked, IsMarkedInt, huffman_bit, IsString, index_bits, literal_mark, IsName, IsForm, IsFormOf}

-- ---- a form is read

-- the first octet, and what its bits say of it
record Begun (n bits : ℕ) (b : List ℕ) : Type 0 where
  octet : ℕ
  rest : List ℕ
  is : b ≡ octet ∷ rest
  marked : octet / 2 ^ n ≡ bits

begun : (n bits : ℕ) (b : List ℕ) → IsMarked n bits b → Begun n bits b
begun n bits [] m = absurd m
begun n bits (o ∷ os) m = record { octet = o; rest = os; is = refl; marked = m }

with-more : (n bits : ℕ) (b c : List ℕ) → Begun n bits b → Begun n bits (b ++ c)
with-more n bits b c f = record { octet = f.octet; rest = f.rest ++ c; is = ap (λ x. x ++ c) f.is; marked = f.marked }

flag-read : (h : Bool) (o : ℕ) → o / 2 ^ 7 ≡ huffman_bit h → leb 128 o ≡ h
flag-read true o e = le-leb 128 o (omega arith)
flag-read false o e = lt-leb 128 o (omega arith)

string-read : (s : Str) (b more : List ℕ) → IsString s b → string_at (b ++ more) ≡ Whole s (length b)
string-read s b more f =
    let all : b ++ more ≡ f.size ++ (s.octets ++ more) = ap (λ x. x ++ more) f.spelled ∙ append_assoc f.size s.octets more in
    let first = with-more 7 (huffman_bit s.huffman) f.size (s.octets ++ more) (begun 7 (huffman_bit s.huffman) f.size f.sized.0) in
    let c : List ℕ = f.size ++ (s.octets ++ more) in
    ap string_at all
    ∙ string-first c first.rest first.octet s.huffman first.is (flag-read s.huffman first.octet first.marked)
    ∙ ap (λ r. read_then c r (octets_at s.huffman)) (int_whole 7 (length s.octets) f.size (s.octets ++ more) f.sized.1)
    ∙ ap (λ x. read_past (length f.size) (octets_at s.huffman (length s.octets) x)) (drop_at f.size (s.octets ++ more) (length f.size) refl)
    ∙ ap (read_past (length f.size)) (enough s.huffman s.octets more)
    ∙ ap (Whole s) (sym (length-append f.size s.octets) ∙ ap length (sym f.spelled))

same_bits : (mode : Mode) → index_bits mode ≡ mode_prefix mode
same_bits IncrementalIndexing = refl
same_bits WithoutIndexing = refl
same_bits NeverIndexed = refl

index-read : (mode : Mode) (v : ℕ) (b more : List ℕ) → IsInt (index_bits mode) v b → int_at (mode_prefix mode) (b ++ more) ≡ Whole v (length b)
index-read mode v b more i = int_whole (mode_prefix mode) v b more (subst (λ n. IsInt n v b) (same_bits mode) i)

name-read : (mode : Mode) (name : NameRef Str) (b more : List ℕ) → IsName mode name b → read_then (b ++ more) (int_at (mode_prefix mode) (b ++ more)) name_by ≡ Whole name (length b)
name-read mode (Ref zero) b more f = absurd (omega (arith, f.0))
name-read mode (Ref (suc j)) b more f =
    let all : length b + 0 ≡ length b = omega arith in
    ap (λ r. read_then (b ++ more) r name_by) (index-read mode (suc j) b more f.1.1) ∙ ap (Whole (Ref (suc j))) all
name-read mode (Named s) b more f =
    let index = f.0 in
    let string = f.1 in
    let all : b ++ more ≡ index ++ (string ++ more) = ap (λ x. x ++ more) f.2 ∙ append_assoc index string more in
    let c : List ℕ = index ++ (string ++ more) in
    ap (λ x. read_then x (int_at (mode_prefix mode) x) name_by) all
    ∙ ap (λ r. read_then c r name_by) (index-read mode 0 index (string ++ more) f.3.1)
    ∙ ap (λ x. read_past (length index) (read_map Named (string_at x))) (drop_at index (string ++ more) (length index) refl)
    ∙ ap (λ r. read_past (length index) (read_map Named r)) (string-read s string more f.4)
    ∙ ap (Whole (Named s)) (sym (length-append index string) ∙ ap length (sym f.2))

mode-read : (mode : Mode) (o : ℕ) (b : List ℕ) → o / 2 ^ index_bits mode ≡ literal_mark mode → instr_by o b ≡ literal_at mode b
mode-read IncrementalIndexing o b e = by-mode IncrementalIndexing o b (omega arith) (omega arith)
mode-read WithoutIndexing o b e = by-mode WithoutIndexing o b (omega arith) (omega arith)
mode-read NeverIndexed o b e = by-mode NeverIndexed o b (omega arith) (omega arith)

-- the first octet of a name is the mark of its literal
name-marked : (mode : Mode) (name : NameRef Str) (b : List ℕ) → IsName mode name b → Begun (index_bits mode) (literal_mark mode) b
name-marked mode (Ref i) b f = begun (index_bits mode) (literal_mark mode) b f.1.0
name-marked mode (Named s) b f =
    let first = with-more (index_bits mode) (literal_mark mode) f.0 f.1 (begun (index_bits mode) (literal_mark mode) f.0 f.3.0) in
    record { octet = first.octet; rest = first.rest; is = f.2 ∙ first.is; marked = first.marked }

literal-read : (mode : Mode) (name : NameRef Str) (value : Str) (b more : List ℕ) → IsForm (Literal mode name value) b → instr_at (b ++ more) ≡ Whole (Literal mode name value) (length b)
literal-read mode name value b more f =
    let front = f.0 in
    let behind = f.1 in
    let all : b ++ more ≡ front ++ (behind ++ more) = ap (λ x. x ++ more) f.2 ∙ append_assoc front behind more in
    let c : List ℕ = front ++ (behind ++ more) in
    let first = with-more (index_bits mode) (literal_mark mode) front (behind ++ more) (name-marked mode name front f.3) in
    ap instr_at all
    ∙ first-of c first.rest first.octet first.is
    ∙ mode-read mode first.octet c first.marked
    ∙ ap (λ r. read_then c r (value_at mode)) (name-read mode name front (behind ++ more) f.3)
    ∙ ap (λ x. read_past (length front) (read_map (Literal mode name) (string_at x))) (drop_at front (behind ++ more) (length front) refl)
    ∙ ap (λ r. read_past (length front) (read_map (Literal mode name) r)) (string-read value behind more f.4)
    ∙ ap (Whole (Literal mode name value)) (sym (length-append front behind) ∙ ap length (sym f.2))

pub form-read : (shape : Shape) (b more : List ℕ) → IsForm shape b → instr_at (b ++ more) ≡ Whole shape (length b)
form-read (Indexed i) b more f =
    let first = with-more 7 1 b more (begun 7 1 b f.0) in
    let e = first.marked in
    first-of (b ++ more) first.rest first.octet first.is ∙ by-indexed first.octet (b ++ more) (omega arith) ∙ ap (read_map Indexed) (int_whole 7 i b more f.1)
form-read (Update n) b more f =
    let first = with-more 5 1 b more (begun 5 1 b f.0) in
    let e = first.marked in
    first-of (b ++ more) first.rest first.octet first.is ∙ by-update first.octet (b ++ more) (omega arith) (omega arith) ∙ ap (read_map Update) (int_whole 5 n b more f.1)
form-read (Literal mode name value) b more f = literal-read mode name value b more f

-- ---- what is read is a form

-- what is read at the front of octets is spelled there
abbrev Spelled : {A : Type 0} → (A → List ℕ → Type 0) → List ℕ → Read A → Type 0
Spelled P b (Whole a used) = (used ≤ length b) × P a (take used b)
Spelled P b More = Unit {0}
Spelled P b TooLong = Unit {0}

-- an integer has an octet or more, and its first one is that of the octets
int-marked : (n bits v used : ℕ) (o : ℕ) (xs : List ℕ) → o / 2 ^ n ≡ bits → IsInt n v (take used (o ∷ xs)) → IsMarkedInt n bits v (take used (o ∷ xs))
int-marked n bits v zero o xs e i = absurd i
int-marked n bits v (suc used) o xs e i = (e, i)

int-spelled : (n bits : ℕ) (o : ℕ) (xs : List ℕ) → o / 2 ^ n ≡ bits → Spelled (λ v b. IsMarkedInt n bits v b) (o ∷ xs) (int_at n (o ∷ xs))
int-spelled n bits o xs e = at (int_at n (o ∷ xs)) (int_read n (o ∷ xs))
  where
    at : (r : Read ℕ) → IsReadOf n (o ∷ xs) r → Spelled (λ v b. IsMarkedInt n bits v b) (o ∷ xs) r
    at (Whole v used) h = (h.0, int-marked n bits v used o xs e h.1)
    at More h = tt
    at TooLong h = tt

flag-spelled : (o : ℕ) → o < 256 → o / 2 ^ 7 ≡ huffman_bit (leb 128 o)
flag-spelled o h = at (leb 128 o) refl
  where
    at : (b : Bool) → leb 128 o ≡ b → o / 2 ^ 7 ≡ huffman_bit b
    at true e = let large = leb-true 128 o e in omega arith
    at false e = let small = leb-false 128 o e in omega arith

string-spelled : (b : List ℕ) → IsBytes b → Spelled IsString b (string_at b)
unfolding string_at
string-spelled [] h = tt
string-spelled (o ∷ xs) h = at (int_at 7 (o ∷ xs)) (int-spelled 7 (huffman_bit (leb 128 o)) o xs (flag-spelled o (h 0)))
  where
    b : List ℕ
    b = o ∷ xs

    octets : (n used : ℕ) → used ≤ length b → IsMarkedInt 7 (huffman_bit (leb 128 o)) n (take used b) → (t : Bool) → leb n (length (drop used b)) ≡ t →
        Spelled IsString b (read_past used (cond t (Whole (record { huffman = leb 128 o; octets = take n (drop used b) }) n) More))
    octets n used few i false e = tt
    octets n used few i true e =
        let enough : n ≤ length (drop used b) = leb-true n (length (drop used b)) e in
        let count : length (take n (drop used b)) ≡ n = length-take-le n (drop used b) enough in (
          omega (arith, few, enough, length-drop used b),
          record {
            size = take used b;
            spelled = take-add used n b;
            sized = subst (λ m. IsMarkedInt 7 (huffman_bit (leb 128 o)) m (take used b)) (sym count) i;
          },
        )

    at : (r : Read ℕ) → Spelled (λ v b. IsMarkedInt 7 (huffman_bit (leb 128 o)) v b) b r → Spelled IsString b (read_then b r (octets_at (leb 128 o)))
    at (Whole n used) i = octets n used i.0 i.1 (leb n (length (drop used b))) refl
    at More i = tt
    at TooLong i = tt

name-spelled : (mode : Mode) (o : ℕ) (xs : List ℕ) → IsBytes (o ∷ xs) → o / 2 ^ index_bits mode ≡ literal_mark mode →
    Spelled (IsName mode) (o ∷ xs) (read_then (o ∷ xs) (int_at (mode_prefix mode) (o ∷ xs)) name_by)
name-spelled mode o xs h e = at (int_at (mode_prefix mode) (o ∷ xs)) (subst (λ n. Spelled (λ v b. IsMarkedInt (index_bits mode) (literal_mark mode) v b) b (int_at n b)) (same_bits mode) (int-spelled (index_bits mode) (literal_mark mode) o xs e))
  where
    b : List ℕ
    b = o ∷ xs

    text : (used : ℕ) → used ≤ length b → IsMarkedInt (index_bits mode) (literal_mark mode) 0 (take used b) → (r : Read Str) → Spelled IsString (drop used b) r →
        Spelled (IsName mode) b (read_past used (read_map Named r))
    text used few i (Whole s more) k = (omega (arith, few, k.0, length-drop used b), (take used b, take more (drop used b), take-add used more b, i, k.1))
    text used few i More k = tt
    text used few i TooLong k = tt

    at : (r : Read ℕ) → Spelled (λ v b. IsMarkedInt (index_bits mode) (literal_mark mode) v b) b r → Spelled (IsName mode) b (read_then b r name_by)
    at (Whole zero used) i = text used i.0 i.1 (string_at (drop used b)) (string-spelled (drop used b) (bytes_after used b h))
    at (Whole (suc j) used) i =
        let all : used + 0 ≡ used = omega arith in
        rw all (i.0, (omega arith, i.1))
    at More i = tt
    at TooLong i = tt

literal-spelled : (mode : Mode) (o : ℕ) (xs : List ℕ) → IsBytes (o ∷ xs) → o / 2 ^ index_bits mode ≡ literal_mark mode → Spelled IsForm (o ∷ xs) (literal_at mode (o ∷ xs))
literal-spelled mode o xs h e = at (read_then b (int_at (mode_prefix mode) b) name_by) (name-spelled mode o xs h e)
  where
    b : List ℕ
    b = o ∷ xs

    value : (name : NameRef Str) (used : ℕ) → used ≤ length b → IsName mode name (take used b) → (r : Read Str) → Spelled IsString (drop used b) r →
        Spelled IsForm b (read_past used (read_map (Literal mode name) r))
    value name used few i (Whole s more) k = (omega (arith, few, k.0, length-drop used b), (take used b, take more (drop used b), take-add used more b, i, k.1))
    value name used few i More k = tt
    value name used few i TooLong k = tt

    at : (r : Read (NameRef Str)) → Spelled (IsName mode) b r → Spelled IsForm b (read_then b r (value_at mode))
    at (Whole name used) i = value name used i.0 i.1 (string_at (drop used b)) (string-spelled (drop used b) (bytes_after used b h))
    at More i = tt
    at TooLong i = tt

indexed-spelled : (o : ℕ) (xs : List ℕ) → o / 2 ^ 7 ≡ 1 → Spelled IsForm (o ∷ xs) (read_map Indexed (int_at 7 (o ∷ xs)))
indexed-spelled o xs e = at (int_at 7 (o ∷ xs)) (int-spelled 7 1 o xs e)
  where
    at : (r : Read ℕ) → Spelled (λ v b. IsMarkedInt 7 1 v b) (o ∷ xs) r → Spelled IsForm (o ∷ xs) (read_map Indexed r)
    at (Whole v used) i = i
    at More i = tt
    at TooLong i = tt

update-spelled : (o : ℕ) (xs : List ℕ) → o / 2 ^ 5 ≡ 1 → Spelled IsForm (o ∷ xs) (read_map Update (int_at 5 (o ∷ xs)))
update-spelled o xs e = at (int_at 5 (o ∷ xs)) (int-spelled 5 1 o xs e)
  where
    at : (r : Read ℕ) → Spelled (λ v b. IsMarkedInt 5 1 v b) (o ∷ xs) r → Spelled IsForm (o ∷ xs) (read_map Update r)
    at (Whole v used) i = i
    at More i = tt
    at TooLong i = tt

shape-spelled : (b : List ℕ) → IsBytes b → Spelled IsForm b (instr_at b)
unfolding instr_at
shape-spelled [] h = tt
shape-spelled (o ∷ xs) h = at (leb 128 o) (leb 64 o) (leb 32 o) (leb 16 o) refl refl refl refl
  where
    b : List ℕ
    b = o ∷ xs

    small : o < 256
    small = h 0

    at : (p q r s : Bool) → leb 128 o ≡ p → leb 64 o ≡ q → leb 32 o ≡ r → leb 16 o ≡ s →
        Spelled IsForm b (cond p (read_map Indexed (int_at 7 b)) (cond q (literal_at IncrementalIndexing b) (cond r (read_map Update (int_at 5 b)) (cond s (literal_at NeverIndexed b) (literal_at WithoutIndexing b)))))
    at true q r s e f g k = let a = leb-true 128 o e in indexed-spelled o xs (omega (arith, small))
    at false true r s e f g k = let a = leb-false 128 o e in let c = leb-true 64 o f in literal-spelled IncrementalIndexing o xs h (omega arith)
    at false false true s e f g k = let a = leb-false 64 o f in let c = leb-true 32 o g in update-spelled o xs (omega arith)
    at false false false true e f g k = let a = leb-false 32 o g in let c = leb-true 16 o k in literal-spelled NeverIndexed o xs h (omega arith)
    at false false false false e f g k = let a = leb-false 16 o k in literal-spelled WithoutIndexing o xs h (omega arith)

pub read-form : (b : List ℕ) (shape : Shape) (used : ℕ) → IsBytes b → instr_at b ≡ Whole shape used → IsForm shape (take used b)
read-form b shape used h e = (subst (Spelled IsForm b) e (shape-spelled b h)).1

-- ---- by the texts

pub text-read : (i : Instruction) (b more : List ℕ) → IsFormOf i b → instruction_at (b ++ more) ≡ Whole (Some i) (length b)
text-read i b more f =
    let whole : instr_at b ≡ Whole f.0 (length b) = ap instr_at (sym (append-nil b)) ∙ form-read f.0 b [] f.1 in
    spelling-read i b more (f.0, whole, f.2)

pub read-text : (b : List ℕ) (i : Instruction) (used : ℕ) → IsBytes b → instruction_at b ≡ Whole (Some i) used → IsFormOf i (take used b)
read-text b i used h e =
    let s = read-spelling b i used e in
    let front : List ℕ = take used b in
    (s.0, subst (IsForm s.0) (take_all (length front) front (omega arith)) (read-form front s.0 (length front) (bytes_below used b h) s.1), s.2)
