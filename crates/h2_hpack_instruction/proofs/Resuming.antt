-- Reading an instruction on from what is known of it: one integer or one string further, whatever comes after.
use Rattle.std.proofs.Common.{◌≡◌, ℕ, zero, suc, ◌+◌, ◌<◌, ◌≤◌, Bool, List, [], ◌∷◌, ◌++◌, length, take, drop, Result, Ok, Err, refl, ap, sym, ◌∙◌, subst, arith, le-leb, length-append, length-drop}
use Rattle.std.proofs.lemmas.List.{append-nil, drop-append-le, drop-drop, take-append-le}
use Rattle.h2_spec.specs.Hpack.Integer.{int_at, IsReadOf, IsUnfinished}
use Rattle.h2_spec.specs.Read.{Read, Whole, More, TooLong, read_map}
use Rattle.h2_spec.specs.Hpack.Instruction as spec
use Rattle.h2_spec.specs.Hpack.Instruction.{Str, NameRef, mode_prefix, read_past, read_then, octets_at, string_at, name_by, value_at, literal_at, instr_by, instr_at}
use Rattle.h2_spec.proofs.InstructionLaws.{Stays, number-reader}
use Rattle.h2_spec.proofs.IntegerLaws as integers
use Rattle.h2_prim.specs.Readings.{int_read}
use Rattle.h2_prim.specs.declared.integer.IntRead.{IntRead}
use Rattle.h2_prim.specs.declared.integer.IntRead.TheVariants as int
use Rattle.h2_hpack_instruction.specs.Resume.{Begun, Nothing, NameLength, NameOctets, ValueLength, ValueOctets, read_on, resumed, SameOn, BeginsLiteral, huffman_flag, name_at, begun_of, IsNameBefore, IsKnownBefore, IsPoint, IsIntegerAt, IsStopped, IsReadOn}
use Rattle.h2_hpack_instruction.specs.declared.shape.PartialName.{PartialName}
use Rattle.h2_hpack_instruction.specs.declared.shape.PartialName.TheVariants as name
use Rattle.h2_hpack_instruction.specs.declared.shape.Point.{Point}
use Rattle.h2_hpack_instruction.specs.declared.shape.Shape.{Shape}
use Rattle.h2_hpack_instruction.specs.declared.shape.ShapeFault.{ShapeFault}
use Rattle.h2_hpack_instruction.specs.declared.shape.ShapeFault.TheVariants as cut

-- ---- one thing after another

pub past-zero : {A : Type 0} (r : Read A) → read_past 0 r ≡ r
past-zero (Whole a k) = let e : 0 + k ≡ k = omega arith in ap (Whole a) e
past-zero More = refl
past-zero TooLong = refl

past-past : {A : Type 0} (m n : ℕ) (r : Read A) → read_past m (read_past n r) ≡ read_past (m + n) r
past-past m n (Whole a k) = let e : m + (n + k) ≡ m + n + k = omega arith in ap (Whole a) e
past-past m n More = refl
past-past m n TooLong = refl

then-past : {A B : Type 0} (xs : List ℕ) (n : ℕ) (r : Read A) (f : A → List ℕ → Read B) → read_then xs (read_past n r) f ≡ read_past n (read_then (drop n xs) r f)
then-past xs n (Whole a k) f = ap (λ ys. read_past (n + k) (f a ys)) (sym (drop-drop k n xs)) ∙ sym (past-past n k (f a (drop k (drop n xs))))
then-past xs n More f = refl
then-past xs n TooLong f = refl

map-past : {A B : Type 0} (f : A → B) (n : ℕ) (r : Read A) → read_map f (read_past n r) ≡ read_past n (read_map f r)
map-past f n (Whole a k) = refl
map-past f n More = refl
map-past f n TooLong = refl

-- ---- integers

-- how many octets an integer takes
pub integer-place : (n at : ℕ) (b : List ℕ) (r : IntRead) → at ≤ length b → int_read r ≡ int_at n (drop at b) → IsIntegerAt at (length b) r
integer-place n at b r h e = place r (subst (IsReadOf n (drop at b)) (sym e) (integers.int_read n (drop at b)))
  where
    place : (r : IntRead) → IsReadOf n (drop at b) (int_read r) → IsIntegerAt at (length b) r
    place (int.Whole v zero) k = absurd k.1
    place (int.Whole v (suc used)) k = (omega arith, omega (arith, h, k.0, length-drop at b))
    place int.More k = let few = short (drop at b) k in omega (arith, few, h, length-drop at b)
      where
        short : (xs : List ℕ) → IsUnfinished n xs → length xs ≤ 5
        short [] k = omega arith
        short (o ∷ cs) k = omega (arith, k.2)
    place int.TooLong k = tt

stays : (n : ℕ) (b c : List ℕ) (v used : ℕ) → int_at n b ≡ Whole v used → int_at n (b ++ c) ≡ Whole v used
stays n b c v used e = subst (λ r. Stays r (int_at n (b ++ c))) e ((number-reader n).stays b c)

-- ---- strings

-- a string by its flag and its length
flagged : (xs : List ℕ) → string_at xs ≡ read_then xs (int_at 7 xs) (octets_at (huffman_flag xs))
unfolding string_at int_at
flagged [] = refl
flagged (o ∷ xs) = refl

flag-stays : (xs c : List ℕ) (n used : ℕ) → int_at 7 xs ≡ Whole n used → huffman_flag (xs ++ c) ≡ huffman_flag xs
unfolding int_at
flag-stays [] c n used e = absurd cc
flag-stays (o ∷ xs) c n used e = refl

length-decides : (xs : List ℕ) (n used : ℕ) → int_at 7 xs ≡ Whole n used → string_at xs ≡ read_past used (octets_at (huffman_flag xs) n (drop used xs))
length-decides xs n used e = flagged xs ∙ ap (λ r. read_then xs r (octets_at (huffman_flag xs))) e

string-more : (xs : List ℕ) → More ≡ int_at 7 xs → string_at xs ≡ More
string-more xs e = flagged xs ∙ ap (λ r. read_then xs r (octets_at (huffman_flag xs))) (sym e)

string-too_long : (xs : List ℕ) → TooLong ≡ int_at 7 xs → string_at xs ≡ TooLong
string-too_long xs e = flagged xs ∙ ap (λ r. read_then xs r (octets_at (huffman_flag xs))) (sym e)

-- ---- one step further, whatever comes after

pub same-start : (b : List ℕ) (k : Begun) (at : ℕ) → SameOn b k at k at
same-start b k at c = refl

same-here : (b : List ℕ) (k l : Begun) (at to : ℕ) → SameOn b k at l to → resumed l to b ≡ resumed k at b
same-here b k l at to s = subst (λ xs. resumed l to xs ≡ resumed k at xs) (append-nil b) (s [])

-- a step after that many octets is a step of all
behind : (b : List ℕ) (at : ℕ) (k l : Begun) (used : ℕ) → at ≤ length b → ((c : List ℕ) → read_on k (drop at b ++ c) ≡ resumed l used (drop at b ++ c)) → SameOn b k at l (at + used)
behind b at k l used h f c =
    let cut : drop at (b ++ c) ≡ drop at b ++ c = drop-append-le at b c h in
    sym (ap (read_past at) (ap (read_on k) cut ∙ f c ∙ ap (λ xs. read_past used (read_on l (drop used xs))) (sym cut))
    ∙ past-past at used (read_on l (drop used (drop at (b ++ c)))) ∙ ap (λ xs. read_past (at + used) (read_on l xs)) (drop-drop used at (b ++ c)))

-- the length of a value is whole
pub value-length : (b : List ℕ) (at : ℕ) (mode : spec.Mode) (name : NameRef Str) (n used : ℕ) → at ≤ length b → Whole n used ≡ int_at 7 (drop at b) →
    SameOn b (ValueLength mode name) at (ValueOctets mode name (huffman_flag (drop at b)) n) (at + used)
value-length b at mode name n used h e = behind b at (ValueLength mode name) (ValueOctets mode name (huffman_flag xs) n) used h
    (λ c.
    ap (read_map (spec.Literal mode name)) (length-decides (xs ++ c) n used (stays 7 xs c n used (sym e)) ∙ ap (λ f. read_past used (octets_at f n (drop used (xs ++ c)))) (flag-stays xs c n used (sym e)))
    ∙ map-past (spec.Literal mode name) used (octets_at (huffman_flag xs) n (drop used (xs ++ c))))
  where
    xs : List ℕ
    xs = drop at b

-- the length of a name is whole
pub name-length : (b : List ℕ) (at : ℕ) (mode : spec.Mode) (n used : ℕ) → at ≤ length b → Whole n used ≡ int_at 7 (drop at b) →
    SameOn b (NameLength mode) at (NameOctets mode (huffman_flag (drop at b)) n) (at + used)
name-length b at mode n used h e = behind b at (NameLength mode) (NameOctets mode (huffman_flag xs) n) used h
    (λ c.
    let name = octets_at (huffman_flag xs) n (drop used (xs ++ c)) in
    ap (λ r. read_then (xs ++ c) (read_map spec.Named r) (value_at mode)) (length-decides (xs ++ c) n used (stays 7 xs c n used (sym e)) ∙ ap (λ f. read_past used (octets_at f n (drop used (xs ++ c)))) (flag-stays xs c n used (sym e)))
    ∙ ap (λ r. read_then (xs ++ c) r (value_at mode)) (map-past spec.Named used name)
    ∙ then-past (xs ++ c) used (read_map spec.Named name) (value_at mode))
  where
    xs : List ℕ
    xs = drop at b

-- the octets of a name are whole
pub name-whole : (b : List ℕ) (at : ℕ) (mode : spec.Mode) (huffman : Bool) (n : ℕ) → at ≤ length b → n ≤ length (drop at b) →
    SameOn b (NameOctets mode huffman n) at (ValueLength mode (name_at b (name.Named huffman at n))) (at + n)
name-whole b at mode huffman n h e = behind b at (NameOctets mode huffman n) (next (take n (drop at b))) n h
    (λ c.
    let whole : n ≤ length (drop at b ++ c) = omega (arith, e, length-append (drop at b) c) in
    rw (le-leb n (length (drop at b ++ c)) whole) (ap (λ xs. resumed (next xs) n (drop at b ++ c)) (take-append-le n (drop at b) c e)))
  where
    next : List ℕ → Begun
    next xs = ValueLength mode (spec.Named (record { huffman = huffman; octets = xs }))

-- a literal whose name is spelled
pub spelled-name : (b : List ℕ) (mode : spec.Mode) (used : ℕ) → BeginsLiteral b mode → Whole 0 used ≡ int_at (mode_prefix mode) b → SameOn b Nothing 0 (NameLength mode) used
spelled-name b mode used by e c =
    sym (past-zero (instr_at (b ++ c)) ∙ by c
    ∙ ap (λ r. read_then (b ++ c) (read_then (b ++ c) r name_by) (value_at mode)) (stays (mode_prefix mode) b c 0 used (sym e))
    ∙ then-past (b ++ c) used (read_map spec.Named (string_at (drop used (b ++ c)))) (value_at mode))

-- a literal whose name is an index
pub indexed-name : (b : List ℕ) (mode : spec.Mode) (i used : ℕ) → 0 < i → BeginsLiteral b mode → Whole i used ≡ int_at (mode_prefix mode) b → SameOn b Nothing 0 (ValueLength mode (spec.Ref i)) used
indexed-name b mode zero used h by e c = absurd (omega arith)
indexed-name b mode (suc i) used h by e c =
    let same : used + 0 ≡ used = omega arith in
    sym (past-zero (instr_at (b ++ c)) ∙ by c
    ∙ ap (λ r. read_then (b ++ c) (read_then (b ++ c) r name_by) (value_at mode)) (stays (mode_prefix mode) b c (suc i) used (sym e))
    ∙ ap (λ n. read_past n (value_at mode (spec.Ref (suc i)) (drop n (b ++ c)))) same)

literal-here : (b : List ℕ) (mode : spec.Mode) → BeginsLiteral b mode → instr_at b ≡ literal_at mode b
literal-here b mode by = subst (λ xs. instr_at xs ≡ literal_at mode xs) (append-nil b) (by [])

-- ---- the answers of the code

-- what is read on from further inside is read on from here
pub goes-on : (b : List ℕ) (k l : Begun) (at to passed more : ℕ) (r : Result (Shape × ℕ) ShapeFault) → SameOn b k at l to → passed ≤ more → IsReadOn b l to more r → IsReadOn b k at passed r
goes-on b k l at to passed more (Ok r) s h e =
    (sym (same-here b k l at to s) ∙ e.0, record { within = e.1.within; passed = omega (arith, h, e.1.passed); huffman = e.1.huffman })
goes-on b k l at to passed more (Err (cut.More next)) s h e =
    (sym (same-here b k l at to s) ∙ e.0, record { within = e.1.within; known = e.1.known; passed = e.1.passed; again = e.1.again; same = λ c. e.1.same c ∙ s c })
goes-on b k l at to passed more (Err cut.TooLong) s h e = sym (same-here b k l at to s) ∙ e

-- reading stops in the first integer
pub stops-at_start : (b : List ℕ) (p : Point) → IsPoint b p → p.passed ≡ 0 → length b ≤ 5 → IsStopped b Nothing 0 p
stops-at_start b p h e k = record { within = h.within; known = h.known; passed = omega (arith, e); again = omega (arith, k, e); same = h.same }

-- reading stops at the length of a name or a value
pub stops-at_length : (b : List ℕ) (p : Point) → p.at ≤ length b → length b ≤ p.at + 5 → p.passed ≡ p.at → IsKnownBefore p.at p.passed p.known → IsStopped b (begun_of b p.known) p.at p
stops-at_length b p h k e known = record { within = h; known = known; passed = omega (arith, h, e); again = omega (arith, k, e); same = same-start b (begun_of b p.known) p.at }

-- an instruction of one integer
pub announced : (n : ℕ) (same : ℕ → spec.Shape) (b : List ℕ) → ((c : List ℕ) → instr_at (b ++ c) ≡ read_map same (int_at n (b ++ c))) → resumed Nothing 0 b ≡ read_map same (int_at n b)
announced n same b by = past-zero (instr_at b) ∙ subst (λ xs. instr_at xs ≡ read_map same (int_at n xs)) (append-nil b) (by [])

-- an instruction that begins with an integer that is not whole
pub literal-more : (b : List ℕ) (mode : spec.Mode) → BeginsLiteral b mode → More ≡ int_at (mode_prefix mode) b → resumed Nothing 0 b ≡ More
literal-more b mode by e = past-zero (instr_at b) ∙ literal-here b mode by ∙ ap (λ r. read_then b (read_then b r name_by) (value_at mode)) (sym e)

pub literal-too_long : (b : List ℕ) (mode : spec.Mode) → BeginsLiteral b mode → TooLong ≡ int_at (mode_prefix mode) b → resumed Nothing 0 b ≡ TooLong
literal-too_long b mode by e = past-zero (instr_at b) ∙ literal-here b mode by ∙ ap (λ r. read_then b (read_then b r name_by) (value_at mode)) (sym e)

-- the length of a name or a value is not whole, or is too long
pub value-length-more : (b : List ℕ) (at : ℕ) (mode : spec.Mode) (name : NameRef Str) → More ≡ int_at 7 (drop at b) → resumed (ValueLength mode name) at b ≡ More
value-length-more b at mode name e = ap (λ r. read_past at (read_map (spec.Literal mode name) r)) (string-more (drop at b) e)

pub value-length-too_long : (b : List ℕ) (at : ℕ) (mode : spec.Mode) (name : NameRef Str) → TooLong ≡ int_at 7 (drop at b) → resumed (ValueLength mode name) at b ≡ TooLong
value-length-too_long b at mode name e = ap (λ r. read_past at (read_map (spec.Literal mode name) r)) (string-too_long (drop at b) e)

pub name-length-more : (b : List ℕ) (at : ℕ) (mode : spec.Mode) → More ≡ int_at 7 (drop at b) → resumed (NameLength mode) at b ≡ More
name-length-more b at mode e = ap (λ r. read_past at (read_then (drop at b) (read_map spec.Named r) (value_at mode))) (string-more (drop at b) e)

pub name-length-too_long : (b : List ℕ) (at : ℕ) (mode : spec.Mode) → TooLong ≡ int_at 7 (drop at b) → resumed (NameLength mode) at b ≡ TooLong
name-length-too_long b at mode e = ap (λ r. read_past at (read_then (drop at b) (read_map spec.Named r) (value_at mode))) (string-too_long (drop at b) e)

-- a name that is before a place is before one further on
pub name-further : (at to : ℕ) (name : PartialName) → at ≤ to → IsNameBefore at name → IsNameBefore to name
name-further at to (name.Ref i) h k = omega (arith, h, k)
name-further at to (name.Named huffman start n) h k = (k.0, omega (arith, h, k.1))

-- ---- what the first octet announces

pub first-announces : (b rest : List ℕ) (o : ℕ) → b ≡ o ∷ rest → (c : List ℕ) → instr_at (b ++ c) ≡ instr_by o (b ++ c)
unfolding instr_at
first-announces b rest o e c = rw e refl
