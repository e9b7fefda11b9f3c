-- What is written for an instruction is a spelling of it.
use Rattle.std.proofs.Common.{◌≡◌, ℕ, zero, suc, ◌+◌, ◌-◌, ◌%◌, ◌^◌, ◌<◌, ◌≤◌, Bool, true, false, cond, List, [], ◌∷◌, ◌++◌, length, drop, if◌then◌else◌, refl, sym, ap, ◌∙◌, arith, leb, le-leb, ltb, ltb-true, length-append, append_assoc}
use Rattle.std.proofs.lemmas.Bool.{lt-leb}
use Rattle.std.proofs.lemmas.List.{append-nil, drop_at, take_at}
use Rattle.std.proofs.lemmas.Nat.{pow_pos}
use Rattle.h2_spec.specs.Hpack.Huffman.{IsText}
use Rattle.h2_spec.specs.Hpack.Integer.{int_at, groups_of, spell_int}
use Rattle.h2_spec.specs.Hpack.Instruction.{Mode, IncrementalIndexing, WithoutIndexing, NeverIndexed, NameRef, Ref, Named, Indexed, Update, Literal, Str, TextStr, Shape, Instruction, read_past, read_then, octets_at, string_at, mode_prefix, mode_high, name_by, value_at, literal_at, instr_by, instr_at, RepresentsText, IsStringOf, IsNameOf, IsShapeOf, IsSpelling, coded, coded_str, coded_name, shape_of, spell_string, spell_name, spell, IsSpellable, IsSpellableName, IsNameText, HasTexts}
use Rattle.h2_spec.specs.Read.{Whole, read_map}
use Rattle.h2_spec.proofs.IntegerLaws.{spelled_read}
use Rattle.h2_spec.proofs.SpellingLaws as spelling

-- ---- the first octet of an integer

pub record First (n high : ℕ) (b : List ℕ) : Type 0 where
  pub octet : ℕ
  pub rest : List ℕ
  pub is : b ≡ octet ∷ rest
  pub above : high ≤ octet
  pub below : octet < high + 2 ^ n

int-first : (n high v : ℕ) → First n high (spell_int n high v)
unfolding spell_int
int-first n high v = at (ltb v (2 ^ n - 1)) refl
  where
    at : (t : Bool) → ltb v (2 ^ n - 1) ≡ t → First n high (cond t ((high + v) ∷ []) ((high + (2 ^ n - 1)) ∷ groups_of 5 (v - (2 ^ n - 1))))
    at true e = let small = ltb-true v (2 ^ n - 1) e in record { octet = high + v; rest = []; is = refl; above = omega arith; below = omega (arith, small) }
    at false e = record { octet = high + (2 ^ n - 1); rest = groups_of 5 (v - (2 ^ n - 1)); is = refl; above = omega arith; below = omega (arith, pow_pos n) }

with-rest : {n high : ℕ} {b : List ℕ} (c : List ℕ) → First n high b → First n high (b ++ c)
with-rest c f = record { octet = f.octet; rest = f.rest ++ c; is = ap (λ x. x ++ c) f.is; above = f.above; below = f.below }

-- ---- strings

pub enough : (h : Bool) (octets c : List ℕ) → octets_at h (length octets) (octets ++ c) ≡ Whole (record { huffman = h; octets = octets }) (length octets)
enough h octets c =
    let there : leb (length octets) (length (octets ++ c)) ≡ true = le-leb (length octets) (length (octets ++ c)) (omega (arith, length-append octets c)) in
    rw (there, take_at octets c (length octets) refl) refl

pub string-first : (b rest : List ℕ) (o : ℕ) (t : Bool) → b ≡ o ∷ rest → leb 128 o ≡ t → string_at b ≡ read_then b (int_at 7 b) (octets_at t)
unfolding string_at
string-first b rest o t e k = rw (e, k) refl

flag : (h : Bool) (o : ℕ) → (if h then 128 else 0) ≤ o → o < (if h then 128 else 0) + 2 ^ 7 → leb 128 o ≡ h
flag true o a b = le-leb 128 o a
flag false o a b = lt-leb 128 o b

high-bits : (h : Bool) → (if h then 128 else 0) % 2 ^ 7 ≡ 0
high-bits true = refl
high-bits false = refl

string-written : (h : Bool) (octets c : List ℕ) → length octets < 2 ^ 35 → string_at (spell_string h octets ++ c) ≡ Whole (record { huffman = h; octets = octets }) (length (spell_string h octets))
string-written h octets c small =
    let high = if h then 128 else 0 in
    let len = spell_int 7 high (length octets) in
    let b = spell_string h octets ++ c in
    let parts : b ≡ len ++ (octets ++ c) = append_assoc len octets c in
    let f = with-rest c (with-rest octets (int-first 7 high (length octets))) in
    let number : int_at 7 b ≡ Whole (length octets) (length len) = ap (int_at 7) parts ∙ spelled_read 7 high (length octets) (octets ++ c) (high-bits h) small in
    let rest : drop (length len) b ≡ octets ++ c = ap (drop (length len)) parts ∙ drop_at len (octets ++ c) (length len) refl in
    string-first b f.rest f.octet h f.is (flag h f.octet f.above f.below)
    ∙ ap (λ r. read_then b r (octets_at h)) number
    ∙ ap (λ x. read_past (length len) (octets_at h (length octets) x)) rest
    ∙ ap (read_past (length len)) (enough h octets c)
    ∙ ap (Whole (record { huffman = h; octets = octets })) (sym (length-append len octets))

-- ---- instructions by their first octet

pub first-of : (b rest : List ℕ) (o : ℕ) → b ≡ o ∷ rest → instr_at b ≡ instr_by o b
unfolding instr_at
first-of b rest o e = rw e refl

pub by-indexed : (o : ℕ) (b : List ℕ) → 128 ≤ o → instr_by o b ≡ read_map Indexed (int_at 7 b)
by-indexed o b h = rw (le-leb 128 o h) refl

pub by-update : (o : ℕ) (b : List ℕ) → 32 ≤ o → o < 64 → instr_by o b ≡ read_map Update (int_at 5 b)
by-update o b h k = rw (lt-leb 128 o (omega arith), lt-leb 64 o k, le-leb 32 o h) refl

pub by-mode : (mode : Mode) (o : ℕ) (b : List ℕ) → mode_high mode ≤ o → o < mode_high mode + 2 ^ mode_prefix mode → instr_by o b ≡ literal_at mode b
by-mode IncrementalIndexing o b h k = rw (lt-leb 128 o k, le-leb 64 o h) refl
by-mode WithoutIndexing o b h k = rw (lt-leb 128 o (omega arith), lt-leb 64 o (omega arith), lt-leb 32 o (omega arith), lt-leb 16 o k) refl
by-mode NeverIndexed o b h k = rw (lt-leb 128 o (omega arith), lt-leb 64 o (omega arith), lt-leb 32 o k, le-leb 16 o h) refl

mode-bits : (mode : Mode) → mode_high mode % 2 ^ mode_prefix mode ≡ 0
mode-bits IncrementalIndexing = refl
mode-bits WithoutIndexing = refl
mode-bits NeverIndexed = refl

-- ---- names and values

zero-index : (mode : Mode) (b : List ℕ) → int_at (mode_prefix mode) (mode_high mode ∷ b) ≡ Whole 0 1
unfolding int_at
zero-index IncrementalIndexing b = refl
zero-index WithoutIndexing b = refl
zero-index NeverIndexed b = refl

name-written : (mode : Mode) (name : NameRef Str) (s : List ℕ) → IsSpellableName name →
    read_then (spell_name mode name ++ s) (int_at (mode_prefix mode) (spell_name mode name ++ s)) name_by ≡ Whole name (length (spell_name mode name))
name-written mode (Ref zero) s h = absurd (omega (arith, h.0))
name-written mode (Ref (suc j)) s h =
    let index = spell_int (mode_prefix mode) (mode_high mode) (suc j) in
    let all : length index + 0 ≡ length index = omega arith in
    ap (λ r. read_then (index ++ s) r name_by) (spelled_read (mode_prefix mode) (mode_high mode) (suc j) s (mode-bits mode) h.1) ∙ ap (Whole (Ref (suc j))) all
name-written mode (Named t) s h =
    let text = spell_string t.huffman t.octets in
    let b = mode_high mode ∷ (text ++ s) in
    let all : 1 + length text ≡ suc (length text) = omega arith in
    ap (λ r. read_then b r name_by) (zero-index mode (text ++ s)) ∙ ap (λ r. read_past 1 (read_map Named r)) (string-written t.huffman t.octets s h) ∙ ap (Whole (Named t)) all

name-first : (mode : Mode) (name : NameRef Str) → First (mode_prefix mode) (mode_high mode) (spell_name mode name)
name-first mode (Ref i) = int-first (mode_prefix mode) (mode_high mode) i
name-first mode (Named t) = record { octet = mode_high mode; rest = spell_string t.huffman t.octets; is = refl; above = omega arith; below = omega (arith, pow_pos (mode_prefix mode)) }

string-alone : (t : Str) → length t.octets < 2 ^ 35 → string_at (spell_string t.huffman t.octets) ≡ Whole t (length (spell_string t.huffman t.octets))
string-alone t h = ap string_at (sym (append-nil (spell_string t.huffman t.octets))) ∙ string-written t.huffman t.octets [] h

literal-written : (mode : Mode) (name : NameRef Str) (value : Str) → IsSpellableName name → length value.octets < 2 ^ 35 →
    instr_at (spell_name mode name ++ spell_string value.huffman value.octets) ≡ Whole (Literal mode name value) (length (spell_name mode name ++ spell_string value.huffman value.octets))
literal-written mode name value h k =
    let n = spell_name mode name in
    let s = spell_string value.huffman value.octets in
    let f = with-rest s (name-first mode name) in
    first-of (n ++ s) f.rest f.octet f.is ∙ by-mode mode f.octet (n ++ s) f.above f.below
    ∙ ap (λ r. read_then (n ++ s) r (value_at mode)) (name-written mode name s h)
    ∙ ap (λ x. read_past (length n) (read_map (Literal mode name) (string_at x))) (drop_at n s (length n) refl)
    ∙ ap (λ r. read_past (length n) (read_map (Literal mode name) r)) (string-alone value k)
    ∙ ap (Whole (Literal mode name value)) (sym (length-append n s))

int-alone : (n high v : ℕ) → high % 2 ^ n ≡ 0 → v < 2 ^ 35 → int_at n (spell_int n high v) ≡ Whole v (length (spell_int n high v))
int-alone n high v e h = ap (int_at n) (sym (append-nil (spell_int n high v))) ∙ spelled_read n high v [] e h

indexed-written : (i : ℕ) → i < 2 ^ 35 → instr_at (spell_int 7 128 i) ≡ Whole (Indexed i) (length (spell_int 7 128 i))
indexed-written i h =
    let b = spell_int 7 128 i in
    let f = int-first 7 128 i in
    first-of b f.rest f.octet f.is ∙ by-indexed f.octet b f.above ∙ ap (read_map Indexed) (int-alone 7 128 i refl h)

update-written : (n : ℕ) → n < 2 ^ 35 → instr_at (spell_int 5 32 n) ≡ Whole (Update n) (length (spell_int 5 32 n))
update-written n h =
    let b = spell_int 5 32 n in
    let f = int-first 5 32 n in
    first-of b f.rest f.octet f.is ∙ by-update f.octet b f.above f.below ∙ ap (read_map Update) (int-alone 5 32 n refl h)

-- what is spelled for a shape is one whole spelling of it
pub shape-written : (shape : Shape) → IsSpellable shape → instr_at (spell shape) ≡ Whole shape (length (spell shape))
unfolding spell
shape-written (Indexed i) h = indexed-written i h
shape-written (Update n) h = update-written n h
shape-written (Literal mode name value) h = literal-written mode name value h.0 h.1

-- ---- an instruction by its texts

coded-represents : (huffman : Bool) (t : List ℕ) → IsText t → RepresentsText huffman (coded huffman t) t
coded-represents true t h = spelling.spelled t h
coded-represents false t h = refl

string-coded : (t : TextStr) → IsText t.text → IsStringOf (coded_str t) t
string-coded t h = (refl, coded-represents t.huffman t.text h)

name-coded : (name : NameRef TextStr) → IsNameText name → IsNameOf (coded_name name) name
name-coded (Ref i) h = refl
name-coded (Named t) h = (coded_str t, refl, string-coded t h)

shape-coded : (i : Instruction) → HasTexts i → IsShapeOf (shape_of i) i
shape-coded (Indexed i) h = refl
shape-coded (Update n) h = refl
shape-coded (Literal mode name value) h = (coded_name name, coded_str value, refl, name-coded name h.0, string-coded value h.1)

-- what is spelled for an instruction is one whole spelling of it
pub instruction-written : (i : Instruction) → IsSpellable (shape_of i) → HasTexts i → IsSpelling i (spell (shape_of i))
instruction-written i h t = (shape_of i, shape-written (shape_of i) h, shape-coded i t)
