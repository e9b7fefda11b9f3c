-- Instructions by their texts: each spelling is read, and what is written is a spelling.
use Rattle.std.proofs.Common.{◌≡◌, ℕ, Bool, true, false, List, ◌++◌, length, take, Option, Some, None, if◌then◌else◌, refl, sym, ap, ◌∙◌, subst}
use Rattle.std.proofs.lemmas.List.{length-take-le}
use Rattle.h2_spec.specs.Hpack.Huffman.{HuffRead, Text, Eos, Padding, IsHuffman, IsDecodingOf, huffman_text}
use Rattle.h2_spec.specs.Hpack.Instruction.{Mode, NameRef, Ref, Named, Indexed, Update, Literal, Str, TextStr, Shape, Instruction, instr_at, text_of, with_text, text_str, named_text, name_text, literal_text, instruction_of, instruction_at, RepresentsText, IsStringOf, IsNameOf, IsShapeOf, IsSpelling}
use Rattle.h2_spec.specs.Read.{Read, Whole, More, TooLong, read_map}
use Rattle.h2_spec.proofs.HuffmanLaws.{text_read, one_answer}
use Rattle.h2_spec.proofs.InstructionLaws.{whole-stays, whole-exact, whole-takes}

-- ---- each spelling is read

huffman-is : (o t : List ℕ) → IsHuffman t o → huffman_text o ≡ Text t
huffman-is o t h = one_answer o (Text t) h

string-has : (h : Bool) (o : List ℕ) (t : TextStr) → h ≡ t.huffman → RepresentsText h o t.text → with_text h (if h then huffman_text o else Text o) ≡ Some t
string-has true o t e s = ap (with_text true) (huffman-is o t.text s) ∙ ap (λ (b : Bool). let x : TextStr = record { huffman = b; text = t.text } in Some x) e
string-has false o t e s = ap (λ (x : List ℕ). let y : TextStr = record { huffman = false; text = x } in Some y) s ∙ ap (λ (b : Bool). let x : TextStr = record { huffman = b; text = t.text } in Some x) e

text-has : (s : Str) (t : TextStr) → IsStringOf s t → text_str s ≡ Some t
text-has s t h = string-has s.huffman s.octets t h.0 h.1

name-has : (name : NameRef Str) (n : NameRef TextStr) → IsNameOf name n → name_text name ≡ Some n
name-has name (Ref i) h = rw h refl
name-has name (Named t) h = rw h.1 (ap named_text (text-has h.0 t h.2))

shape-has : (shape : Shape) (i : Instruction) → IsShapeOf shape i → instruction_of shape ≡ Some i
shape-has shape (Indexed i) h = rw h refl
shape-has shape (Update n) h = rw h refl
shape-has shape (Literal mode n v) h = rw (h.2, name-has h.0 n h.3, text-has h.1 v h.4) refl

pub spelling-read : (i : Instruction) (octets more : List ℕ) → IsSpelling i octets → instruction_at (octets ++ more) ≡ Whole (Some i) (length octets)
unfolding instruction_at
spelling-read i octets more s =
    ap (read_map instruction_of) (whole-stays octets more s.0 (length octets) s.1) ∙ ap (λ x. Whole x (length octets)) (shape-has s.0 i s.2)

-- ---- what is read is spelled there

decoded-huffman : (o t : List ℕ) → huffman_text o ≡ Text t → IsHuffman t o
decoded-huffman o t e = subst (IsDecodingOf o) e (text_read o)

text-given : (h : Bool) (r : HuffRead) (t : TextStr) → with_text h r ≡ Some t → (h ≡ t.huffman) × (r ≡ Text t.text)
text-given h (Text x) t e =
    let flag : h ≡ t.huffman = ap (λ (o : Option TextStr). elim o [ None ↦ h | Some y ↦ y.huffman ]) e in
    let text : x ≡ t.text = ap (λ (o : Option TextStr). elim o [ None ↦ x | Some y ↦ y.text ]) e in
    (flag, ap Text text)
text-given h Eos t e = absurd cc
text-given h Padding t e = absurd cc

string-represents : (h : Bool) (o : List ℕ) (t : List ℕ) → (if h then huffman_text o else Text o) ≡ Text t → RepresentsText h o t
string-represents true o t e = decoded-huffman o t e
string-represents false o t e = cc

string-of : (s : Str) (t : TextStr) → text_str s ≡ Some t → IsStringOf s t
string-of s t e = let g = text-given s.huffman (text_of s) t e in (g.0, string-represents s.huffman s.octets t.text g.1)

named-given : (r : Option TextStr) (n : NameRef TextStr) → named_text r ≡ Some n → (t : TextStr) × (r ≡ Some t) × (n ≡ Named t)
named-given (Some t) n e = (t, refl, let same : Some (Named t) ≡ Some n = e in cc)
named-given None n e = absurd cc

name-of : (name : NameRef Str) (n : NameRef TextStr) → name_text name ≡ Some n → IsNameOf name n
name-of (Ref i) n e = let same : n ≡ Ref i = cc in rw same refl
name-of (Named s) n e = let g = named-given (text_str s) n e in rw g.2 (s, refl, string-of s g.0 g.1)

literal-given : (mode : Mode) (n : Option (NameRef TextStr)) (v : Option TextStr) (i : Instruction) → literal_text mode n v ≡ Some i → (name : NameRef TextStr) × (value : TextStr) × (n ≡ Some name) × (v ≡ Some value) × (i ≡ Literal mode name value)
literal-given mode (Some name) (Some value) i e = (name, value, refl, refl, cc)
literal-given mode (Some name) None i e = absurd cc
literal-given mode None v i e = absurd cc

shape-of : (shape : Shape) (i : Instruction) → instruction_of shape ≡ Some i → IsShapeOf shape i
shape-of (Indexed k) i e = let same : i ≡ Indexed k = cc in rw same refl
shape-of (Update n) i e = let same : i ≡ Update n = cc in rw same refl
shape-of (Literal mode name value) i e =
    let g = literal-given mode (name_text name) (text_str value) i e in
    rw g.4 (name, value, refl, name-of name g.0 g.2, string-of value g.1 g.3)

read-given : (r : Read Shape) (i : Instruction) (used : ℕ) → read_map instruction_of r ≡ Whole (Some i) used → (shape : Shape) × (r ≡ Whole shape used) × (instruction_of shape ≡ Some i)
read-given (Whole shape n) i used e =
    let text : instruction_of shape ≡ Some i = cc in
    let count : n ≡ used = cc in
    (shape, ap (Whole shape) count, text)
read-given More i used e = absurd cc
read-given TooLong i used e = absurd cc

pub read-spelling : (octets : List ℕ) (i : Instruction) (used : ℕ) → instruction_at octets ≡ Whole (Some i) used → IsSpelling i (take used octets)
unfolding instruction_at
read-spelling octets i used e =
    let g = read-given (instr_at octets) i used e in
    let within = (whole-takes octets g.0 used g.1).1 in
    (g.0, whole-exact octets g.0 used g.1 ∙ ap (Whole g.0) (sym (length-take-le used octets within)), shape-of g.0 i g.2)
