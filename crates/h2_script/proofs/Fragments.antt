-- Field blocks as text: what is read of octets can be written, and one instruction after another makes the whole.
use Rattle.std.proofs.Common.{◌≡◌, ◌∙◌, ◌-◌, ◌<◌, ◌≤◌, ◌^◌, ◌++◌, ◌&&◌, ℕ, Bool, true, false, cond, zero, suc, List, [], ◌∷◌, Option, Some, None, Result, Ok, Err, IfOk, OnOk, length, take, drop, refl, sym, ap, subst, arith, nat_lt, ltb-true, true≢false, bytes_eq, flat_map, option_map, append_assoc, append-nil, length-append}
use Rattle.std.specs.Result.{result_and}
use Rattle.std.specs.String.{string_bytes}
use Rattle.std.specs.declared.string.String.{String}
use Rattle.std.proofs.lemmas.Grind.{flat_map-append}
use Rattle.std.proofs.lemmas.List.{length-drop, length-take}
use Rattle.h2_hpack_instruction.specs.Instructions.{IsWritable, IsWritableName, IsWritableText}
use Rattle.h2_spec.specs.Hpack.Huffman.{HuffRead, Text, Eos, Padding, IsDecodingOf, codes, huffman_text, ones}
use Rattle.h2_spec.specs.Hpack.Instruction.{Shape, Instruction, Indexed, Update, Literal, Mode, NameRef, Ref, Named, Str, TextStr, instr_at, instruction_at, instruction_of, literal_text, name_text, named_text, text_of, text_str, with_text}
use Rattle.h2_spec.specs.Read.{Read, Whole}
use Rattle.h2_spec.specs.Texts.Script.{Instructions, Octets, instruction_octets}
use Rattle.h2_spec.specs.Texts.Written.{block_said, each_text, first_said, instruction_text, instructions_in, is_writable, or_octets}
use Rattle.h2_spec.proofs.HuffmanLaws.{text_read}
use Rattle.h2_spec.proofs.InstructionLaws.{mapped, whole-takes}
use Rattle.h2_spec.proofs.ReadShapes.{IsWholeName, IsWholeShape, OnRead, first_whole}
use Rattle.h2_spec.proofs.SpellingLaws.{length-bits}
use Rattle.h2_spec.proofs.WrittenLaws.{bytes_of}
use Rattle.h2_script.specs.Texts.{AddsText, IsBlockText, SaysFirst}
use Rattle.h2_script.proofs.Long.{codes_long}

-- ---- what is read can be written out

-- fewer octets than a frame can have
abbrev IsSmall : List ℕ → Type 0
IsSmall xs = length xs < 2 ^ 24

small_below : (n : ℕ) (xs : List ℕ) → IsSmall xs → IsSmall (take n xs)
small_below n xs h = omega (arith, h, length-take n xs)

small_after : (n : ℕ) (xs : List ℕ) → IsSmall xs → IsSmall (drop n xs)
small_after n xs h = omega (arith, h, length-drop n xs)

abbrev IsShortText : HuffRead → Type 0
IsShortText (Text t) = IsWritableText (record { huffman = true; text = t })
IsShortText Eos = Unit {0}
IsShortText Padding = Unit {0}

-- a code has five bits or more
huffman_short : (o : List ℕ) → IsSmall o → IsShortText (huffman_text o)
huffman_short o small = go (huffman_text o) (text_read o)
  where
    go : (r : HuffRead) → IsDecodingOf o r → IsShortText r
    go (Text t) h =
        let size = length-bits o in
        let many = codes_long t (bytes_of t h.text) in
        omega (arith, small, ap length h.spelled, length-append (codes t) (ones h.padding), size, many)
    go Eos h = tt
    go Padding h = tt

text_short : (s : Str) (t : TextStr) → IsSmall s.octets → text_str s ≡ Some t → IsWritableText t
text_short s t h e = go s.huffman (text_of s) (short s.huffman) e
  where
    short : (huffman : Bool) → IsShortText (cond huffman (huffman_text s.octets) (Text s.octets))
    short true = huffman_short s.octets h
    short false = omega (arith, h)

    go : (huffman : Bool) (r : HuffRead) → IsShortText r → with_text huffman r ≡ Some t → IsWritableText t
    go huffman (Text octets) k is = let same : record { huffman = huffman; text = octets } ≡ t = cc in subst IsWritableText same k
    go huffman Eos k is = absurd (cc)
    go huffman Padding k is = absurd (cc)

both : (a b : Bool) → (a && b) ≡ true → (a ≡ true) × (b ≡ true)
both true b e = (refl, e)
both false b e = absurd (true≢false (sym e))

name_writable : (s : NameRef Str) (name : NameRef TextStr) (mode : Mode) (value : TextStr) → IsWholeName IsSmall s → name_text s ≡ Some name → is_writable (Literal mode name value) ≡ true → IsWritableName name
name_writable s (Ref i) mode value h e w = let facts = both (nat_lt 0 i) (nat_lt i (2 ^ 32)) w in (ltb-true 0 i facts.0, ltb-true i (2 ^ 32) facts.1)
name_writable (Ref i) (Named t) mode value h e w = absurd (cc)
name_writable (Named s) (Named t) mode value h e w = go (text_str s) refl e
  where
    go : (o : Option TextStr) → text_str s ≡ o → named_text o ≡ Some (Named t) → IsWritableText t
    go (Some x) is k = let same : x ≡ t = cc in text_short s t h (is ∙ ap (λ (y : TextStr). Some y) same)
    go None is k = absurd (cc)

shape_writable : (s : Shape) (i : Instruction) → IsWholeShape IsSmall s → instruction_of s ≡ Some i → is_writable i ≡ true → IsWritable i
shape_writable s (Indexed m) h e w = ltb-true m (2 ^ 32) w
shape_writable s (Update m) h e w = ltb-true m (2 ^ 32) w
shape_writable (Indexed n) (Literal mode name value) h e w = absurd (cc)
shape_writable (Update n) (Literal mode name value) h e w = absurd (cc)
shape_writable (Literal m n v) (Literal mode name value) h e w = go (name_text n) (text_str v) refl refl e
  where
    go : (a : Option (NameRef TextStr)) (b : Option TextStr) → name_text n ≡ a → text_str v ≡ b → literal_text m a b ≡ Some (Literal mode name value) → IsWritable (Literal mode name value)
    go None b p q k = absurd (cc)
    go (Some x) None p q k = absurd (cc)
    go (Some x) (Some y) p q k =
        let first : x ≡ name = cc in
        let second : y ≡ value = cc in
        (name_writable n name mode value h.0 (p ∙ ap (λ (z : NameRef TextStr). Some z) first) w, text_short v value h.1 (q ∙ ap (λ (z : TextStr). Some z) second))

module _ (xs : List ℕ) (i : Instruction) (used : ℕ) (e : instruction_at xs ≡ Whole (Some i) used) where
  pub read_writable : length xs < 2 ^ 24 → is_writable i ≡ true → IsWritable i
  unfolding instruction_at
  read_writable small w =
      let m = mapped instruction_of (instr_at xs) (Some i) used e in
      shape_writable m.0 i (subst (OnRead (IsWholeShape IsSmall)) m.1 (first_whole IsSmall small_below small_after xs small)) m.2 w

  pub read_takes : (0 < used) × (used ≤ length xs)
  unfolding instruction_at
  read_takes = let m = mapped instruction_of (instr_at xs) (Some i) used e in whole-takes xs m.0 used m.1

-- ---- instructions with commas between

each_behind : (x y : Instruction) (xs : List Instruction) → each_text instruction_text (x ∷ (xs ++ y ∷ [])) ≡ each_text instruction_text (x ∷ xs) ++ 44 ∷ instruction_text y
each_behind x y [] = refl
each_behind x y (z ∷ zs) =
    ap (λ (t : List ℕ). instruction_text x ++ 44 ∷ t) (each_behind z y zs) ∙ sym (append_assoc (instruction_text x) (44 ∷ each_text instruction_text (z ∷ zs)) (44 ∷ instruction_text y))

some_text : (x : Instruction) (xs : List Instruction) → 0 < length (each_text instruction_text (x ∷ xs))
some_text (Indexed i) [] = omega arith
some_text (Indexed i) (y ∷ ys) = omega arith
some_text (Update n) [] = omega arith
some_text (Update n) (y ∷ ys) = omega arith
some_text (Literal mode name value) [] = omega arith
some_text (Literal mode name value) (y ∷ ys) = omega arith

pub adds_first : (old new : List ℕ) (i : Instruction) → length old ≡ 0 → new ≡ old ++ instruction_text i → AddsText old new i
adds_first old new i none e [] is = e ∙ ap (λ (t : List ℕ). t ++ instruction_text i) is
adds_first old new i none e (x ∷ xs) is = absurd (omega (arith, some_text x xs, ap length is, none))

pub adds_more : (old mid new : List ℕ) (i : Instruction) → 0 < length old → mid ≡ old ++ 44 ∷ [] → new ≡ mid ++ instruction_text i → AddsText old new i
adds_more old mid new i some a b [] is = absurd (omega (arith, ap length is, some))
adds_more old mid new i some a b (x ∷ xs) is =
    b ∙ ap (λ (t : List ℕ). t ++ instruction_text i) (a ∙ ap (λ (t : List ℕ). t ++ 44 ∷ []) is) ∙ append_assoc (each_text instruction_text (x ∷ xs)) (44 ∷ []) (instruction_text i) ∙ sym (each_behind x i xs)

-- ---- one instruction after another

-- these instructions were read, their texts and octets written, and the rest is read after them
pub record Reaches (p text octets rest : List ℕ) : Type 0 where
  pub is : List Instruction
  pub most : ℕ
  pub written : text ≡ each_text instruction_text is
  pub spelled : octets ≡ flat_map instruction_octets is
  pub whole : instructions_in (length p) p ≡ option_map (λ js. is ++ js) (instructions_in most rest)
  pub enough : length rest ≤ most
  pub small : length rest < 2 ^ 24

option_map-same : (o : Option (List Instruction)) → o ≡ option_map (λ js. js) o
option_map-same None = refl
option_map-same (Some js) = refl

pub reaches_first : (p : List ℕ) → length p < 2 ^ 24 → Reaches p [] [] p
reaches_first p small = record { is = []; most = length p; written = refl; spelled = refl; whole = option_map-same (instructions_in (length p) p); enough = omega arith; small = small }

first_step : (n used : ℕ) (rest : List ℕ) (i : Instruction) → 0 < length rest → instruction_at rest ≡ Whole (Some i) used → is_writable i ≡ true
    → instructions_in (suc n) rest ≡ option_map (λ js. i ∷ js) (instructions_in n (drop used rest))
first_step n used [] i some e w = absurd (omega arith)
first_step n used (o ∷ xs) i some e w = rw (e, w) refl

no_step : (most : ℕ) (rest : List ℕ) → 0 < length rest → ((more : ℕ → Option (List Instruction)) → first_said (instruction_at rest) more ≡ None) → instructions_in most rest ≡ None
no_step zero [] some h = absurd (omega arith)
no_step (suc n) [] some h = absurd (omega arith)
no_step zero (o ∷ xs) some h = refl
no_step (suc n) (o ∷ xs) some h = h (λ used. instructions_in n (drop used (o ∷ xs)))

pub reaches_next : (p text text' octets octets' rest rest' : List ℕ) (i : Instruction) (used : ℕ) → Reaches p text octets rest → 0 < length rest → instruction_at rest ≡ Whole (Some i) used → is_writable i ≡ true
    → AddsText text text' i → octets' ≡ octets ++ instruction_octets i → rest' ≡ drop used rest → Reaches p text' octets' rest'
reaches_next p text text' octets octets' rest rest' i used h some e w adds o r = record {
  is = h.is ++ i ∷ [];
  most = h.most - 1;
  written = adds h.is h.written;
  spelled = o ∙ ap (λ (x : List ℕ). x ++ instruction_octets i) h.spelled ∙ ap (λ (x : List ℕ). flat_map instruction_octets h.is ++ x) (sym (append-nil (instruction_octets i))) ∙ sym (flat_map-append instruction_octets h.is (i ∷ []));
  whole = h.whole
      ∙ ap (λ (k : ℕ). option_map (λ js. h.is ++ js) (instructions_in k rest)) fuel
      ∙ ap (option_map (λ js. h.is ++ js)) (first_step (h.most - 1) used rest i some e w)
      ∙ joined (instructions_in (h.most - 1) (drop used rest))
      ∙ ap (λ (x : List ℕ). option_map (λ js. (h.is ++ i ∷ []) ++ js) (instructions_in (h.most - 1) x)) (sym r);
  enough = omega (arith, h.enough, size, takes);
  small = omega (arith, h.small, size);
}
  where
    takes : (0 < used) × (used ≤ length rest)
    takes = read_takes rest i used e

    size : length rest' ≡ length rest - used
    size = ap length r ∙ length-drop used rest

    fuel : h.most ≡ suc (h.most - 1)
    fuel = omega (arith, h.enough, some)

    joined : (x : Option (List Instruction)) → option_map (λ js. h.is ++ js) (option_map (λ js. i ∷ js) x) ≡ option_map (λ js. (h.is ++ i ∷ []) ++ js) x
    joined None = refl
    joined (Some js) = ap (λ (x : List Instruction). Some x) (sym (append_assoc h.is (i ∷ []) js))

pub reaches_none : (p text octets rest : List ℕ) → Reaches p text octets rest → 0 < length rest → ((more : ℕ → Option (List Instruction)) → first_said (instruction_at rest) more ≡ None) → block_said p ≡ Octets p
unfolding block_said
reaches_none p text octets rest h some none = ap (or_octets p) (h.whole ∙ ap (option_map (λ js. h.is ++ js)) (no_step h.most rest some none))

reaches_whole : (p text octets rest : List ℕ) → (h : Reaches p text octets rest) → length rest ≡ 0 → instructions_in (length p) p ≡ Some h.is
reaches_whole p text octets [] h none = h.whole ∙ ends h.most
  where
    ends : (most : ℕ) → option_map (λ js. h.is ++ js) (instructions_in most []) ≡ Some h.is
    ends zero = ap (λ (x : List Instruction). Some x) (append-nil h.is)
    ends (suc n) = ap (λ (x : List Instruction). Some x) (append-nil h.is)
reaches_whole p text octets (x ∷ xs) h none = absurd (omega arith)

reaches_same : (p text octets rest : List ℕ) → (h : Reaches p text octets rest) → length rest ≡ 0 → bytes_eq octets p ≡ true → block_said p ≡ Instructions h.is
unfolding block_said
reaches_same p text octets rest h none same = ap (or_octets p) (reaches_whole p text octets rest h none) ∙ rw (ap (λ (x : List ℕ). bytes_eq x p) (sym h.spelled) ∙ same) refl

reaches_other : (p text octets rest : List ℕ) → Reaches p text octets rest → length rest ≡ 0 → bytes_eq octets p ≡ false → block_said p ≡ Octets p
unfolding block_said
reaches_other p text octets rest h none other = ap (or_octets p) (reaches_whole p text octets rest h none) ∙ rw (ap (λ (x : List ℕ). bytes_eq x p) (sym h.spelled) ∙ other) refl

pub reaches_end : {Z : Type 0} (t : String Z) (r : Option (String Z)) (p octets rest : List ℕ) → Reaches p (string_bytes t) octets rest → length rest ≡ 0 → r ≡ cond (bytes_eq octets p) (Some t) None → IsBlockText r (block_said p) p
reaches_end {Z} t r p octets rest h none e = go (bytes_eq octets p) refl e
  where
    go : (same : Bool) → bytes_eq octets p ≡ same → r ≡ cond same (Some t) None → IsBlockText r (block_said p) p
    go true same is = subst (λ (x : Option (String Z)). IsBlockText x (block_said p) p) (sym is) (h.is, reaches_same p (string_bytes t) octets rest h none same, h.written)
    go false same is = subst (λ (x : Option (String Z)). IsBlockText x (block_said p) p) (sym is) (reaches_other p (string_bytes t) octets rest h none same)

-- an instruction was written after others, if it was written
pub adds_on : {T E : Type 0} (r : Result T E) (old mid new : List ℕ) (i : Instruction) → (new ≡ mid ++ instruction_text i → AddsText old new i) → OnOk r (new ≡ mid ++ instruction_text i) → OnOk r (AddsText old new i)
adds_on (Ok t) old mid new i f e = f e
adds_on (Err x) old mid new i f e = tt

-- the answer where the instruction at the front was written, if it was
pub says_first : {T E : Type 0} (r : Result T E) (answer : Result (Option ℕ) E) (old new octets octets' : List ℕ) (i : Instruction) (used : ℕ) (read : Read (Option Instruction))
    → answer ≡ result_and r (Ok (Some used)) → read ≡ Whole (Some i) used → is_writable i ≡ true → OnOk r (AddsText old new i) → OnOk r (octets' ≡ octets ++ instruction_octets i)
    → IfOk answer (λ u. SaysFirst old new octets octets' u read)
says_first (Ok t) answer old new octets octets' i used read e at w a b = rw e (i, at, w, a, b)
says_first (Err x) answer old new octets octets' i used read e at w a b = rw e tt
