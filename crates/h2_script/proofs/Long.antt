-- What is written out, and that an instruction which is not is more than a frame holds.
use Rattle.std.proofs.Common.{◌≡◌, ◌∙◌, ◌+◌, ◌-◌, ◌*◌, ◌==◌, ◌||◌, not, cond, ◌<◌, ◌≤◌, ◌^◌, ◌++◌, ◌&&◌, ℕ, Bool, true, false, suc, zero, List, [], ◌∷◌, Some, length, sym, ap, arith, nat_le, nat_lt, refl, true≢false, lit<, lt-ltb, leb-true, inl, inr, get_or}
use Rattle.std.specs.List.{list_all, range_with_len}
use Rattle.std.proofs.lemmas.List.{length-append}
use Rattle.std.proofs.lemmas.List.Sums.{AllPass-from_list_all}
use Rattle.std.proofs.lemmas.List.FromFn.{get_or-range_with_len, length-range_with_len}
use Rattle.hex.specs.Hex.{IsBytes}
use Rattle.hex.proofs.HexLemmas.{decode_of-ok}
use Rattle.h2_spec.specs.Texts.Assemble.{instruction_at}
use Rattle.h2_spec.specs.Hpack.Huffman.{codes}
use Rattle.h2_spec.specs.Hpack.HuffmanCode.{code}
use Rattle.h2_spec.specs.Hpack.Instruction.{Instruction, Indexed, Update, Literal, Mode, NameRef, Ref, Named, TextStr, coded, coded_name, spell, spell_name, spell_string}
use Rattle.h2_spec.specs.Hpack.Integer.{spell_int}
use Rattle.h2_spec.specs.Texts.Script.{instruction_octets, is_plain, SaysCharacter, SaysInstruction, SaysName, SaysText}
use Rattle.h2_spec.proofs.ReadingInstructions.{instruction_back}
use Rattle.h2_spec.proofs.SpellingLaws.{length-spell_huffman}
use Rattle.h2_script.specs.Writable.{can_write, can_write_name}

-- ---- Huffman strings

five_bits : list_all (λ s. nat_le 5 (length (code s))) (range_with_len 0 256) ≡ true
unfolding code
five_bits = refl

code_long : (s : ℕ) → s < 256 → 5 ≤ length (code s)
code_long s h =
    let all = AllPass-from_list_all (λ x. nat_le 5 (length (code x))) (range_with_len 0 256) five_bits in
    let inside : s < length (range_with_len 0 256) = simp length-range_with_len h in
    let here : get_or (range_with_len 0 256) s 0 ≡ s = omega (arith, get_or-range_with_len 0 256 s 0 h) in
    leb-true 5 (length (code s)) (ap (λ (x : ℕ). nat_le 5 (length (code x))) (sym here) ∙ all s 0 inside)

pub codes_long : (t : List ℕ) → IsBytes t → 5 * length t ≤ length (codes t)
unfolding codes
codes_long [] h = omega arith
codes_long (s ∷ t) h = let one = code_long s (h 0) in let more = codes_long t (λ i. h (suc i)) in omega (arith, length-append (code s) (codes t))

coded_long : (huffman : Bool) (t : List ℕ) → IsBytes t → nat_le (length t) 33554432 ≡ false → 2 ^ 24 ≤ length (coded huffman t)
coded_long true t h long =
    let size = length-spell_huffman t in
    let bits = codes_long t h in
    let many : 33554432 < length t = grind arith in
    omega arith
coded_long false t h long = let many : 33554432 < length t = grind arith in omega arith

string_long : (s : TextStr) → IsBytes s.text → nat_le (length s.text) 33554432 ≡ false → 2 ^ 24 ≤ length (spell_string s.huffman (coded s.huffman s.text))
string_long s h long =
    let big = coded_long s.huffman s.text h long in
    let octets = coded s.huffman s.text in
    let size = length-append (spell_int 7 (cond s.huffman 128 0) (length octets)) octets in
    omega arith

-- ---- what is said is octets

second : (a b c : Bool) → (a && b && c) ≡ true → b ≡ true
second true true c h = refl
second true false c h = h
second false b c h = absurd (true≢false (sym h))

plain_small : (c : ℕ) → is_plain c ≡ true → c < 256
plain_small c h = let small = leb-true c 0x7e (second (nat_le 0x20 c) (nat_le c 0x7e) (not (c == 34 || c == 39 || c == 92)) h) in omega arith

nothing_bytes : IsBytes []
nothing_bytes i = lit< tt

cons_bytes : (c : ℕ) (cs : List ℕ) → c < 256 → IsBytes cs → IsBytes (c ∷ cs)
cons_bytes c cs small h zero = small
cons_bytes c cs small h (suc i) = h i

text_bytes : (text octets : List ℕ) → SaysText text octets → IsBytes octets
text_bytes text [] h = nothing_bytes
text_bytes text (c ∷ cs) h = cons_bytes c cs (small h.3) (text_bytes h.1 cs h.4)
  where
    small : SaysCharacter h.0 c → c < 256
    small (inl a) = plain_small c a.1
    small (inr a) = (decode_of-ok a.0 (c ∷ []) a.2).3 0

-- ---- instructions

both_false : (a b : Bool) → a ≡ true → (a && b) ≡ false → b ≡ false
both_false true b e h = h
both_false false b e h = absurd (true≢false (sym e))

number_fits : (n : ℕ) → n ≤ 2 ^ 32 - 1 → nat_lt n 4294967296 ≡ true
number_fits n h = lt-ltb n 4294967296 (omega arith)

name_long : (mode : Mode) (name : NameRef TextStr) (text : List ℕ) → SaysName text name → can_write_name name ≡ false → 2 ^ 24 ≤ length (spell_name mode (coded_name name))
name_long mode (Ref i) text h long = absurd (true≢false (sym (rw (lt-ltb 0 i h.1, number_fits i h.0.3) refl) ∙ long))
name_long mode (Named s) text h long = let big = string_long s (text_bytes h.0 s.text h.2) long in omega arith

said_long : (text : List ℕ) (i : Instruction) → SaysInstruction text i → can_write i ≡ false → 2 ^ 24 ≤ length (instruction_octets i)
unfolding spell
said_long text (Indexed n) h long = absurd (true≢false (sym (number_fits n h.2.3) ∙ long))
said_long text (Update n) h long = absurd (true≢false (sym (number_fits n h.2.3) ∙ long))
said_long text (Literal mode name value) h long = go (can_write_name name) refl
  where
    size : length (spell_name mode (coded_name name) ++ spell_string value.huffman (coded value.huffman value.text)) ≡ length (spell_name mode (coded_name name)) + length (spell_string value.huffman (coded value.huffman value.text))
    size = length-append (spell_name mode (coded_name name)) (spell_string value.huffman (coded value.huffman value.text))

    go : (t : Bool) → can_write_name name ≡ t → 2 ^ 24 ≤ length (spell_name mode (coded_name name) ++ spell_string value.huffman (coded value.huffman value.text))
    go false e = let big = name_long mode name h.0 h.3 e in let total = size in omega arith
    go true e =
        let big = string_long value (text_bytes h.4.0 value.text h.4.2) (both_false (can_write_name name) (nat_le (length value.text) 33554432) e long) in
        let total = size in
        omega arith

pub long_instruction : (text : List ℕ) (i : Instruction) (left : List ℕ) → Some (i, left) ≡ instruction_at text → can_write i ≡ false → 2 ^ 24 ≤ length (instruction_octets i)
long_instruction text i left e long = let said = instruction_back text i left (sym e) in said_long said.0 i said.2 long
