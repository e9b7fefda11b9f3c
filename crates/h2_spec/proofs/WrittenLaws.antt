-- What is written for octets represents them.
use Rattle.std.proofs.Common.{◌≡◌, ◌∙◌, ◌+◌, ◌*◌, ◌/◌, ◌%◌, ◌<◌, ◌≤◌, ◌^◌, ◌++◌, ◌==◌, ◌&&◌, ℕ, Bool, true, false, zero, suc, List, [], ◌∷◌, Option, Some, None, codes, drop, take, length, refl, sym, ap, arith, inl, inr, cond, nat_lt, nat_eq, nat_le, slice_index, slice_get, unwrap_or, lit<, append-nil, leb-true, eqb-true, true≢false, ltb-true, subst, ltb-false, flat_map, option_map, bytes_eq, append_assoc}
use Rattle.std.specs.List.{AllByRecursion, starts_with}
use Rattle.std.specs.Fmt.{decimal}
use Rattle.std.proofs.lemmas.Fmt.{decimal_is_IsNumeral, length-decimal-le}
use Rattle.std.proofs.lemmas.List.{length-drop, length-take-le, take-append-drop}
use Rattle.std.proofs.lemmas.List.Splits.{slice_split_at}
use Rattle.std.proofs.lemmas.Slice.Eq.{bytes_eq-Decides, starts_is}
use Rattle.std.proofs.lemmas.Bool.{eq-eqb}
use Rattle.hex.specs.Hex.{IsBytes, encode_lower}
use Rattle.hex.proofs.HexLemmas.{decode_of-encode_lower}
use Rattle.h2_spec.specs.Frames.Frame.{head_of, preface}
use Rattle.h2_spec.specs.Frames.FrameType.{RST_STREAM, SETTINGS, WINDOW_UPDATE}
use Rattle.h2_spec.specs.Hpack.Huffman.{HuffRead, Text, Eos, Padding, IsDecodingOf, IsText, huffman_text}
use Rattle.h2_spec.specs.Hpack.Instruction.{Shape, Instruction, Indexed, Update, Literal, Mode, NameRef, Ref, Named, Str, TextStr, instruction_at, instruction_of, literal_text, name_text as name_by_text, text_str, text_of, with_text, instr_at}
use Rattle.h2_spec.specs.Octets.{big_endian, four_octets}
use Rattle.h2_spec.specs.Frames.Parse.{Front, Stop, One, parse_first, parse_upto, parse_all}
use Rattle.h2_spec.specs.Frames.Payload.{setting_pairs}
use Rattle.h2_spec.specs.Read.{Read, Whole, More, TooLong, read_map}
use Rattle.h2_spec.specs.Frames.FrameType.{type_names}
use Rattle.h2_spec.specs.Texts.Script.{Payload, Empty, Octets, Pairs, Increment, Code, Instructions, Statement, Nothing, Preface, Raw, Says, SaysCharacter, SaysEach, SaysInstruction, SaysName, SaysNumber, SaysOctet, SaysPayload, SaysSetting, SaysStream, SaysString, SaysText, SaysType, Script, instruction_octets, is_plain, max_u32, octets_of, payload_octets, setting_octets, stream_octets}
use Rattle.h2_spec.specs.Texts.Written.{block_said, character_text, each_text, first_said, frame_front, frame_said, instruction_text, instructions_in, is_fragment, is_writable, line_text, name_text, next_said, or_octets, payload_said, payload_text, rest_text, setting_text, statement_text, stream_text, string_text, type_text, written}
use Rattle.h2_spec.proofs.HuffmanLaws.{text_read}
use Rattle.h2_spec.proofs.ReadShapes.{IsWholeName, IsWholeShape, OnRead, first_whole}
use Rattle.h2_spec.proofs.ScriptTexts.{Lacks, append_lacks, bytes_after, bytes_below, frame_lacks, literal_lacks, octets_lack}

-- ---- words

one_byte : (n : ℕ) → n < 256 → IsBytes (n ∷ [])
one_byte n h zero = h
one_byte n h (suc i) = lit< tt

octet_again : (n : ℕ) → n < 256 → SaysOctet (encode_lower (n ∷ [])) n
octet_again n h = decode_of-encode_lower (n ∷ []) (one_byte n h)

number_again : (most n : ℕ) → n < 2 ^ 32 → n ≤ most → SaysNumber most (decimal n) n
number_again most n h fits =
    let d = decimal_is_IsNumeral n (omega arith) in
    (d.0, length-decimal-le 10 n (lit< tt) (omega arith) (omega arith), sym d.1, fits)

character_again : (c : ℕ) → c < 256 → SaysCharacter (character_text c) c
character_again c h = go (is_plain c) refl
  where
    go : (b : Bool) → is_plain c ≡ b → SaysCharacter (cond b (c ∷ []) (92 ∷ encode_lower (c ∷ []))) c
    go true e = inl (refl, e)
    go false e = inr (encode_lower (c ∷ []), refl, octet_again c h)

text_again : (text : List ℕ) → IsBytes text → SaysText (flat_map character_text text) text
text_again [] h = refl
text_again (c ∷ cs) h = (character_text c, flat_map character_text cs, refl, character_again c (h 0), text_again cs (λ i. h (suc i)))

string_again : (s : TextStr) → IsBytes s.text → SaysString (string_text s) s
string_again s h = (flat_map character_text s.text, refl, text_again s.text h)

-- ---- what a script can say of instructions and settings

abbrev IsNameSayable : NameRef TextStr → Type 0
IsNameSayable (Ref i) = (0 < i) × (i < 2 ^ 32)
IsNameSayable (Named s) = IsBytes s.text

abbrev IsSayable : Instruction → Type 0
IsSayable (Indexed i) = i < 2 ^ 32
IsSayable (Update n) = n < 2 ^ 32
IsSayable (Literal mode name value) = IsNameSayable name × IsBytes value.text

name_again : (name : NameRef TextStr) → IsNameSayable name → SaysName (name_text name) name
name_again (Ref i) h = (number_again max_u32 i h.1 (omega (arith, h.1)), h.0)
name_again (Named s) h = string_again s h

instruction_again : (i : Instruction) → IsSayable i → SaysInstruction (instruction_text i) i
instruction_again (Indexed i) h = (decimal i, refl, number_again max_u32 i h (omega arith))
instruction_again (Update n) h = (decimal n, refl, number_again max_u32 n h (omega arith))
instruction_again (Literal mode name value) h = (name_text name, string_text value, refl, name_again name h.0, string_again value h.1)

abbrev IsPair : ℕ × ℕ → Type 0
IsPair p = (p.0 < 2 ^ 16) × (p.1 < 2 ^ 32)

setting_again : (p : ℕ × ℕ) → IsPair p → SaysSetting (setting_text p) p
setting_again p h =
    let small : p.0 < 65536 = h.0 in
    let id : p.0 < 2 ^ 32 = omega arith in
    (decimal p.0, decimal p.1, refl, number_again 65535 p.0 id (omega arith), number_again max_u32 p.1 h.1 (omega (arith, h.1)))

each_again : {A : Type 0} (Says : List ℕ → A → Type 0) (text : A → List ℕ) (P : A → Type 0) → ((x : A) → P x → Says (text x) x) →
    (x : A) (xs : List A) → P x → AllByRecursion P xs → SaysEach Says (each_text text (x ∷ xs)) (x ∷ xs)
each_again Says text P one x [] h k = one x h
each_again Says text P one x (y ∷ ys) h k = (text x, each_text text (y ∷ ys), refl, one x h, each_again Says text P one y ys k.0 k.1)

-- ---- a Huffman string's text is octets

both : (a b : Bool) → (a && b) ≡ true → (a ≡ true) × (b ≡ true)
both true b e = (refl, e)
both false b e = absurd (true≢false (sym e))

abbrev IsByteText : HuffRead → Type 0
IsByteText (Text t) = IsBytes t
IsByteText Eos = Unit {0}
IsByteText Padding = Unit {0}

pub bytes_of : (t : List ℕ) → IsText t → IsBytes t
bytes_of [] h i = lit< tt
bytes_of (c ∷ cs) h zero = h.0
bytes_of (c ∷ cs) h (suc i) = bytes_of cs h.1 i

huffman_bytes : (o : List ℕ) → IsByteText (huffman_text o)
huffman_bytes o = go (huffman_text o) (text_read o)
  where
    go : (r : HuffRead) → IsDecodingOf o r → IsByteText r
    go (Text t) h = bytes_of t h.text
    go Eos h = tt
    go Padding h = tt

-- ---- what is said about whole instructions can be said

string_sayable : (s : Str) (t : TextStr) → IsBytes s.octets → text_str s ≡ Some t → IsBytes t.text
string_sayable s t h e = go s.huffman (text_of s) (text_bytes s.huffman) e
  where
    text_bytes : (huffman : Bool) → IsByteText (cond huffman (huffman_text s.octets) (Text s.octets))
    text_bytes true = huffman_bytes s.octets
    text_bytes false = h

    go : (huffman : Bool) (r : HuffRead) → IsByteText r → with_text huffman r ≡ Some t → IsBytes t.text
    go huffman (Text octets) k is = let same : record { huffman = huffman; text = octets } ≡ t = cc in subst (λ (x : TextStr). IsBytes x.text) same k
    go huffman Eos k is = absurd (cc)
    go huffman Padding k is = absurd (cc)

name_sayable : (s : NameRef Str) (t : NameRef TextStr) (v : TextStr) (mode : Mode) → IsWholeName IsBytes s → name_by_text s ≡ Some t → is_writable (Literal mode t v) ≡ true → IsNameSayable t
name_sayable (Ref i) t v mode h e w =
    let same : Ref i ≡ t = cc in
    let small : is_writable (Literal mode (Ref i) v) ≡ true = subst (λ (x : NameRef TextStr). is_writable (Literal mode x v) ≡ true) (sym same) w in
    subst IsNameSayable same (h, ltb-true i (2 ^ 32) (both _ _ small).1)
name_sayable (Named s) t v mode h e w = go (text_str s) refl e
  where
    go : (o : Option TextStr) → text_str s ≡ o → (elim o [ Some x ↦ Some (Named x) | None ↦ None ]) ≡ Some t → IsNameSayable t
    go (Some x) is k = let same : Named x ≡ t = cc in subst IsNameSayable same (string_sayable s x h is)
    go None is k = absurd (cc)

sayable : (s : Shape) (i : Instruction) → IsWholeShape IsBytes s → instruction_of s ≡ Some i → is_writable i ≡ true → IsSayable i
sayable (Indexed n) i h e w =
    let same : Indexed n ≡ i = cc in
    let small : is_writable (Indexed n) ≡ true = subst (λ (x : Instruction). is_writable x ≡ true) (sym same) w in
    subst IsSayable same (ltb-true n (2 ^ 32) small)
sayable (Update n) i h e w =
    let same : Update n ≡ i = cc in
    let small : is_writable (Update n) ≡ true = subst (λ (x : Instruction). is_writable x ≡ true) (sym same) w in
    subst IsSayable same (ltb-true n (2 ^ 32) small)
sayable (Literal mode name value) i h e w = go (name_by_text name) (text_str value) refl refl e
  where
    go : (n : Option (NameRef TextStr)) (v : Option TextStr) → name_by_text name ≡ n → text_str value ≡ v → literal_text mode n v ≡ Some i → IsSayable i
    go None v a b k = absurd (cc)
    go (Some n) None a b k = absurd (cc)
    go (Some n) (Some v) a b k =
        let same : Literal mode n v ≡ i = cc in
        let small : is_writable (Literal mode n v) ≡ true = subst (λ (x : Instruction). is_writable x ≡ true) (sym same) w in
        subst IsSayable same (name_sayable name n v mode h.0 a small, string_sayable value v h.1 b)

all_sayable : (most : ℕ) (xs : List ℕ) (is : List Instruction) → IsBytes xs → instructions_in most xs ≡ Some is → AllByRecursion IsSayable is
unfolding instruction_at
all_sayable zero [] is h e = let same : [] ≡ is = cc in subst (AllByRecursion IsSayable) same tt
all_sayable (suc fewer) [] is h e = let same : [] ≡ is = cc in subst (AllByRecursion IsSayable) same tt
all_sayable zero (o ∷ xs) is h e = absurd (cc)
all_sayable (suc fewer) (o ∷ xs) is h e =
    first (instr_at (o ∷ xs)) (first_whole IsBytes bytes_below bytes_after (o ∷ xs) h) e (λ used js k. all_sayable fewer (drop used (o ∷ xs)) js (bytes_after used (o ∷ xs) h) k)
  where
    Below : Type 0
    Below = (used : ℕ) (js : List Instruction) → instructions_in fewer (drop used (o ∷ xs)) ≡ Some js → AllByRecursion IsSayable js

    rest : (i : Instruction) → IsSayable i → Below → (used : ℕ) → (r : Option (List Instruction)) → instructions_in fewer (drop used (o ∷ xs)) ≡ r → option_map (λ js. i ∷ js) r ≡ Some is → AllByRecursion IsSayable is
    rest i k more used None a e = absurd (cc)
    rest i k more used (Some js) a e = let same : i ∷ js ≡ is = cc in subst (AllByRecursion IsSayable) same (k, more used js a)

    small : (s : Shape) → IsWholeShape IsBytes s → (i : Instruction) → instruction_of s ≡ Some i → Below → (used : ℕ) → (b : Bool) → is_writable i ≡ b → cond b (option_map (λ js. i ∷ js) (instructions_in fewer (drop used (o ∷ xs)))) None ≡ Some is → AllByRecursion IsSayable is
    small s k i a more used true w e = rest i (sayable s i k a w) more used (instructions_in fewer (drop used (o ∷ xs))) refl e
    small s k i a more used false w e = absurd (cc)

    known : (s : Shape) → IsWholeShape IsBytes s → Below → (used : ℕ) → (r : Option Instruction) → instruction_of s ≡ r → first_said (Whole r used) (λ used. instructions_in fewer (drop used (o ∷ xs))) ≡ Some is → AllByRecursion IsSayable is
    known s k more used None a e = absurd (cc)
    known s k more used (Some i) a e = small s k i a more used (is_writable i) refl e

    first : (r : Read Shape) → OnRead (IsWholeShape IsBytes) r → first_said (read_map instruction_of r) (λ used. instructions_in fewer (drop used (o ∷ xs))) ≡ Some is → Below → AllByRecursion IsSayable is
    first (Whole s used) k e more = known s k more used (instruction_of s) refl e
    first More k e more = absurd (cc)
    first TooLong k e more = absurd (cc)

-- ---- payloads

-- the payload can be said, and represents the octets
abbrev IsSaid : List ℕ → Payload → Type 0
IsSaid p payload = SaysPayload (payload_text payload) payload × (payload_octets payload ≡ p)

octets_said : (p : List ℕ) → IsBytes p → 0 < length p → IsSaid p (Octets p)
octets_said p h some = ((encode_lower p, refl, (some, decode_of-encode_lower p h)), refl)

instructions_again : (p : List ℕ) (is : List Instruction) → 0 < length p → AllByRecursion IsSayable is → flat_map instruction_octets is ≡ p → IsSaid p (Instructions is)
instructions_again p [] some h e = absurd (omega (arith, ap length e))
instructions_again p (i ∷ is) some h e = ((each_text instruction_text (i ∷ is), refl, each_again SaysInstruction instruction_text IsSayable instruction_again i is h.0 h.1), e)

block_again : (p : List ℕ) → IsBytes p → 0 < length p → IsSaid p (block_said p)
unfolding block_said
block_again p h some = there (instructions_in (length p) p) refl
  where
    spelled : (is : List Instruction) → AllByRecursion IsSayable is → (b : Bool) → bytes_eq (flat_map instruction_octets is) p ≡ b → IsSaid p (cond b (Instructions is) (Octets p))
    spelled is k true e = instructions_again p is some k ((bytes_eq-Decides (flat_map instruction_octets is) p).0 e)
    spelled is k false e = octets_said p h some

    there : (o : Option (List Instruction)) → instructions_in (length p) p ≡ o → IsSaid p (or_octets p o)
    there None e = octets_said p h some
    there (Some is) e = spelled is (all_sayable (length p) p is h e) (bytes_eq (flat_map instruction_octets is) p) refl

four_back : (a b c d : ℕ) → a < 256 → b < 256 → c < 256 → d < 256 → big_endian 4 (16777216 * a + 65536 * b + 256 * c + d) ≡ a ∷ b ∷ c ∷ d ∷ []
four_back a b c d ha hb hc hd =
    let w = 16777216 * a + 65536 * b + 256 * c + d in
    let ea : w / 16777216 % 256 ≡ a = omega arith in
    let eb : w / 65536 % 256 ≡ b = omega arith in
    let ec : w / 256 % 256 ≡ c = omega arith in
    let ed : w / 1 % 256 ≡ d = omega arith in
    rw (ea, eb, ec, ed) refl

four_again : (p : List ℕ) → IsBytes p → length p ≡ 4 → big_endian 4 (four_octets p 0) ≡ p
four_again (a ∷ b ∷ c ∷ d ∷ []) h e = four_back a b c d (h 0) (h 1) (h 2) (h 3)
four_again [] h e = absurd (omega arith)
four_again (a ∷ []) h e = absurd (omega arith)
four_again (a ∷ b ∷ []) h e = absurd (omega arith)
four_again (a ∷ b ∷ c ∷ []) h e = absurd (omega arith)
four_again (a ∷ b ∷ c ∷ d ∷ x ∷ xs) h e = absurd (omega arith)

pair_again : (a b c d e f : ℕ) → a < 256 → b < 256 → c < 256 → d < 256 → e < 256 → f < 256
    → setting_octets (256 * a + b, 16777216 * c + 65536 * d + 256 * e + f) ≡ a ∷ b ∷ c ∷ d ∷ e ∷ f ∷ []
pair_again a b c d e f ha hb hc hd he hf =
    let id = 256 * a + b in
    let value = 16777216 * c + 65536 * d + 256 * e + f in
    let ea : id / 256 % 256 ≡ a = omega arith in
    let eb : id / 1 % 256 ≡ b = omega arith in
    let ec : value / 16777216 % 256 ≡ c = omega arith in
    let ed : value / 65536 % 256 ≡ d = omega arith in
    let ee : value / 256 % 256 ≡ e = omega arith in
    let ef : value / 1 % 256 ≡ f = omega arith in
    rw (ea, eb, ec, ed, ee, ef) refl

-- the settings represent the octets, and each can be said
pairs_again : (p : List ℕ) → IsBytes p → length p % 6 ≡ 0 → (flat_map setting_octets (setting_pairs p) ≡ p) × AllByRecursion IsPair (setting_pairs p)
pairs_again (a ∷ b ∷ c ∷ d ∷ e ∷ f ∷ rest) h six =
    let ha : a < 256 = h 0 in
    let hb : b < 256 = h 1 in
    let hc : c < 256 = h 2 in
    let hd : d < 256 = h 3 in
    let he : e < 256 = h 4 in
    let hf : f < 256 = h 5 in
    let more = pairs_again rest (λ i. h (suc (suc (suc (suc (suc (suc i))))))) (omega arith) in (
      ap (λ (x : List ℕ). x ++ flat_map setting_octets (setting_pairs rest)) (pair_again a b c d e f ha hb hc hd he hf) ∙ ap (λ (x : List ℕ). a ∷ b ∷ c ∷ d ∷ e ∷ f ∷ x) more.0,
      ((omega arith, omega arith), more.1),
    )
pairs_again [] h six = (refl, tt)
pairs_again (a ∷ []) h six = absurd (omega arith)
pairs_again (a ∷ b ∷ []) h six = absurd (omega arith)
pairs_again (a ∷ b ∷ c ∷ []) h six = absurd (omega arith)
pairs_again (a ∷ b ∷ c ∷ d ∷ []) h six = absurd (omega arith)
pairs_again (a ∷ b ∷ c ∷ d ∷ e ∷ []) h six = absurd (omega arith)

settings_again : (p : List ℕ) (pairs : List (ℕ × ℕ)) → 0 < length p → flat_map setting_octets pairs ≡ p → AllByRecursion IsPair pairs → IsSaid p (Pairs pairs)
settings_again p [] some e h = absurd (omega (arith, ap length e))
settings_again p (x ∷ xs) some e h = ((each_text setting_text (x ∷ xs), refl, each_again SaysSetting setting_text IsPair setting_again x xs h.0 h.1), e)

empty_list : (p : List ℕ) → length p ≡ 0 → p ≡ []
empty_list [] e = refl
empty_list (x ∷ xs) e = absurd (omega arith)

word_small : (p : List ℕ) → IsBytes p → four_octets p 0 < 2 ^ 32
word_small p h =
    let b0 = h 0 in
    let b1 = h 1 in
    let b2 = h 2 in
    let b3 = h 3 in
    omega arith

payload_again : (kind flags : ℕ) (p : List ℕ) → IsBytes p → IsSaid p (payload_said kind flags p)
unfolding payload_said
payload_again kind flags p h = go (length p == 0) refl
  where
    fragment : (b : Bool) → 0 < length p → IsSaid p (cond b (block_said p) (Octets p))
    fragment true some = block_again p h some
    fragment false some = octets_said p h some

    reset : (b : Bool) → (kind == RST_STREAM && length p == 4) ≡ b → 0 < length p → IsSaid p (cond b (Code (four_octets p 0)) (cond (is_fragment kind flags) (block_said p) (Octets p)))
    reset false e some = fragment (is_fragment kind flags) some
    reset true e some =
        let four = eqb-true (length p) 4 (both _ _ e).1 in
        let small = word_small p h in
        ((decimal (four_octets p 0), refl, number_again max_u32 (four_octets p 0) small (omega (arith, small))), four_again p h four)

    window : (b : Bool) → (kind == WINDOW_UPDATE && (length p == 4 && nat_lt (slice_index p 0) 128)) ≡ b → 0 < length p
        → IsSaid p (cond b (Increment (four_octets p 0)) (cond (kind == RST_STREAM && length p == 4) (Code (four_octets p 0)) (cond (is_fragment kind flags) (block_said p) (Octets p))))
    window false e some = reset (kind == RST_STREAM && length p == 4) refl some
    window true e some =
        let inner = both _ _ (both _ _ e).1 in
        let four = eqb-true (length p) 4 inner.0 in
        let low : slice_index p 0 < 128 = ltb-true _ _ inner.1 in
        let b1 = h 1 in
        let b2 = h 2 in
        let b3 = h 3 in
        let small : four_octets p 0 < 2 ^ 31 = omega arith in
        ((decimal (four_octets p 0), refl, number_again _ (four_octets p 0) (omega arith) (omega (arith, small))), four_again p h four)

    pairs : (b : Bool) → (kind == SETTINGS && length p % 6 == 0) ≡ b → 0 < length p
        → IsSaid p (cond b (Pairs (setting_pairs p)) (cond (kind == WINDOW_UPDATE && (length p == 4 && nat_lt (slice_index p 0) 128)) (Increment (four_octets p 0)) (cond (kind == RST_STREAM && length p == 4) (Code (four_octets p 0)) (cond (is_fragment kind flags) (block_said p) (Octets p)))))
    pairs false e some = window (kind == WINDOW_UPDATE && (length p == 4 && nat_lt (slice_index p 0) 128)) refl some
    pairs true e some = let summary = pairs_again p h (eqb-true (length p % 6) 0 (both _ _ e).1) in settings_again p (setting_pairs p) some summary.0 summary.1

    go : (b : Bool) → (length p == 0) ≡ b → IsSaid p (cond b Empty (cond (kind == SETTINGS && length p % 6 == 0) (Pairs (setting_pairs p)) (cond (kind == WINDOW_UPDATE && (length p == 4 && nat_lt (slice_index p 0) 128)) (Increment (four_octets p 0)) (cond (kind == RST_STREAM && length p == 4) (Code (four_octets p 0)) (cond (is_fragment kind flags) (block_said p) (Octets p))))))
    go true e = (refl, sym (empty_list p (eqb-true (length p) 0 e)))
    go false e = pairs (kind == SETTINGS && length p % 6 == 0) refl (grind arith)

-- ---- frames

type_again : (k : ℕ) → k < 256 → SaysType (type_text k) k
type_again k h = go (slice_get type_names k) refl
  where
    go : (o : Option (List ℕ)) → slice_get type_names k ≡ o → SaysType (unwrap_or o (84 ∷ encode_lower (k ∷ []))) k
    go (Some name) e = inl e
    go None e = inr (encode_lower (k ∷ []), refl, octet_again k h)

stream_again : (stream : ℕ) (reserved : Bool) → stream < 2 ^ 31 → SaysStream (stream_text stream reserved) stream reserved
stream_again stream false h = number_again _ stream (omega arith) (omega (arith, h))
stream_again stream true h = (decimal stream, refl, number_again _ stream (omega arith) (omega (arith, h)))

length_small : (b : List ℕ) → IsBytes b → (head_of b).length < 2 ^ 24
unfolding head_of
length_small b h =
    let b0 = h 0 in
    let b1 = h 1 in
    let b2 = h 2 in
    omega arith

identifier_small : (b : List ℕ) → IsBytes b → (head_of b).stream < 2 ^ 31
unfolding head_of
identifier_small b h =
    let b6 = h 6 in
    let b7 = h 7 in
    let b8 = h 8 in
    omega arith

-- the payload of the frame at the front
abbrev payload_in : List ℕ → List ℕ
payload_in b = take (head_of b).length (drop 9 b)

says_frame : (b : List ℕ) → IsBytes b → 9 + (head_of b).length ≤ length b → Says (statement_text (frame_said (head_of b) (payload_in b))) (frame_said (head_of b) (payload_in b))
unfolding head_of
says_frame b h whole =
    let p = payload_in b in
    let enough : (head_of b).length ≤ length (drop 9 b) = simp length-drop (omega arith) in
    let exact : length p ≡ (head_of b).length = length-take-le (head_of b).length (drop 9 b) enough in
    let small = length_small b h in
    let said = payload_again (head_of b).kind (head_of b).flags p (bytes_below (head_of b).length (drop 9 b) (bytes_after 9 b h)) in
    let len : length (payload_octets (payload_said (head_of b).kind (head_of b).flags p)) ≡ (head_of b).length = ap length said.1 ∙ exact in (
      type_text (head_of b).kind,
      encode_lower ((head_of b).flags ∷ []),
      stream_text (head_of b).stream (head_of b).reserved,
      payload_text (payload_said (head_of b).kind (head_of b).flags p),
      refl,
      type_again (head_of b).kind (h 3),
      octet_again (head_of b).flags (h 4),
      stream_again (head_of b).stream (head_of b).reserved (identifier_small b h),
      said.0,
      rw len small,
    )

-- the last four octets of a head
stream_back : (a b c d : ℕ) → a < 256 → b < 256 → c < 256 → d < 256
    → stream_octets (16777216 * (a % 128) + 65536 * b + 256 * c + d) (nat_le 128 a) ≡ a ∷ b ∷ c ∷ d ∷ []
stream_back a b c d ha hb hc hd = go (nat_le 128 a) refl
  where
    go : (t : Bool) → nat_le 128 a ≡ t → stream_octets (16777216 * (a % 128) + 65536 * b + 256 * c + d) t ≡ a ∷ b ∷ c ∷ d ∷ []
    go true e =
        let high : 128 ≤ a = leb-true 128 a e in
        let word : 2 ^ 31 + (16777216 * (a % 128) + 65536 * b + 256 * c + d) ≡ 16777216 * a + 65536 * b + 256 * c + d = omega arith in
        ap (big_endian 4) word ∙ four_back a b c d ha hb hc hd
    go false e =
        let low : a < 128 = grind arith in
        let word : 16777216 * (a % 128) + 65536 * b + 256 * c + d ≡ 16777216 * a + 65536 * b + 256 * c + d = omega arith in
        ap (big_endian 4) word ∙ four_back a b c d ha hb hc hd

three_back : (a b c : ℕ) → a < 256 → b < 256 → c < 256 → big_endian 3 (65536 * a + 256 * b + c) ≡ a ∷ b ∷ c ∷ []
three_back a b c ha hb hc =
    let w = 65536 * a + 256 * b + c in
    let ea : w / 65536 % 256 ≡ a = omega arith in
    let eb : w / 256 % 256 ≡ b = omega arith in
    let ec : w / 1 % 256 ≡ c = omega arith in
    rw (ea, eb, ec) refl

frame_octets_back : (b : List ℕ) → IsBytes b → 9 + (head_of b).length ≤ length b → octets_of (frame_said (head_of b) (payload_in b)) ≡ take (9 + (head_of b).length) b
unfolding head_of
frame_octets_back (b0 ∷ b1 ∷ b2 ∷ b3 ∷ b4 ∷ b5 ∷ b6 ∷ b7 ∷ b8 ∷ rest) h whole =
    let n = 65536 * b0 + 256 * b1 + b2 in
    let fits : n ≤ length rest = omega arith in
    let exact : length (take n rest) ≡ n = length-take-le n rest fits in
    let said = payload_again b3 b4 (take n rest) (bytes_below n rest (λ i. h (suc (suc (suc (suc (suc (suc (suc (suc (suc i))))))))))) in
    let nine : 9 + n ≡ suc (suc (suc (suc (suc (suc (suc (suc (suc n)))))))) = omega arith in
    let stream = stream_octets (16777216 * (b5 % 128) + 65536 * b6 + 256 * b7 + b8) (nat_le 128 b5) in
    ap (λ (p : List ℕ). big_endian 3 (length p) ++ b3 ∷ b4 ∷ (stream ++ p)) said.1
    ∙ ap (λ (l : ℕ). big_endian 3 l ++ b3 ∷ b4 ∷ (stream ++ take n rest)) exact
    ∙ ap (λ (x : List ℕ). x ++ b3 ∷ b4 ∷ (stream ++ take n rest)) (three_back b0 b1 b2 (h 0) (h 1) (h 2))
    ∙ ap (λ (x : List ℕ). b0 ∷ b1 ∷ b2 ∷ b3 ∷ b4 ∷ (x ++ take n rest)) (stream_back b5 b6 b7 b8 (h 5) (h 6) (h 7) (h 8))
    ∙ rw nine refl
frame_octets_back b h whole = absurd (omega arith)

-- ---- all lines

-- a line and a script below it
line_first : (s : Statement) (below : List ℕ) (rest : List ℕ) → Lacks 10 (statement_text s) → Says (statement_text s) s → Script below rest → Script (line_text s ++ below) (octets_of s ++ rest)
line_first s below rest lacks says script =
    rw (append_assoc (statement_text s) (10 ∷ []) below, slice_split_at (λ x. x == 10) (statement_text s) 10 below lacks refl)
    (octets_of s, rest, (s, says, refl), script, refl)

no_lines : Script [] []
no_lines = ([], [], (Nothing, inl refl, refl), refl, refl)

rest_again : (b : List ℕ) → IsBytes b → Script (rest_text b) b
rest_again [] h = no_lines
rest_again (x ∷ xs) h =
    let b = x ∷ xs in
    let spelled = decode_of-encode_lower b h in
    let lacks = append_lacks 10 (codes "RAW ") (encode_lower b) (literal_lacks 10 (codes "RAW ") refl) (octets_lack 10 refl (encode_lower b) b spelled) in
    subst (Script (rest_text b)) (append-nil b) (subst (λ (t : List ℕ). Script t (b ++ [])) (append-nil (rest_text b))
    (line_first (Raw b) [] [] lacks (encode_lower b, refl, (omega arith, spelled)) no_lines))

-- what a front says: it can be said without a line feed, and represents the octets that it uses
abbrev IsFrontOf : List ℕ → Front Bool Statement → Type 0
IsFrontOf b Stop = Unit {0}
IsFrontOf b (One s first used) = Lacks 10 (statement_text s) × Says (statement_text s) s × (octets_of s ≡ take used b)

frame_again : (b : List ℕ) → IsBytes b → IsFrontOf b (frame_front (head_of b) b)
frame_again b h = go (nat_lt (length b) (9 + (head_of b).length)) refl
  where
    go : (t : Bool) → nat_lt (length b) (9 + (head_of b).length) ≡ t → IsFrontOf b (cond t Stop (One (frame_said (head_of b) (payload_in b)) false (9 + (head_of b).length)))
    go true e = tt
    go false e =
        let whole : 9 + (head_of b).length ≤ length b = ltb-false _ _ e in
        let says = says_frame b h whole in
        (frame_lacks _ _ _ _ _ _ says, says, frame_octets_back b h whole)

begun : (b rest : List ℕ) → b ≡ preface ++ rest → preface ≡ take 24 b
unfolding preface
begun b rest is = rw is refl

next_again : (first : Bool) (b : List ℕ) → IsBytes b → IsFrontOf b (next_said first b)
unfolding next_said
next_again first b h = go (first && starts_with nat_eq b preface) refl
  where
    frame : (t : Bool) → IsFrontOf b (cond t Stop (frame_front (head_of b) b))
    frame true = tt
    frame false = frame_again b h

    go : (t : Bool) → (first && starts_with nat_eq b preface) ≡ t → IsFrontOf b (cond t (One Preface false 24) (cond (nat_lt (length b) 9) Stop (frame_front (head_of b) b)))
    go false e = frame (nat_lt (length b) 9)
    go true e =
        let begins = (starts_is {E = nat_eq} (λ x y. (eqb-true x y, eq-eqb x y)) b preface true (sym (both first _ e).1)).0 refl in
        (literal_lacks 10 (codes "PREFACE") refl, refl, begun b (drop 24 b) begins)

frames_again : (n : ℕ) (first : Bool) (b : List ℕ) → IsBytes b → Script (flat_map line_text (parse_upto next_said n first b).elements ++ rest_text (parse_upto next_said n first b).rest) b
frames_again zero first b h = rest_again b h
frames_again (suc n) first b h = go (next_said first b) (next_again first b h) (λ t c k. frames_again n t c k)
  where
    go : (f : Front Bool Statement) → IsFrontOf b f → ((t : Bool) (c : List ℕ) → IsBytes c → Script (flat_map line_text (parse_upto next_said n t c).elements ++ rest_text (parse_upto next_said n t c).rest) c)
        → Script (flat_map line_text (parse_first first b f (λ t rest. parse_upto next_said n t rest)).elements ++ rest_text (parse_first first b f (λ t rest. parse_upto next_said n t rest)).rest) b
    go Stop k more = rest_again b h
    go (One s t used) k more =
        let below = more t (drop used b) (bytes_after used b h) in
        let after = parse_upto next_said n t (drop used b) in
        let whole : octets_of s ++ drop used b ≡ b = ap (λ (x : List ℕ). x ++ drop used b) k.2 ∙ take-append-drop used b in
        subst (Script ((line_text s ++ flat_map line_text after.elements) ++ rest_text after.rest)) whole
        (rw append_assoc (line_first s (flat_map line_text after.elements ++ rest_text after.rest) (drop used b) k.0 k.1 below))

pub written_again : (b : List ℕ) → IsBytes b → Script (written b) b
unfolding written parse_all
written_again b h = frames_again (length b) true b h
