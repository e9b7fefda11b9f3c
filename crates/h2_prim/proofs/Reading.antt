-- Reading: what is after the codes so far, four bits later; and what a string's end says of it.
use Rattle.std.proofs.Common.{◌≡◌, ℕ, zero, suc, ◌+◌, ◌*◌, ◌/◌, ◌%◌, ◌<◌, ◌≤◌, ◌↔◌, Bool, List, [], ◌∷◌, ◌++◌, length, take, set, get_or, refl, ap, sym, subst, ◌∙◌, arith, length-append, append_assoc, ltb, ltb-false, Err, Ok, Option, Some, None, true, false, cond}
use Rattle.std.proofs.Math.Seq.{take-append-add, take-append_seam}
use Rattle.std.proofs.lemmas.List.{append-nil, take_all, take_more_set, take-set, length-take-le, get_or_default}
use borrow.Author.Tests.{ltb-true}
use Rattle.std.specs.Prelude.{IsErrOf}
use Rattle.std.specs.Option.{unwrap_or}
use Rattle.h2_spec.specs.Hpack.HuffmanCode.{bits_of, code}
use Rattle.h2_spec.specs.Hpack.Huffman.{bits, codes, HasEos, IsDecodingOf, IsHuffman, IsPadding, IsText, HuffRead, huffman_text, Text, Eos, Padding}
use Rattle.h2_spec.proofs.BitLaws.{length-bits_of, bits-more, bits_of-halves}
use Rattle.h2_spec.proofs.HuffmanLaws.{codes-append, one_answer, is_padding, text_read}
use Rattle.h2_spec.proofs.SpellingLaws.{length-bits}
use Rattle.h2_prim.specs.States.{path_of, emitted, Represents, Leads, Prints}
use Rattle.h2_prim.specs.declared.fault.HuffFault.{HuffFault}
use Rattle.h2_prim.specs.declared.fault.HuffFault.TheVariants as fault
use Rattle.h2_prim.specs.declared.tables.TheConstants.{LENGTHS, CODES}
use Rattle.h2_prim.proofs.HuffmanTable.{code_at, path_begins, path_ones, path_others, path_end, path_start}

-- ---- four bits more

pub starts : Represents (bits []) [] 0
unfolding bits codes
starts = record { octets = tt; rest = []; ended = λ h. refl; read = sym (append-nil (path_of 0) ∙ path_start) }

text-append : (t u : List ℕ) → IsText t → IsText u → IsText (t ++ u)
text-append [] u h k = k
text-append (s ∷ t) u h k = (h.0, text-append t u h.1 k)

pub stepped : (bs nibble : List Bool) (text : List ℕ) (s symbol next : ℕ) → Represents bs text s → Leads s nibble symbol next → Represents (bs ++ nibble) (text ++ emitted symbol) next
stepped bs nibble text s symbol next at f =
    let to = f at.rest at.ended in
    record {
      octets = text-append text (emitted symbol) at.octets to.octets;
      rest = to.rest;
      ended = to.ended;
      read =
          ap (λ b. b ++ nibble) at.read ∙ append_assoc (codes text) (path_of s ++ at.rest) nibble ∙ ap (λ b. codes text ++ b) (append_assoc (path_of s) at.rest nibble ∙ to.read)
          ∙ sym (append_assoc (codes text) (codes (emitted symbol)) (path_of next ++ to.rest)) ∙ ap (λ b. b ++ (path_of next ++ to.rest)) (sym (codes-append text (emitted symbol)));
    }

-- an octet that a move makes whole is at the text's end, and is not kept where it makes none
kept : (text : List ℕ) (len symbol : ℕ) → len < length text → symbol < 512 → take len text ++ emitted symbol ≡ take (len + symbol / 256) (set text len (symbol % 256))
kept text len symbol h small = at (ltb symbol 256) refl
  where
    at : (t : Bool) → ltb symbol 256 ≡ t → take len text ++ cond t [] (symbol % 256 ∷ []) ≡ take (len + symbol / 256) (set text len (symbol % 256))
    at true e = let none : len + symbol / 256 ≡ len = omega (arith, ltb-true symbol 256 e) in rw none (append-nil (take len text) ∙ sym (take-set text len (symbol % 256)))
    at false e = let one : symbol / 256 ≡ 1 = omega (arith, small, ltb-false symbol 256 e) in rw one (sym (take_more_set text len (symbol % 256) h))

pub stepped_at : (bs nibble : List Bool) (text : List ℕ) (len s symbol next : ℕ) → len < length text → symbol < 512 → Represents bs (take len text) s → Leads s nibble symbol next →
    Represents (bs ++ nibble) (take (len + symbol / 256) (set text len (symbol % 256))) next
stepped_at bs nibble text len s symbol next h small at f = subst (λ t. Represents (bs ++ nibble) t next) (kept text len symbol h small) (stepped bs nibble (take len text) s symbol next at f)

-- the halves of an octet
pub halves : (bs : List Bool) (octet : ℕ) (text : List ℕ) (s : ℕ) → Represents ((bs ++ bits_of 4 (octet / 16)) ++ bits_of 4 (octet % 16)) text s → Represents (bs ++ bits_of 8 octet) text s
halves bs octet text s at = subst (λ b. Represents b text s) (append_assoc bs (bits_of 4 (octet / 16)) (bits_of 4 (octet % 16)) ∙ ap (λ b. bs ++ b) (sym (bits_of-halves octet))) at

-- one octet more
pub octet_more : (os text : List ℕ) (i octet s : ℕ) → i < length os → get_or os i 0 ≡ octet → Represents (bits (take i os) ++ bits_of 8 octet) text s → Represents (bits (take (i + 1) os)) text s
octet_more os text i octet s h e at =
    let read : octet ≡ get_or os i octet = sym e ∙ get_or_default os i 0 octet h in
    subst (λ b. Represents b text s) (sym (bits-more os i octet h read ∙ ap (λ b. bits (take i os) ++ b) (sym (bits_of-halves octet)))) at

-- ---- enough

-- a code has five bits or more
codes_long : (t : List ℕ) → IsText t → 5 * length t ≤ length (codes t)
unfolding codes
codes_long [] h = omega arith
codes_long (s ∷ t) h =
    let c = code_at s h.0 in
    let size : length (code s) ≡ get_or LENGTHS s 0 = ap length (sym c.spelled) ∙ length-bits_of (get_or LENGTHS s 0) (get_or CODES s 0) in
    omega (arith, c.long, size, codes_long t h.1, length-append (code s) (codes t))

-- so there is space for one more octet of text while an octet is being read
pub has_enough : (bs : List Bool) (text : List ℕ) (len s : ℕ) → Represents bs (take len text) s → len ≤ length text → length bs < 5 * length text → len < length text
has_enough bs text len s at within more =
    let size : length (take len text) ≡ len = length-take-le len text within in
    omega (arith, size, more, ap length at.read, length-append (codes (take len text)) (path_of s ++ at.rest), codes_long (take len text) at.octets)

pub length-bits-take : (os : List ℕ) (i : ℕ) → i ≤ length os → length (bits (take i os)) ≡ 8 * i
length-bits-take os i h = length-bits (take i os) ∙ ap (λ n. 8 * n) (length-take-le i os h)

kept_front : (n m : ℕ) (xs ys : List ℕ) → n ≤ length xs → n ≤ m → take n (take m (xs ++ ys)) ≡ take n xs
kept_front zero m xs ys h k = refl
kept_front (suc n) zero xs ys h k = absurd (omega arith)
kept_front (suc n) (suc m) [] ys h k = absurd (omega arith)
kept_front (suc n) (suc m) (x ∷ xs) ys h k = ap (λ r. x ∷ r) (kept_front n m xs ys (omega arith) (omega arith))

-- the octets before stay where zeros are added, or are not
pub stay : (b : Bool) (before end : ℕ) (items zeros now : List ℕ) → now ≡ cond b (take end items ++ zeros) items → before ≡ length items → before ≤ end → take before now ≡ items
stay true before end items zeros now e n h =
    let whole : take end items ≡ items = take_all end items (omega arith) in
    rw (e, whole, n) (take-append_seam items zeros)
stay false before end items zeros now e n h = rw e (take_all before items (omega arith))

-- what a text leaves after the octets before it, once it is cut to its length
pub appended : (before len size : ℕ) (front new rest items : List ℕ) → front ≡ items → before ≡ length items → len ≤ length new → before + len ≤ size → take (before + len) (take size ((front ++ new) ++ rest)) ≡ items ++ take len new
appended before len size front new rest items same count h k =
    let size_of : length (front ++ new) ≡ length front + length new = length-append front new in
    kept_front (before + len) size (front ++ new) rest (omega (arith, size_of, ap length same)) k
    ∙ rw (same, count) (take-append-add items new len)

-- ---- what a string is, by the state at its end

pub whole : (octets text : List ℕ) (s : ℕ) → Represents (bits octets) text s → s < 8 → huffman_text octets ≡ Text text
whole octets text s at few =
    let none : at.rest ≡ [] = at.ended (omega arith) in
    one_answer octets (Text text) (record {
      text = at.octets;
      padding = s;
      short = omega arith;
      spelled = at.read ∙ ap (λ r. codes text ++ (path_of s ++ r)) none ∙ ap (λ p. codes text ++ p) (append-nil (path_of s) ∙ path_ones s few);
    })

pub ended : (octets text : List ℕ) (s : ℕ) → Represents (bits octets) text s → s ≡ 256 → huffman_text octets ≡ Eos
ended octets text s at e =
    one_answer octets Eos (record {
      text = text;
      is_text = at.octets;
      rest = at.rest;
      spelled = at.read ∙ ap (λ p. codes text ++ (p ++ at.rest)) (ap path_of e ∙ path_end);
    })

pub neither : (octets text : List ℕ) (s : ℕ) → Represents (bits octets) text s → 8 ≤ s → s < 256 → huffman_text octets ≡ Padding
neither octets text s at large small =
    let none : at.rest ≡ [] = at.ended small in
    let read : bits octets ≡ codes text ++ path_of s = at.read ∙ ap (λ r. codes text ++ (path_of s ++ r)) none ∙ ap (λ p. codes text ++ p) (append-nil (path_of s)) in
    one_answer octets Padding (is_padding octets text (path_of s) at.octets (path_begins s small) read (λ k few e. path_others s k large small few e))

-- ---- answers

-- what a string is refused for
pub record Refusal (T : Type 0) (r : HuffRead) (f : HuffFault) : Type 0 where
  pub eos : IsErrOf {T = T} (Err f) fault.Eos ↔ (r ≡ Eos)
  pub padding : IsErrOf {T = T} (Err f) fault.Padding ↔ (r ≡ Padding)

pub refused : {T : Type 0} (r : HuffRead) (text : List ℕ) (f : Option HuffFault) → Prints r text f → Refusal T r (unwrap_or f fault.NoMemory)
refused r text None h = record { eos = (λ e. cc, λ e. cc); padding = (λ e. cc, λ e. cc) }
refused r text (Some fault.Eos) h = record { eos = (λ e. h, λ e. refl); padding = (λ e. cc, λ e. cc) }
refused r text (Some fault.Padding) h = record { eos = (λ e. cc, λ e. cc); padding = (λ e. h, λ e. refl) }
refused r text (Some fault.NoMemory) h = absurd h

-- a text is no refusal
pub accepted : {T : Type 0} (r : HuffRead) (text : List ℕ) (v : T) → r ≡ Text text → (IsErrOf {E = HuffFault} (Ok v) fault.Eos ↔ (r ≡ Eos)) × (IsErrOf {E = HuffFault} (Ok v) fault.Padding ↔ (r ≡ Padding))
accepted r text v h = ((λ e. cc, λ e. cc), (λ e. cc, λ e. cc))

-- ---- what the answers say of the octets

pub is_huffman : (o t : List ℕ) → huffman_text o ≡ Text t → IsHuffman t o
is_huffman o t e = subst (IsDecodingOf o) e (text_read o)

pub where_eos : (P : Type 0) (o : List ℕ) → (P ↔ (huffman_text o ≡ Eos)) → P ↔ HasEos o
where_eos P o h = (λ p. subst (IsDecodingOf o) (h.0 p) (text_read o), λ has. h.1 (one_answer o Eos has))

pub where_padding : (P : Type 0) (o : List ℕ) → (P ↔ (huffman_text o ≡ Padding)) → P ↔ IsPadding o
where_padding P o h = (λ p. subst (IsDecodingOf o) (h.0 p) (text_read o), λ none. h.1 (one_answer o Padding none))
