-- Octets that the texts of a script lack, and octets that are bytes.
use Rattle.std.proofs.Common.{◌≡◌, ◌∙◌, ◌+◌, ◌<◌, ◌≤◌, ◌++◌, ◌==◌, ◌&&◌, not, ℕ, Bool, true, false, zero, suc, List, [], ◌∷◌, Some, codes, drop, take, refl, sym, ap, arith, inl, inr, get_or, lit<, lit≤, subst, eqb-true, true≢false, slice_get, IsTrue}
use Rattle.std.specs.List.{All, AllPass, list_all}
use Rattle.std.specs.Char.{digit_value}
use Rattle.std.specs.Str.Parse.{AllDigits}
use Rattle.std.proofs.lemmas.List.{get_or-drop}
use Rattle.std.proofs.lemmas.List.Elements.{All-append, All-cons}
use Rattle.hex.specs.Hex.{IsBytes, is_hex_digit}
use Rattle.hex.proofs.HexLemmas.{decode_of-ok}
use Rattle.h2_spec.specs.Hpack.Instruction.{Instruction, Indexed, Update, Literal, Mode, IncrementalIndexing, WithoutIndexing, NeverIndexed, NameRef, Ref, Named, TextStr}
use Rattle.h2_spec.specs.Frames.FrameType.{type_names}
use Rattle.h2_spec.specs.Texts.Script.{Payload, Empty, Octets, Pairs, Increment, Code, Instructions, AFrame, is_plain, mode_letter, quote_of, Says, SaysCharacter, SaysEach, SaysInstruction, SaysName, SaysNumber, SaysOctets, SaysPayload, SaysSetting, SaysStream, SaysString, SaysText, SaysType}

-- ---- no octet of a text is c

abbrev pub Lacks : ℕ → List ℕ → Type 0
Lacks c xs = All (λ x. (x == c) ≡ false) xs

pub nothing_lacks : (c : ℕ) → Lacks c []
nothing_lacks c k d lt = absurd (omega arith)

-- a text that begins with another octet
pub cons_lacks : (c x : ℕ) (xs : List ℕ) → (x == c) ≡ false → Lacks c xs → Lacks c (x ∷ xs)
cons_lacks c x xs h more = All-cons (λ y. (y == c) ≡ false) x xs h more

pub append_lacks : (c : ℕ) (xs ys : List ℕ) → Lacks c xs → Lacks c ys → Lacks c (xs ++ ys)
append_lacks c xs ys h k = All-append (λ y. (y == c) ≡ false) xs ys h k

pub literal_lacks : (c : ℕ) (xs : List ℕ) → list_all (λ x. not (x == c)) xs ≡ true → Lacks c xs
literal_lacks c [] h = nothing_lacks c
literal_lacks c (x ∷ xs) h = go (x == c) refl (literal_lacks c xs)
  where
    go : (b : Bool) → (x == c) ≡ b → (list_all (λ y. not (y == c)) xs ≡ true → Lacks c xs) → Lacks c (x ∷ xs)
    go true e more = absurd (true≢false (sym (rw e at h)))
    go false e more = cons_lacks c x xs e (more (rw e at h))

digits_lack : (c : ℕ) → 10 ≤ digit_value c → (xs : List ℕ) → AllDigits 10 xs → Lacks c xs
digits_lack c big [] h = nothing_lacks c
digits_lack c big (x ∷ xs) h = cons_lacks c x xs (go (x == c) refl) (digits_lack c big xs h.1)
  where
    go : (b : Bool) → (x == c) ≡ b → (x == c) ≡ false
    go false e = e
    go true e = let small : digit_value c < 10 = subst (λ y. digit_value y < 10) (eqb-true x c e) h.0 in absurd (omega arith)

hex_lacks : (c : ℕ) → is_hex_digit c ≡ false → (xs : List ℕ) → AllPass is_hex_digit xs → Lacks c xs
hex_lacks c bad xs h k d lt = go (get_or xs k d) (h k d lt) (get_or xs k d == c) refl
  where
    go : (x : ℕ) → is_hex_digit x ≡ true → (b : Bool) → (x == c) ≡ b → (x == c) ≡ false
    go x digit false e = e
    go x digit true e = absurd (true≢false (sym digit ∙ ap is_hex_digit (eqb-true x c e) ∙ bad))

-- ---- words

pub number_lacks : (c : ℕ) → 10 ≤ digit_value c → (most : ℕ) (text : List ℕ) (n : ℕ) → SaysNumber most text n → Lacks c text
number_lacks c big most text n h = digits_lack c big text h.0.1

pub octets_lack : (c : ℕ) → is_hex_digit c ≡ false → (text octets : List ℕ) → SaysOctets text octets → Lacks c text
octets_lack c bad text octets h = hex_lacks c bad text (decode_of-ok text octets h).1

-- c is no octet of a text between quotes
abbrev pub IsOutside : ℕ → Type 0
IsOutside c = (is_plain c ≡ false) × ((92 == c) ≡ false) × (is_hex_digit c ≡ false)

character_lacks : (c : ℕ) → IsOutside c → (text : List ℕ) (x : ℕ) → SaysCharacter text x → Lacks c text
character_lacks c out text x h = elim h [
  | inl a ↦ rw a.0 (cons_lacks c x [] (go (x == c) refl a.1) (nothing_lacks c))
  | inr a ↦ rw a.1 (cons_lacks c 92 a.0 out.1 (octets_lack c out.2 a.0 (x ∷ []) a.2))
]
  where
    go : (b : Bool) → (x == c) ≡ b → IsTrue (is_plain x) → (x == c) ≡ false
    go false e plain = e
    go true e plain = absurd (true≢false (sym plain ∙ ap is_plain (eqb-true x c e) ∙ out.0))

pub text_lacks : (c : ℕ) → IsOutside c → (text octets : List ℕ) → SaysText text octets → Lacks c text
text_lacks c out text [] h = rw h (nothing_lacks c)
text_lacks c out text (x ∷ xs) h = rw h.2 (append_lacks c h.0 h.1 (character_lacks c out h.0 x h.3) (text_lacks c out h.1 xs h.4))

quote_differs : (c : ℕ) → (34 == c) ≡ false → (39 == c) ≡ false → (huffman : Bool) → (quote_of huffman == c) ≡ false
quote_differs c a b true = b
quote_differs c a b false = a

-- no line feed in a string, a name, an instruction, a setting

line_feed_outside : IsOutside 10
line_feed_outside = (refl, refl, refl)

string_lacks : (text : List ℕ) (s : TextStr) → SaysString text s → Lacks 10 text
string_lacks text s h =
    let quote = quote_differs 10 refl refl s.huffman in
    rw h.1 (cons_lacks 10 _ _ quote (append_lacks 10 h.0 _ (text_lacks 10 line_feed_outside h.0 s.text h.2) (cons_lacks 10 _ [] quote (nothing_lacks 10))))

name_lacks : (text : List ℕ) (name : NameRef TextStr) → SaysName text name → Lacks 10 text
name_lacks text (Ref i) h = number_lacks 10 (lit≤ tt) _ text i h.0
name_lacks text (Named s) h = string_lacks text s h

letter_differs : (mode : Mode) → (mode_letter mode == 10) ≡ false
letter_differs IncrementalIndexing = refl
letter_differs WithoutIndexing = refl
letter_differs NeverIndexed = refl

instruction_lacks : (text : List ℕ) (i : Instruction) → SaysInstruction text i → Lacks 10 text
instruction_lacks text (Indexed i) h = rw h.1 (cons_lacks 10 105 h.0 refl (number_lacks 10 (lit≤ tt) _ h.0 i h.2))
instruction_lacks text (Update n) h = rw h.1 (cons_lacks 10 117 h.0 refl (number_lacks 10 (lit≤ tt) _ h.0 n h.2))
instruction_lacks text (Literal mode name value) h =
    rw h.2 (cons_lacks 10 _ _ (letter_differs mode) (append_lacks 10 h.0 _ (name_lacks h.0 name h.3) (cons_lacks 10 61 h.1 refl (string_lacks h.1 value h.4))))

setting_lacks : (text : List ℕ) (p : ℕ × ℕ) → SaysSetting text p → Lacks 10 text
setting_lacks text p h = rw h.2 (append_lacks 10 h.0 _ (number_lacks 10 (lit≤ tt) _ h.0 p.0 h.3) (cons_lacks 10 61 h.1 refl (number_lacks 10 (lit≤ tt) _ h.1 p.1 h.4)))

each_lacks : {A : Type 0} (Says : List ℕ → A → Type 0) → ((text : List ℕ) (x : A) → Says text x → Lacks 10 text) → (text : List ℕ) (xs : List A) → SaysEach Says text xs → Lacks 10 text
each_lacks Says one text [] h = absurd h
each_lacks Says one text (x ∷ []) h = one text x h
each_lacks Says one text (x ∷ y ∷ ys) h = rw h.2 (append_lacks 10 h.0 _ (one h.0 x h.3) (cons_lacks 10 44 h.1 refl (each_lacks Says one h.1 (y ∷ ys) h.4)))

-- ---- payloads, frames

payload_lacks : (text : List ℕ) (p : Payload) → SaysPayload text p → Lacks 10 text
payload_lacks text Empty h = rw h (literal_lacks 10 (codes "-") refl)
payload_lacks text (Octets octets) h = rw h.1 (cons_lacks 10 120 h.0 refl (octets_lack 10 refl h.0 octets h.2.1))
payload_lacks text (Pairs pairs) h = rw h.1 (cons_lacks 10 115 h.0 refl (each_lacks SaysSetting setting_lacks h.0 pairs h.2))
payload_lacks text (Increment n) h = rw h.1 (cons_lacks 10 119 h.0 refl (number_lacks 10 (lit≤ tt) _ h.0 n h.2))
payload_lacks text (Code n) h = rw h.1 (cons_lacks 10 99 h.0 refl (number_lacks 10 (lit≤ tt) _ h.0 n h.2))
payload_lacks text (Instructions is) h = rw h.1 (cons_lacks 10 104 h.0 refl (each_lacks SaysInstruction instruction_lacks h.0 is h.2))

-- every name of a type lacks c
abbrev pub names_lack : ℕ → Bool
names_lack c = list_all (λ name. list_all (λ x. not (x == c)) name) type_names

both : (a b : Bool) → (a && b) ≡ true → (a ≡ true) × (b ≡ true)
both true b e = (refl, e)
both false b e = absurd (true≢false (sym e))

among : (p : List ℕ → Bool) (names : List (List ℕ)) (k : ℕ) (name : List ℕ) → list_all p names ≡ true → slice_get names k ≡ Some name → p name ≡ true
among p [] k name h e = absurd (cc)
among p (x ∷ xs) zero name h e = let same : x ≡ name = cc in ap p (sym same) ∙ (both (p x) (list_all p xs) h).0
among p (x ∷ xs) (suc k) name h e = among p xs k name (both (p x) (list_all p xs) h).1 e

pub type_lacks : (c : ℕ) → names_lack c ≡ true → (84 == c) ≡ false → is_hex_digit c ≡ false → (text : List ℕ) (kind : ℕ) → SaysType text kind → Lacks c text
type_lacks c names t bad text kind h = elim h [
  | inl a ↦ literal_lacks c text (among (λ name. list_all (λ x. not (x == c)) name) type_names kind text names a)
  | inr a ↦ rw a.1 (cons_lacks c 84 a.0 t (octets_lack c bad a.0 (kind ∷ []) a.2))
]

pub stream_lacks : (c : ℕ) → 10 ≤ digit_value c → (82 == c) ≡ false → (text : List ℕ) (n : ℕ) (reserved : Bool) → SaysStream text n reserved → Lacks c text
stream_lacks c big r text n false h = number_lacks c big _ text n h
stream_lacks c big r text n true h = rw h.1 (append_lacks c h.0 (82 ∷ []) (number_lacks c big _ h.0 n h.2) (cons_lacks c 82 [] r (nothing_lacks c)))

pub frame_lacks : (text : List ℕ) (k f n : ℕ) (r : Bool) (p : Payload) → Says text (AFrame k f n r p) → Lacks 10 text
frame_lacks text k f n r p (a, b, c, d, is, ha, hb, hc, hd, small) =
    rw is (append_lacks 10 a _ (type_lacks 10 refl refl refl a k ha)
    (cons_lacks 10 32 _ refl (append_lacks 10 b _ (octets_lack 10 refl b (f ∷ []) hb)
    (cons_lacks 10 32 _ refl (append_lacks 10 c _ (stream_lacks 10 (lit≤ tt) refl c n r hc)
    (cons_lacks 10 32 _ refl (payload_lacks d p hd)))))))

-- ---- bytes

pub bytes_after : (n : ℕ) (b : List ℕ) → IsBytes b → IsBytes (drop n b)
bytes_after n b h i = rw get_or-drop (h (n + i))

pub bytes_below : (n : ℕ) (b : List ℕ) → IsBytes b → IsBytes (take n b)
bytes_below zero b h i = lit< tt
bytes_below (suc n) [] h i = lit< tt
bytes_below (suc n) (x ∷ xs) h zero = h 0
bytes_below (suc n) (x ∷ xs) h (suc i) = bytes_below n xs (λ k. h (suc k)) i
