-- Strings, names and instructions are read as what they say, and say what they are read as.
use Rattle.std.proofs.Common.{◌≡◌, ◌∙◌, ◌*◌, ◌<◌, ◌≤◌, ◌++◌, ◌==◌, ℕ, Bool, true, false, List, [], ◌∷◌, Option, Some, None, length, refl, sym, ap, arith, inl, inr, cond, option_map, option_and_then, subst, eqb-true, slice_index, append_assoc, lit≤}
use Rattle.std.proofs.lemmas.Str.Parse.{digit_from_value}
use Rattle.hex.proofs.HexLemmas.{decode_of-ok}
use Rattle.h2_spec.specs.Texts.Assemble.{before, behind, index_of, instruction_at, is_quote, literal_at, name_at, number_at, numbered_at, octet_at, onwards, string_at, string_of, unescaped, value_at, with_octet}
use Rattle.h2_spec.specs.Hpack.Instruction.{Instruction, Indexed, Update, Literal, Mode, IncrementalIndexing, WithoutIndexing, NeverIndexed, NameRef, Ref, Named, TextStr}
use Rattle.h2_spec.specs.Texts.Script.{cut_at, is_plain, max_u32, mode_letter, quote_of, SaysCharacter, SaysInstruction, SaysName, SaysNumber, SaysOctet, SaysString, SaysText}
use Rattle.h2_spec.proofs.ReadingWords.{IsEnd, before_end, cut_back, cut_here, map_some, number_back, number_read, octet_back, octet_read, onwards_end, then_some, whole}
use Rattle.h2_spec.proofs.ScriptTexts.{number_lacks, text_lacks}

-- ---- strings

plain_step : (c : ℕ) (cs : List ℕ) → is_plain c ≡ true → unescaped (c ∷ cs) ≡ option_map (λ ds. c ∷ ds) (unescaped cs)
unfolding unescaped
plain_step c [] h = rw h refl
plain_step c (a ∷ []) h = rw h refl
plain_step c (a ∷ b ∷ cs) h = rw h refl

escape_step : (a b : ℕ) (cs : List ℕ) → unescaped (92 ∷ a ∷ b ∷ cs) ≡ with_octet (octet_at (a ∷ b ∷ [])) (unescaped cs)
unfolding unescaped
escape_step a b cs = refl

pub two_digits : (digits : List ℕ) (c : ℕ) → SaysOctet digits c → (a b : ℕ) × (digits ≡ a ∷ b ∷ [])
two_digits digits c h = go digits (decode_of-ok digits (c ∷ []) h).2
  where
    go : (ds : List ℕ) → length ds ≡ 2 * length (c ∷ []) → (a b : ℕ) × (ds ≡ a ∷ b ∷ [])
    go [] e = absurd (omega arith)
    go (a ∷ []) e = absurd (omega arith)
    go (a ∷ b ∷ []) e = (a, b, refl)
    go (a ∷ b ∷ d ∷ ds) e = absurd (omega arith)

pub text_read : (text octets : List ℕ) → SaysText text octets → unescaped text ≡ Some octets
unfolding unescaped
text_read text [] h = rw h refl
text_read text (c ∷ cs) h = go h.3 (text_read h.1 cs h.4)
  where
    go : SaysCharacter h.0 c → unescaped h.1 ≡ Some cs → unescaped text ≡ Some (c ∷ cs)
    go (inl a) more =
        let is : text ≡ c ∷ h.1 = h.2 ∙ ap (λ (x : List ℕ). x ++ h.1) a.0 in
        ap unescaped is ∙ plain_step c h.1 a.1 ∙ ap (option_map (λ ds. c ∷ ds)) more
    go (inr a) more =
        let two = two_digits a.0 c a.2 in
        let is : text ≡ 92 ∷ two.0 ∷ two.1 ∷ h.1 = h.2 ∙ ap (λ (x : List ℕ). x ++ h.1) (a.1 ∙ ap (λ (x : List ℕ). 92 ∷ x) two.2) in
        let octet : octet_at (two.0 ∷ two.1 ∷ []) ≡ Some c = ap octet_at (sym two.2) ∙ octet_read a.0 c a.2 in
        ap unescaped is ∙ escape_step two.0 two.1 h.1 ∙ rw (octet, more) refl

plain_back : (c : ℕ) (cs octets : List ℕ) → is_plain c ≡ true → option_map (λ ds. c ∷ ds) (unescaped cs) ≡ Some octets → ((o : List ℕ) → unescaped cs ≡ Some o → SaysText cs o) → SaysText (c ∷ cs) octets
plain_back c cs octets h e more =
    let step = map_some (λ ds. c ∷ ds) (unescaped cs) octets e in
    subst (SaysText (c ∷ cs)) step.2 (c ∷ [], cs, refl, inl (refl, h), more step.0 step.1)

escape_back : (a b : ℕ) (cs octets : List ℕ) → with_octet (octet_at (a ∷ b ∷ [])) (unescaped cs) ≡ Some octets → ((o : List ℕ) → unescaped cs ≡ Some o → SaysText cs o) → SaysText (92 ∷ a ∷ b ∷ cs) octets
escape_back a b cs octets e more = go (octet_at (a ∷ b ∷ [])) refl e
  where
    go : (o : Option ℕ) → octet_at (a ∷ b ∷ []) ≡ o → with_octet o (unescaped cs) ≡ Some octets → SaysText (92 ∷ a ∷ b ∷ cs) octets
    go None is k = absurd (cc)
    go (Some c) is k =
        let step = map_some (λ ds. c ∷ ds) (unescaped cs) octets k in
        subst (SaysText (92 ∷ a ∷ b ∷ cs)) step.2 (92 ∷ a ∷ b ∷ [], cs, refl, inr (a ∷ b ∷ [], refl, octet_back (a ∷ b ∷ []) c is), more step.0 step.1)

pub text_back : (text octets : List ℕ) → unescaped text ≡ Some octets → SaysText text octets
unfolding unescaped
text_back [] octets e = let same : [] ≡ octets = cc in subst (SaysText []) same refl
text_back (c ∷ []) octets e = go (is_plain c) refl e
  where
    go : (t : Bool) → is_plain c ≡ t → cond t (Some (c ∷ [])) None ≡ Some octets → SaysText (c ∷ []) octets
    go true is k = let same : c ∷ [] ≡ octets = cc in subst (SaysText (c ∷ [])) same (c ∷ [], [], refl, inl (refl, is), refl)
    go false is k = absurd (cc)
text_back (c ∷ a ∷ []) octets e = go (is_plain c) refl e (λ o k. text_back (a ∷ []) o k)
  where
    go : (t : Bool) → is_plain c ≡ t → cond t (option_map (λ cs. c ∷ cs) (unescaped (a ∷ []))) None ≡ Some octets → ((o : List ℕ) → unescaped (a ∷ []) ≡ Some o → SaysText (a ∷ []) o) → SaysText (c ∷ a ∷ []) octets
    go true is k more = plain_back c (a ∷ []) octets is k more
    go false is k more = absurd (cc)
text_back (c ∷ a ∷ b ∷ cs) octets e = go (is_plain c) refl e (λ o k. text_back (a ∷ b ∷ cs) o k) (λ o k. text_back cs o k)
  where
    escape : (t : Bool) → (c == 92) ≡ t → cond t (with_octet (octet_at (a ∷ b ∷ [])) (unescaped cs)) None ≡ Some octets → ((o : List ℕ) → unescaped cs ≡ Some o → SaysText cs o) → SaysText (c ∷ a ∷ b ∷ cs) octets
    escape true is k more = subst (λ (x : ℕ). SaysText (x ∷ a ∷ b ∷ cs) octets) (sym (eqb-true c 92 is)) (escape_back a b cs octets k more)
    escape false is k more = absurd (cc)

    go : (t : Bool) → is_plain c ≡ t → cond t (option_map (λ ds. c ∷ ds) (unescaped (a ∷ b ∷ cs))) (cond (c == 92) (with_octet (octet_at (a ∷ b ∷ [])) (unescaped cs)) None) ≡ Some octets
        → ((o : List ℕ) → unescaped (a ∷ b ∷ cs) ≡ Some o → SaysText (a ∷ b ∷ cs) o) → ((o : List ℕ) → unescaped cs ≡ Some o → SaysText cs o) → SaysText (c ∷ a ∷ b ∷ cs) octets
    go true is k more past = plain_back c (a ∷ b ∷ cs) octets is k more
    go false is k more past = escape (c == 92) refl k past

read_as : (huffman : Bool) (t inside rest : List ℕ) → SaysText inside t → string_at (quote_of huffman ∷ ((inside ++ quote_of huffman ∷ []) ++ rest)) ≡ Some (record { huffman = huffman; text = t }, rest)
read_as true t inside rest h =
    let cut = cut_here 39 inside rest (text_lacks 39 (refl, refl, refl) inside t h) in
    rw (append_assoc inside (39 ∷ []) rest, cut, text_read inside t h) refl
read_as false t inside rest h =
    let cut = cut_here 34 inside rest (text_lacks 34 (refl, refl, refl) inside t h) in
    rw (append_assoc inside (34 ∷ []) rest, cut, text_read inside t h) refl

pub string_read : (first : List ℕ) (s : TextStr) (rest : List ℕ) → SaysString first s → string_at (first ++ rest) ≡ Some (s, rest)
string_read first s rest h = ap (λ (x : List ℕ). string_at (x ++ rest)) h.1 ∙ read_as s.huffman s.text h.0 rest h.2

-- a value and a text that are read alike
abbrev pub Reads : {A : Type 0} → (List ℕ → A → Type 0) → List ℕ → A → List ℕ → Type 0
Reads Says text x rest = (first : List ℕ) × (text ≡ first ++ rest) × Says first x

same_both : {A : Type 0} (x y : A) (a b : List ℕ) → ◌≡◌ {A = A × List ℕ} (x, a) (y, b) → (x ≡ y) × (a ≡ b)
same_both x y a b e = (ap (λ p. p.0) e, ap (λ p. p.1) e)

pub moved : {A : Type 0} (Says : List ℕ → A → Type 0) (text : List ℕ) (x y : A) (a b : List ℕ) → ◌≡◌ {A = A × List ℕ} (x, a) (y, b) → Reads Says text x a → Reads Says text y b
moved Says text x y a b e h = subst (λ (z : _ × List ℕ). Reads Says text z.0 z.1) e h

string_back_as : (huffman : Bool) (xs rest : List ℕ) (s : TextStr) → option_and_then (string_of huffman) (cut_at (quote_of huffman) xs) ≡ Some (s, rest) → Reads SaysString (quote_of huffman ∷ xs) s rest
string_back_as huffman xs rest s e =
    let step = then_some (string_of huffman) (cut_at (quote_of huffman) xs) (s, rest) e in
    let inside = step.0.0 in
    let behind_it = step.0.1 in
    let here = cut_back (quote_of huffman) xs inside behind_it step.1 in
    let text = map_some {B = TextStr × List ℕ} (λ octets. (record { huffman = huffman; text = octets }, behind_it)) (unescaped inside) (s, rest) step.2 in
    moved SaysString (quote_of huffman ∷ xs) (record { huffman = huffman; text = text.0 }) s behind_it rest text.2 (
      quote_of huffman ∷ (inside ++ quote_of huffman ∷ []),
      ap (λ (x : List ℕ). quote_of huffman ∷ x) (here.0 ∙ sym (append_assoc inside (quote_of huffman ∷ []) behind_it)),
      (inside, refl, text_back inside text.0 text.1),
    )

pub string_back : (text : List ℕ) (s : TextStr) (rest : List ℕ) → string_at text ≡ Some (s, rest) → Reads SaysString text s rest
string_back [] s rest e = absurd (cc)
string_back (q ∷ xs) s rest e = go (q == 34) refl e
  where
    single : (t : Bool) → (q == 39) ≡ t → cond t (option_and_then (string_of true) (cut_at 39 xs)) None ≡ Some (s, rest) → Reads SaysString (q ∷ xs) s rest
    single true is k = subst (λ (c : ℕ). Reads SaysString (c ∷ xs) s rest) (sym (eqb-true q 39 is)) (string_back_as true xs rest s k)
    single false is k = absurd (cc)

    go : (t : Bool) → (q == 34) ≡ t → cond t (option_and_then (string_of false) (cut_at 34 xs)) (cond (q == 39) (option_and_then (string_of true) (cut_at 39 xs)) None) ≡ Some (s, rest) → Reads SaysString (q ∷ xs) s rest
    go true is k = subst (λ (c : ℕ). Reads SaysString (c ∷ xs) s rest) (sym (eqb-true q 34 is)) (string_back_as false xs rest s k)
    go false is k = single (q == 39) refl k

-- ---- names

no_quote : (a rest : List ℕ) (n : ℕ) → SaysNumber max_u32 a n → is_quote (slice_index (a ++ rest) 0) ≡ false
no_quote [] rest n h = absurd (omega (arith, h.0.0))
no_quote (c ∷ cs) rest n h = let range = digit_from_value c h.0.1.0 in differs c range.0
  where
    differs : (d : ℕ) → 48 ≤ d → is_quote d ≡ false
    differs d low = let a : (d == 34) ≡ false = grind arith in let b : (d == 39) ≡ false = grind arith in rw (a, b) refl

index_is : (i : ℕ) → 0 < i → index_of i ≡ Some (Ref i)
index_is i h = let some : (i == 0) ≡ false = grind arith in rw some refl

name_read : (a : List ℕ) (name : NameRef TextStr) (rest : List ℕ) → IsEnd 61 rest → SaysName a name → name_at (a ++ rest) ≡ Some (name, rest)
name_read a (Ref i) rest end h =
    let lacks = number_lacks 61 (lit≤ tt) max_u32 a i h.0 in
    rw (no_quote a rest i h.0, before_end 61 a rest lacks end, onwards_end 61 a rest lacks end, number_read max_u32 a i h.0, index_is i h.1) refl
name_read a (Named s) rest end h =
    let quoted : is_quote (slice_index (a ++ rest) 0) ≡ true = ap (λ (x : List ℕ). is_quote (slice_index (x ++ rest) 0)) h.1 ∙ quotes s.huffman in
    rw (quoted, string_read a s rest h) refl
  where
    quotes : (huffman : Bool) → is_quote (quote_of huffman) ≡ true
    quotes true = refl
    quotes false = refl

name_back : (text : List ℕ) (name : NameRef TextStr) (rest : List ℕ) → name_at text ≡ Some (name, rest) → Reads SaysName text name rest
name_back text name rest e = go (is_quote (slice_index text 0)) e
  where
    number : (i : ℕ) → number_at max_u32 (before 61 text) ≡ Some i → (n : NameRef TextStr) → (t : Bool) → (i == 0) ≡ t → cond t None (Some (Ref i)) ≡ Some n → SaysName (before 61 text) n
    number i is n true zero_is k = absurd (cc)
    number i is n false some k = let same : Ref i ≡ n = cc in subst (SaysName (before 61 text)) same (number_back max_u32 (before 61 text) i is, grind arith)

    go : (t : Bool) → cond t (option_map {U = NameRef TextStr × List ℕ} (λ (p : TextStr × List ℕ). (Named p.0, p.1)) (string_at text)) (option_map {U = NameRef TextStr × List ℕ} (λ n. (n, onwards 61 text)) (option_and_then index_of (number_at max_u32 (before 61 text)))) ≡ Some (name, rest) → Reads SaysName text name rest
    go true k =
        let step = map_some {B = NameRef TextStr × List ℕ} (λ (p : TextStr × List ℕ). (Named p.0, p.1)) (string_at text) (name, rest) k in
        let said = string_back text step.0.0 step.0.1 step.1 in
        moved SaysName text (Named step.0.0) name step.0.1 rest step.2 (said.0, said.1, said.2)
    go false k =
        let step = map_some {B = NameRef TextStr × List ℕ} (λ n. (n, onwards 61 text)) (option_and_then index_of (number_at max_u32 (before 61 text))) (name, rest) k in
        let index = then_some index_of (number_at max_u32 (before 61 text)) step.0 step.1 in
        moved SaysName text step.0 name (onwards 61 text) rest step.2 (before 61 text, sym (whole 61 text), number index.0 index.1 step.0 (index.0 == 0) refl index.2)

-- ---- instructions

pub behind_back : (c : ℕ) (text rest : List ℕ) → behind c text ≡ Some rest → text ≡ c ∷ rest
behind_back c [] rest e = absurd (cc)
behind_back c (x ∷ xs) rest e = go (x == c) refl e
  where
    go : (t : Bool) → (x == c) ≡ t → cond t (Some xs) None ≡ Some rest → x ∷ xs ≡ c ∷ rest
    go true is k = let same : xs ≡ rest = cc in rw (same, eqb-true x c is) refl
    go false is k = absurd (cc)

value_read : (mode : Mode) (name : NameRef TextStr) (b : List ℕ) (value : TextStr) (rest : List ℕ) → SaysString b value → value_at mode name (61 ∷ (b ++ rest)) ≡ Some (Literal mode name value, rest)
value_read mode name b value rest h = rw (string_read b value rest h) refl

literal_read : (mode : Mode) (a b : List ℕ) (name : NameRef TextStr) (value : TextStr) (rest : List ℕ) → SaysName a name → SaysString b value → literal_at mode ((a ++ 61 ∷ b) ++ rest) ≡ Some (Literal mode name value, rest)
literal_read mode a b name value rest ha hb =
    rw (append_assoc a (61 ∷ b) rest, name_read a name (61 ∷ (b ++ rest)) (inr (b ++ rest, refl)) ha) (value_read mode name b value rest hb)

numbered_read : (f : ℕ → Instruction) (digits rest : List ℕ) (n : ℕ) → IsEnd 44 rest → SaysNumber max_u32 digits n → numbered_at f (digits ++ rest) ≡ Some (f n, rest)
numbered_read f digits rest n end h =
    let lacks = number_lacks 44 (lit≤ tt) max_u32 digits n h in
    rw (before_end 44 digits rest lacks end, onwards_end 44 digits rest lacks end, number_read max_u32 digits n h) refl

pub instruction_read : (first : List ℕ) (i : Instruction) (rest : List ℕ) → IsEnd 44 rest → SaysInstruction first i → instruction_at (first ++ rest) ≡ Some (i, rest)
unfolding instruction_at
instruction_read first (Indexed n) rest end h = ap (λ (x : List ℕ). instruction_at (x ++ rest)) h.1 ∙ numbered_read Indexed h.0 rest n end h.2
instruction_read first (Update n) rest end h = ap (λ (x : List ℕ). instruction_at (x ++ rest)) h.1 ∙ numbered_read Update h.0 rest n end h.2
instruction_read first (Literal IncrementalIndexing name value) rest end h = ap (λ (x : List ℕ). instruction_at (x ++ rest)) h.2 ∙ literal_read IncrementalIndexing h.0 h.1 name value rest h.3 h.4
instruction_read first (Literal WithoutIndexing name value) rest end h = ap (λ (x : List ℕ). instruction_at (x ++ rest)) h.2 ∙ literal_read WithoutIndexing h.0 h.1 name value rest h.3 h.4
instruction_read first (Literal NeverIndexed name value) rest end h = ap (λ (x : List ℕ). instruction_at (x ++ rest)) h.2 ∙ literal_read NeverIndexed h.0 h.1 name value rest h.3 h.4

numbered_back : (f : ℕ → Instruction) (text : List ℕ) (i : Instruction) (rest : List ℕ) → numbered_at f text ≡ Some (i, rest)
    → (n : ℕ) × (digits : List ℕ) × (text ≡ digits ++ rest) × SaysNumber max_u32 digits n × (f n ≡ i)
numbered_back f text i rest e =
    let step = map_some {B = Instruction × List ℕ} (λ n. (f n, onwards 44 text)) (number_at max_u32 (before 44 text)) (i, rest) e in
    let same = same_both (f step.0) i (onwards 44 text) rest step.2 in
    (step.0, before 44 text, sym (whole 44 text) ∙ ap (λ (x : List ℕ). before 44 text ++ x) same.1, number_back max_u32 (before 44 text) step.0 step.1, same.0)

literal_back : (mode : Mode) (text : List ℕ) (i : Instruction) (rest : List ℕ) → literal_at mode text ≡ Some (i, rest) → Reads SaysInstruction (mode_letter mode ∷ text) i rest
literal_back mode text i rest e =
    let step = then_some (λ (p : NameRef TextStr × List ℕ). value_at mode p.0 p.1) (name_at text) (i, rest) e in
    let name = name_back text step.0.0 step.0.1 step.1 in
    let last = map_some {B = Instruction × List ℕ} (λ (p : TextStr × List ℕ). (Literal mode step.0.0 p.0, p.1)) (option_and_then string_at (behind 61 step.0.1)) (i, rest) step.2 in
    let sign = then_some string_at (behind 61 step.0.1) last.0 last.1 in
    let equals = behind_back 61 step.0.1 sign.0 sign.1 in
    let value = string_back sign.0 last.0.0 last.0.1 sign.2 in
    let seen : text ≡ (name.0 ++ 61 ∷ value.0) ++ last.0.1 =
    name.1 ∙ ap (λ (x : List ℕ). name.0 ++ x) (equals ∙ ap (λ (x : List ℕ). 61 ∷ x) value.1) ∙ sym (append_assoc name.0 (61 ∷ value.0) last.0.1) in
    moved SaysInstruction (mode_letter mode ∷ text) (Literal mode step.0.0 last.0.0) i last.0.1 rest last.2 (
      mode_letter mode ∷ (name.0 ++ 61 ∷ value.0),
      ap (λ (x : List ℕ). mode_letter mode ∷ x) seen,
      (name.0, value.0, refl, name.2, value.2),
    )

pub instruction_back : (text : List ℕ) (i : Instruction) (rest : List ℕ) → instruction_at text ≡ Some (i, rest) → Reads SaysInstruction text i rest
unfolding instruction_at
instruction_back [] i rest e = absurd (cc)
instruction_back (c ∷ cs) i rest e = indexed (c == 105) refl e
  where
    moved_letter : (d : ℕ) → (c == d) ≡ true → Reads SaysInstruction (d ∷ cs) i rest → Reads SaysInstruction (c ∷ cs) i rest
    moved_letter d is h = subst (λ (x : ℕ). Reads SaysInstruction (x ∷ cs) i rest) (sym (eqb-true c d is)) h

    never : (t : Bool) → (c == 118) ≡ t → cond t (literal_at NeverIndexed cs) None ≡ Some (i, rest) → Reads SaysInstruction (c ∷ cs) i rest
    never true is k = moved_letter 118 is (literal_back NeverIndexed cs i rest k)
    never false is k = absurd (cc)

    without : (t : Bool) → (c == 110) ≡ t → cond t (literal_at WithoutIndexing cs) (cond (c == 118) (literal_at NeverIndexed cs) None) ≡ Some (i, rest) → Reads SaysInstruction (c ∷ cs) i rest
    without true is k = moved_letter 110 is (literal_back WithoutIndexing cs i rest k)
    without false is k = never (c == 118) refl k

    add : (t : Bool) → (c == 97) ≡ t → cond t (literal_at IncrementalIndexing cs) (cond (c == 110) (literal_at WithoutIndexing cs) (cond (c == 118) (literal_at NeverIndexed cs) None)) ≡ Some (i, rest) → Reads SaysInstruction (c ∷ cs) i rest
    add true is k = moved_letter 97 is (literal_back IncrementalIndexing cs i rest k)
    add false is k = without (c == 110) refl k

    update : (t : Bool) → (c == 117) ≡ t → cond t (numbered_at Update cs) (cond (c == 97) (literal_at IncrementalIndexing cs) (cond (c == 110) (literal_at WithoutIndexing cs) (cond (c == 118) (literal_at NeverIndexed cs) None))) ≡ Some (i, rest) → Reads SaysInstruction (c ∷ cs) i rest
    update true is k =
        let n = numbered_back Update cs i rest k in
        moved_letter 117 is (117 ∷ n.1, ap (λ (x : List ℕ). 117 ∷ x) n.2, subst (SaysInstruction (117 ∷ n.1)) n.4 (n.1, refl, n.3))
    update false is k = add (c == 97) refl k

    indexed : (t : Bool) → (c == 105) ≡ t → cond t (numbered_at Indexed cs) (cond (c == 117) (numbered_at Update cs) (cond (c == 97) (literal_at IncrementalIndexing cs) (cond (c == 110) (literal_at WithoutIndexing cs) (cond (c == 118) (literal_at NeverIndexed cs) None)))) ≡ Some (i, rest) → Reads SaysInstruction (c ∷ cs) i rest
    indexed true is k =
        let n = numbered_back Indexed cs i rest k in
        moved_letter 105 is (105 ∷ n.1, ap (λ (x : List ℕ). 105 ∷ x) n.2, subst (SaysInstruction (105 ∷ n.1)) n.4 (n.1, refl, n.3))
    indexed false is k = update (c == 117) refl k
