-- Settings, payloads, types and streams are read as what they say, and say what they are read as.
use Rattle.std.proofs.Common.{◌≡◌, ◌∙◌, ◌+◌, ◌-◌, ◌<◌, ◌++◌, ◌==◌, ◌&&◌, ℕ, Bool, true, false, zero, suc, List, [], ◌∷◌, Option, Some, None, codes, take, length, refl, sym, ap, arith, inl, inr, cond, nat_lt, option_map, option_and_then, subst, eqb-true, ltb-true, lt-ltb, slice_index, slice_get, true≢false, append-nil, bytes_eq, lit≤}
use Rattle.std.proofs.Math.Seq.{take-append_seam}
use Rattle.std.proofs.lemmas.List.{length-append}
use Rattle.std.proofs.lemmas.Slice.Eq.{bytes_eq-Decides}
use Rattle.h2_spec.specs.Texts.Assemble.{all_at, before, behind, each_at, instruction_at, is_reserved, number_at, octet_at, octets_at, one_and, onwards, pair_of, payload_at, setting_at, setting_of, stream_at, type_at}
use Rattle.h2_spec.specs.Frames.FrameType.{type_names}
use Rattle.h2_spec.specs.Texts.Script.{cut_at, Payload, Empty, Octets, Pairs, Increment, Code, Instructions, max_stream, max_u32, SaysEach, SaysInstruction, SaysNumber, SaysPayload, SaysSetting, SaysStream, SaysType}
use Rattle.h2_spec.proofs.ReadingInstructions.{Reads, behind_back, instruction_back, instruction_read, moved, two_digits}
use Rattle.h2_spec.proofs.ReadingWords.{IsEnd, before_end, cut_back, cut_here, map_some, number_back, number_read, octet_back, octet_read, octets_back, octets_read, onwards_end, then_some, whole}
use Rattle.h2_spec.proofs.ScriptTexts.{Lacks, append_lacks, cons_lacks, number_lacks}

-- ---- settings

pub setting_read : (first : List ℕ) (p : ℕ × ℕ) (rest : List ℕ) → IsEnd 44 rest → SaysSetting first p → setting_at (first ++ rest) ≡ Some (p, rest)
unfolding setting_at
setting_read first p rest end h =
    let id = number_lacks 44 (lit≤ tt) 65535 h.0 p.0 h.3 in
    let value = number_lacks 44 (lit≤ tt) max_u32 h.1 p.1 h.4 in
    let lacks : Lacks 44 first = subst (Lacks 44) (sym h.2) (append_lacks 44 h.0 (61 ∷ h.1) id (cons_lacks 44 61 h.1 refl value)) in
    let cut : cut_at 61 first ≡ Some (h.0, h.1) = ap (cut_at 61) h.2 ∙ cut_here 61 h.0 h.1 (number_lacks 61 (lit≤ tt) 65535 h.0 p.0 h.3) in
    rw (before_end 44 first rest lacks end, onwards_end 44 first rest lacks end, cut, number_read 65535 h.0 p.0 h.3, number_read max_u32 h.1 p.1 h.4) refl

pub setting_back : (text : List ℕ) (p : ℕ × ℕ) (rest : List ℕ) → setting_at text ≡ Some (p, rest) → Reads SaysSetting text p rest
unfolding setting_at
setting_back text p rest e =
    let word = before 44 text in
    let step = map_some {B = (ℕ × ℕ) × List ℕ} (λ (q : ℕ × ℕ). (q, onwards 44 text)) (option_and_then setting_of (cut_at 61 word)) (p, rest) e in
    let cut = then_some setting_of (cut_at 61 word) step.0 step.1 in
    let here = cut_back 61 word cut.0.0 cut.0.1 cut.1 in
    let said = numbers cut.0.0 cut.0.1 step.0 (number_at 65535 cut.0.0) (number_at max_u32 cut.0.1) refl refl cut.2 in
    moved SaysSetting text step.0 p (onwards 44 text) rest step.2 (word, sym (whole 44 text), (cut.0.0, cut.0.1, here.0, said.0, said.1))
  where
    numbers : (a b : List ℕ) (q : ℕ × ℕ) (x y : Option ℕ) → number_at 65535 a ≡ x → number_at max_u32 b ≡ y → pair_of x y ≡ Some q → SaysNumber 65535 a q.0 × SaysNumber max_u32 b q.1
    numbers a b q None y ex ey k = absurd (cc)
    numbers a b q (Some n) None ex ey k = absurd (cc)
    numbers a b q (Some n) (Some m) ex ey k =
        let same : ◌≡◌ {A = ℕ × ℕ} (n, m) q = cc in
        subst (λ (z : ℕ × ℕ). SaysNumber 65535 a z.0 × SaysNumber max_u32 b z.1) same (number_back 65535 a n ex, number_back max_u32 b m ey)

-- ---- one after another

module _ {A : Type 0} (Says : List ℕ → A → Type 0) (next : List ℕ → Option (A × List ℕ)) where
  module _ (read : (first : List ℕ) (x : A) (rest : List ℕ) → IsEnd 44 rest → Says first x → next (first ++ rest) ≡ Some (x, rest)) where
    each_read : (fuel : ℕ) (text : List ℕ) (xs : List A) → length text < fuel → SaysEach Says text xs → each_at next fuel text ≡ Some xs
    each_read zero text xs lt h = absurd (omega arith)
    each_read (suc fewer) text [] lt h = absurd h
    each_read (suc fewer) text (x ∷ []) lt h =
        let one : next text ≡ Some (x, []) = ap next (sym (append-nil text)) ∙ read text x [] (inl refl) h in
        rw one refl
    each_read (suc fewer) text (x ∷ y ∷ ys) lt h =
        let one : next text ≡ Some (x, 44 ∷ h.1) = ap next h.2 ∙ read h.0 x (44 ∷ h.1) (inr (h.1, refl)) h.3 in
        let size : length text ≡ length h.0 + suc (length h.1) = ap length h.2 ∙ length-append h.0 (44 ∷ h.1) in
        rw (one, each_read fewer h.1 (y ∷ ys) (omega arith) h.4) refl

    pub all_read : (text : List ℕ) (xs : List A) → SaysEach Says text xs → all_at next text ≡ Some xs
    all_read text xs h = each_read (length text + 1) text xs (omega arith) h

  module _ (back : (text : List ℕ) (x : A) (rest : List ℕ) → next text ≡ Some (x, rest) → Reads Says text x rest) where
    each_back : (fuel : ℕ) (text : List ℕ) (xs : List A) → each_at next fuel text ≡ Some xs → SaysEach Says text xs
    each_back zero text xs e = absurd (cc)
    each_back (suc fewer) text xs e =
        let step = then_some (one_and (λ rest. each_at next fewer rest)) (next text) xs e in
        let said = back text step.0.0 step.0.1 step.1 in
        rest step.0.0 said.0 step.0.1 said.1 said.2 step.2 (λ more ys k. each_back fewer more ys k)
      where
        others : (x : A) (first more : List ℕ) → text ≡ first ++ 44 ∷ more → Says first x → (ys : List A) → x ∷ ys ≡ xs → SaysEach Says more ys → SaysEach Says text xs
        others x first more is says [] same h = absurd h
        others x first more is says (y ∷ ys) same h = subst (SaysEach Says text) same (first, more, is, says, h)

        comma : (x : A) (first : List ℕ) (c : ℕ) (more : List ℕ) → text ≡ first ++ c ∷ more → Says first x → (t : Bool) → (c == 44) ≡ t
            → cond t (option_map (λ ys. x ∷ ys) (each_at next fewer more)) None ≡ Some xs → ((more : List ℕ) (ys : List A) → each_at next fewer more ≡ Some ys → SaysEach Says more ys) → SaysEach Says text xs
        comma x first c more is says false differs k again = absurd (cc)
        comma x first c more is says true same k again =
            let step = map_some (λ ys. x ∷ ys) (each_at next fewer more) xs k in
            others x first more (is ∙ ap (λ (d : ℕ). first ++ d ∷ more) (eqb-true c 44 same)) says step.0 step.2 (again more step.0 step.1)

        rest : (x : A) (first : List ℕ) (left : List ℕ) → text ≡ first ++ left → Says first x → one_and (λ more. each_at next fewer more) (x, left) ≡ Some xs
            → ((more : List ℕ) (ys : List A) → each_at next fewer more ≡ Some ys → SaysEach Says more ys) → SaysEach Says text xs
        rest x first [] is says k again =
            let same : x ∷ [] ≡ xs = cc in
            subst (SaysEach Says text) same (subst (λ (z : List ℕ). Says z x) (sym (is ∙ append-nil first)) says)
        rest x first (c ∷ more) is says k again = comma x first c more is says (c == 44) refl k again

    pub all_back : (text : List ℕ) (xs : List A) → all_at next text ≡ Some xs → SaysEach Says text xs
    all_back text xs e = each_back (length text + 1) text xs e

-- ---- payloads

pub payload_read : (text : List ℕ) (p : Payload) → SaysPayload text p → payload_at text ≡ Some p
unfolding payload_at
payload_read text Empty h = rw h refl
payload_read text (Octets octets) h = ap payload_at h.1 ∙ ap (option_map Octets) (octets_read h.0 octets h.2)
payload_read text (Pairs pairs) h = ap payload_at h.1 ∙ ap (option_map Pairs) (all_read SaysSetting setting_at setting_read h.0 pairs h.2)
payload_read text (Increment n) h = ap payload_at h.1 ∙ ap (option_map Increment) (number_read max_stream h.0 n h.2)
payload_read text (Code n) h = ap payload_at h.1 ∙ ap (option_map Code) (number_read max_u32 h.0 n h.2)
payload_read text (Instructions is) h = ap payload_at h.1 ∙ ap (option_map Instructions) (all_read SaysInstruction instruction_at instruction_read h.0 is h.2)

pub payload_back : (text : List ℕ) (p : Payload) → payload_at text ≡ Some p → SaysPayload text p
unfolding payload_at
payload_back [] p e = absurd (cc)
payload_back (form ∷ text) p e = empty (form == 45) refl e
  where
    moved_letter : (c : ℕ) → (form == c) ≡ true → SaysPayload (c ∷ text) p → SaysPayload (form ∷ text) p
    moved_letter c is h = subst (λ (x : ℕ). SaysPayload (x ∷ text) p) (sym (eqb-true form c is)) h

    block : (t : Bool) → (form == 104) ≡ t → cond t (option_map Instructions (all_at instruction_at text)) None ≡ Some p → SaysPayload (form ∷ text) p
    block true is k =
        let step = map_some Instructions (all_at instruction_at text) p k in
        moved_letter 104 is (subst (SaysPayload (104 ∷ text)) step.2 (text, refl, all_back SaysInstruction instruction_at instruction_back text step.0 step.1))
    block false is k = absurd (cc)

    code : (t : Bool) → (form == 99) ≡ t → cond t (option_map Code (number_at max_u32 text)) (cond (form == 104) (option_map Instructions (all_at instruction_at text)) None) ≡ Some p → SaysPayload (form ∷ text) p
    code true is k =
        let step = map_some Code (number_at max_u32 text) p k in
        moved_letter 99 is (subst (SaysPayload (99 ∷ text)) step.2 (text, refl, number_back max_u32 text step.0 step.1))
    code false is k = block (form == 104) refl k

    increment : (t : Bool) → (form == 119) ≡ t → cond t (option_map Increment (number_at max_stream text)) (cond (form == 99) (option_map Code (number_at max_u32 text)) (cond (form == 104) (option_map Instructions (all_at instruction_at text)) None)) ≡ Some p → SaysPayload (form ∷ text) p
    increment true is k =
        let step = map_some Increment (number_at max_stream text) p k in
        moved_letter 119 is (subst (SaysPayload (119 ∷ text)) step.2 (text, refl, number_back max_stream text step.0 step.1))
    increment false is k = code (form == 99) refl k

    pairs : (t : Bool) → (form == 115) ≡ t → cond t (option_map Pairs (all_at setting_at text)) (cond (form == 119) (option_map Increment (number_at max_stream text)) (cond (form == 99) (option_map Code (number_at max_u32 text)) (cond (form == 104) (option_map Instructions (all_at instruction_at text)) None))) ≡ Some p → SaysPayload (form ∷ text) p
    pairs true is k =
        let step = map_some Pairs (all_at setting_at text) p k in
        moved_letter 115 is (subst (SaysPayload (115 ∷ text)) step.2 (text, refl, all_back SaysSetting setting_at setting_back text step.0 step.1))
    pairs false is k = increment (form == 119) refl k

    octets : (t : Bool) → (form == 120) ≡ t → cond t (option_map Octets (octets_at text)) (cond (form == 115) (option_map Pairs (all_at setting_at text)) (cond (form == 119) (option_map Increment (number_at max_stream text)) (cond (form == 99) (option_map Code (number_at max_u32 text)) (cond (form == 104) (option_map Instructions (all_at instruction_at text)) None)))) ≡ Some p → SaysPayload (form ∷ text) p
    octets true is k =
        let step = map_some Octets (octets_at text) p k in
        moved_letter 120 is (subst (SaysPayload (120 ∷ text)) step.2 (text, refl, octets_back text step.0 step.1))
    octets false is k = pairs (form == 115) refl k

    dash : (ds : List ℕ) → (t : Bool) → (length ds == 0) ≡ t → cond t (Some Empty) None ≡ Some p → SaysPayload (45 ∷ ds) p
    dash [] t is k = let same : Empty ≡ p = cc in subst (SaysPayload (45 ∷ [])) same refl
    dash (d ∷ ds) true is k = absurd (omega (arith, eqb-true (length (d ∷ ds)) 0 is))
    dash (d ∷ ds) false is k = absurd (cc)

    empty : (t : Bool) → (form == 45) ≡ t → cond t (cond (length text == 0) (Some Empty) None) (cond (form == 120) (option_map Octets (octets_at text)) (cond (form == 115) (option_map Pairs (all_at setting_at text)) (cond (form == 119) (option_map Increment (number_at max_stream text)) (cond (form == 99) (option_map Code (number_at max_u32 text)) (cond (form == 104) (option_map Instructions (all_at instruction_at text)) None))))) ≡ Some p → SaysPayload (form ∷ text) p
    empty true is k = moved_letter 45 is (dash text (length text == 0) refl k)
    empty false is k = octets (form == 120) refl k

-- ---- types of frames

named : (text : List ℕ) (k : ℕ) → slice_get type_names k ≡ Some text → type_at text ≡ Some k
named text zero e = let same : codes "DATA" ≡ text = cc in rw (← same) refl
named text (suc zero) e = let same : codes "HEADERS" ≡ text = cc in rw (← same) refl
named text (suc (suc zero)) e = let same : codes "PRIORITY" ≡ text = cc in rw (← same) refl
named text (suc (suc (suc zero))) e = let same : codes "RST_STREAM" ≡ text = cc in rw (← same) refl
named text (suc (suc (suc (suc zero)))) e = let same : codes "SETTINGS" ≡ text = cc in rw (← same) refl
named text (suc (suc (suc (suc (suc zero))))) e = let same : codes "PUSH_PROMISE" ≡ text = cc in rw (← same) refl
named text (suc (suc (suc (suc (suc (suc zero)))))) e = let same : codes "PING" ≡ text = cc in rw (← same) refl
named text (suc (suc (suc (suc (suc (suc (suc zero))))))) e = let same : codes "GOAWAY" ≡ text = cc in rw (← same) refl
named text (suc (suc (suc (suc (suc (suc (suc (suc zero)))))))) e = let same : codes "WINDOW_UPDATE" ≡ text = cc in rw (← same) refl
named text (suc (suc (suc (suc (suc (suc (suc (suc (suc zero))))))))) e = let same : codes "CONTINUATION" ≡ text = cc in rw (← same) refl
named text (suc (suc (suc (suc (suc (suc (suc (suc (suc (suc k)))))))))) e = absurd (cc)

pub type_read : (text : List ℕ) (kind : ℕ) → SaysType text kind → type_at text ≡ Some kind
type_read text kind (inl a) = named text kind a
type_read text kind (inr a) =
    let two = two_digits a.0 kind a.2 in
    let is : text ≡ 84 ∷ two.0 ∷ two.1 ∷ [] = a.1 ∙ ap (λ (x : List ℕ). 84 ∷ x) two.2 in
    ap type_at is ∙ ap octet_at (sym two.2) ∙ octet_read a.0 kind a.2

numbered_type : (text name : List ℕ) (k kind : ℕ) → slice_get type_names k ≡ Some name → (t : Bool) → bytes_eq text name ≡ t → (other : Option ℕ) → (other ≡ Some kind → SaysType text kind) → cond t (Some k) other ≡ Some kind → SaysType text kind
numbered_type text name k kind is true same other more e =
    let text_is : text ≡ name = (bytes_eq-Decides text name).0 same in
    let kind_is : k ≡ kind = cc in
    inl (ap (slice_get type_names) (sym kind_is) ∙ is ∙ ap (λ (x : List ℕ). Some x) (sym text_is))
numbered_type text name k kind is false same other more e = more e

pub type_back : (text : List ℕ) (kind : ℕ) → type_at text ≡ Some kind → SaysType text kind
type_back text kind e =
    numbered_type text (codes "DATA") 0 kind refl _ refl _
    (numbered_type text (codes "HEADERS") 1 kind refl _ refl _
    (numbered_type text (codes "PRIORITY") 2 kind refl _ refl _
    (numbered_type text (codes "RST_STREAM") 3 kind refl _ refl _
    (numbered_type text (codes "SETTINGS") 4 kind refl _ refl _
    (numbered_type text (codes "PUSH_PROMISE") 5 kind refl _ refl _
    (numbered_type text (codes "PING") 6 kind refl _ refl _
    (numbered_type text (codes "GOAWAY") 7 kind refl _ refl _
    (numbered_type text (codes "WINDOW_UPDATE") 8 kind refl _ refl _
    (numbered_type text (codes "CONTINUATION") 9 kind refl _ refl (option_and_then octet_at (behind 84 text))
    (λ k. let step = then_some octet_at (behind 84 text) kind k in inr (step.0, behind_back 84 text step.0 step.1, octet_back step.0 kind step.2))))))))))) e

-- ---- streams

both : (a b : Bool) → (a && b) ≡ true → (a ≡ true) × (b ≡ true)
both true b e = (refl, e)
both false b e = absurd (true≢false (sym e))

not_reserved : (text : List ℕ) → Lacks 82 text → is_reserved text ≡ false
not_reserved text h = go (nat_lt 0 (length text)) refl
  where
    go : (t : Bool) → nat_lt 0 (length text) ≡ t → (t && (slice_index text (length text - 1) == 82)) ≡ false
    go false e = refl
    go true e = let some : 0 < length text = ltb-true 0 (length text) e in h (length text - 1) 0 (omega arith)

last_seam : (a : List ℕ) (c : ℕ) → slice_index (a ++ c ∷ []) (length (a ++ c ∷ []) - 1) ≡ c
last_seam a c = let len : length (a ++ c ∷ []) - 1 ≡ length a = omega (arith, length-append a (c ∷ [])) in rw len (here a)
  where
    here : (b : List ℕ) → slice_index (b ++ c ∷ []) (length b) ≡ c
    here [] = refl
    here (x ∷ b) = here b

reserved_as : (a : List ℕ) → (is_reserved (a ++ 82 ∷ []) ≡ true) × (take (length (a ++ 82 ∷ []) - 1) (a ++ 82 ∷ []) ≡ a)
reserved_as a =
    let size = length-append a (82 ∷ []) in
    let some : 0 < length (a ++ 82 ∷ []) = omega arith in
    let len : length (a ++ 82 ∷ []) - 1 ≡ length a = omega arith in
    (rw (lt-ltb 0 (length (a ++ 82 ∷ [])) some, last_seam a 82) refl, rw len (take-append_seam a (82 ∷ [])))

pub stream_read : (text : List ℕ) (n : ℕ) (reserved : Bool) → SaysStream text n reserved → stream_at text ≡ Some (n, reserved)
stream_read text n false h = rw (not_reserved text (number_lacks 82 (lit≤ tt) max_stream text n h), number_read max_stream text n h) refl
stream_read text n true h =
    let summary = reserved_as h.0 in
    ap stream_at h.1 ∙ rw (summary.0, summary.1, number_read max_stream h.0 n h.2) refl

last_back : (text : List ℕ) → 0 < length text → slice_index text (length text - 1) ≡ 82 → text ≡ take (length text - 1) text ++ 82 ∷ []
last_back [] some e = absurd (omega arith)
last_back (x ∷ []) some e = ap (λ (y : ℕ). y ∷ []) e
last_back (x ∷ y ∷ ys) some e =
    let less : length (x ∷ y ∷ ys) - 1 ≡ suc (length (y ∷ ys) - 1) = omega arith in
    let more = last_back (y ∷ ys) (omega arith) (ap (slice_index (x ∷ y ∷ ys)) (sym less) ∙ e) in
    ap (λ (zs : List ℕ). x ∷ zs) more ∙ ap (λ (k : ℕ). take k (x ∷ y ∷ ys) ++ 82 ∷ []) (sym less)

pub stream_back : (text : List ℕ) (n : ℕ) (reserved : Bool) → stream_at text ≡ Some (n, reserved) → SaysStream text n reserved
stream_back text n reserved e = go (is_reserved text) refl e
  where
    go : (t : Bool) → is_reserved text ≡ t → cond t (option_map {U = ℕ × Bool} (λ m. (m, true)) (number_at max_stream (take (length text - 1) text))) (option_map {U = ℕ × Bool} (λ m. (m, false)) (number_at max_stream text)) ≡ Some (n, reserved) → SaysStream text n reserved
    go true is k =
        let tests = both _ _ is in
        let step = map_some {B = ℕ × Bool} (λ m. (m, true)) (number_at max_stream (take (length text - 1) text)) (n, reserved) k in
        let shape = last_back text (ltb-true _ _ tests.0) (eqb-true _ _ tests.1) in
        subst (λ (z : ℕ × Bool). SaysStream text z.0 z.1) step.2 (take (length text - 1) text, shape, number_back max_stream (take (length text - 1) text) step.0 step.1)
    go false is k =
        let step = map_some {B = ℕ × Bool} (λ m. (m, false)) (number_at max_stream text) (n, reserved) k in
        subst (λ (z : ℕ × Bool). SaysStream text z.0 z.1) step.2 (number_back max_stream text step.0 step.1)
