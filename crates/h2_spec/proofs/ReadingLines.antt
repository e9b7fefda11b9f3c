-- A line is read as what it says, or its least fault is reported; so is a script.
use Rattle.std.proofs.Common.{◌≡◌, ◌≢◌, ◌∙◌, ◌+◌, ◌<◌, ◌≤◌, ◌^◌, ◌++◌, ◌==◌, ℕ, Bool, true, false, List, [], ◌∷◌, Option, Some, None, Result, Ok, Err, codes, length, refl, sym, ap, arith, inl, inr, cond, nat_lt, option_map, subst, eqb-true, ltb-true, ltb-false, bytes_eq, append_assoc, lt-ltb, lit≤}
use Rattle.std.specs.List.{AllByRecursion}
use Rattle.std.proofs.lemmas.List.{length-append}
use Rattle.std.proofs.lemmas.Slice.Eq.{bytes_eq-Decides}
use Rattle.h2_spec.specs.Texts.Assemble.{◌>>=◌, assembled, fitting, frame_at, frame_of, line_then, lines_at, octet_at, octets_at, payload_at, raw_at, statement_at, stream_at, type_at, wanted, with_front, words_at}
use Rattle.h2_spec.specs.Texts.Script.{Payload, Statement, Nothing, Preface, Raw, AFrame, AreLines, Bad, FourParts, HasFault, HasParts, IsFrameLine, IsLeastFault, IsReadingOf, Line, Says, SaysOctet, SaysPayload, SaysSomeOctets, SaysStream, SaysType, Script, cut_at, first_cut, first_word, kind_number, lines_of, octets_of, parts_of, payload_octets, second_cut, third_cut}
use Rattle.h2_spec.specs.declared.scripts.SyntaxKind.{SyntaxKind}
use Rattle.h2_spec.specs.declared.scripts.SyntaxKind.TheVariants as kind
use Rattle.h2_spec.proofs.ReadingParts.{payload_back, payload_read, stream_back, stream_read, type_back, type_read}
use Rattle.h2_spec.proofs.ReadingWords.{cut_back, cut_here, cut_none, octet_back, octet_read, octets_back, octets_read}
use Rattle.h2_spec.proofs.ScriptTexts.{Lacks, literal_lacks, octets_lack, stream_lacks, type_lacks}

-- ---- what is said is read

name_differs : (a : List ℕ) (k : ℕ) → SaysType a k → (bytes_eq a (codes "PREFACE") ≡ false) × (bytes_eq a (codes "RAW") ≡ false)
name_differs a k h = (go (codes "PREFACE") refl (bytes_eq a (codes "PREFACE")) refl, go (codes "RAW") refl (bytes_eq a (codes "RAW")) refl)
  where
    go : (name : List ℕ) → type_at name ≡ None → (t : Bool) → bytes_eq a name ≡ t → bytes_eq a name ≡ false
    go name none false e = e
    go name none true e =
        let same : a ≡ name = (bytes_eq-Decides a name).0 e in
        absurd (cc (sym (type_read a k h) ∙ ap type_at same ∙ none))

frame_read : (a b c d : List ℕ) (k f n : ℕ) (r : Bool) (p : Payload) → SaysType a k → SaysOctet b f → SaysStream c n r → SaysPayload d p → length (payload_octets p) < 2 ^ 24
    → frame_of a b c d ≡ Ok (AFrame k f n r p)
frame_read a b c d k f n r p ha hb hc hd small =
    rw (type_read a k ha, octet_read b f hb, stream_read c n r hc, payload_read d p hd, lt-ltb (length (payload_octets p)) (2 ^ 24) small) refl

head_of_line : (line : List ℕ) (c : ℕ) (cs : List ℕ) → line ≡ c ∷ cs → (c == 59) ≡ false → statement_at line ≡ words_at line (cut_at 32 line)
unfolding statement_at
head_of_line line c cs is differs = rw (is, differs) refl

-- a type's name is not empty and begins with no semicolon
type_begins : (a : List ℕ) (k : ℕ) → SaysType a k → (c : ℕ) × (cs : List ℕ) × (a ≡ c ∷ cs) × ((c == 59) ≡ false)
type_begins [] k h = absurd (cc (sym (type_read [] k h)))
type_begins (c ∷ cs) k h = go (c == 59) refl
  where
    go : (t : Bool) → (c == 59) ≡ t → (d : ℕ) × (ds : List ℕ) × (c ∷ cs ≡ d ∷ ds) × ((d == 59) ≡ false)
    go false e = (c, cs, refl, e)
    go true e = absurd (cc (sym e ∙ type_lacks 59 refl refl refl (c ∷ cs) k h 0 0 (omega arith)))

pub line_read : (line : List ℕ) (s : Statement) → Says line s → statement_at line ≡ Ok s
unfolding statement_at
line_read line Nothing (inl h) = rw h refl
line_read [] Nothing (inr h) = refl
line_read (c ∷ cs) Nothing (inr h) = let same : c ≡ 59 = cc in rw same refl
line_read line Preface h = rw h refl
line_read line (Raw octets) h =
    let line_is : line ≡ codes "RAW" ++ 32 ∷ h.0 = h.1 in
    let cut : cut_at 32 line ≡ Some (codes "RAW", h.0) = ap (cut_at 32) line_is ∙ cut_here 32 (codes "RAW") h.0 raw_lacks in
    head_of_line line 82 (65 ∷ 87 ∷ 32 ∷ h.0) line_is refl ∙ ap (words_at line) cut ∙ raw (octets_read h.0 octets h.2) (some h.0 octets h.2)
  where
    raw_lacks : Lacks 32 (codes "RAW")
    raw_lacks = literal_lacks 32 (codes "RAW") refl

    some : (digits o : List ℕ) → SaysSomeOctets digits o → (length digits == 0) ≡ false
    some [] o k = absurd (cc (octets_read [] o k))
    some (d ∷ ds) o k = grind arith

    raw : octets_at h.0 ≡ Some octets → (length h.0 == 0) ≡ false → raw_at h.0 ≡ Ok (Raw octets)
    raw e k = rw k (ap (λ (o : Option (List ℕ)). wanted kind.Payload (option_map Raw o)) (rw k at e))
line_read line (AFrame k f n r p) (a, b, c, d, is, ha, hb, hc, hd, small) =
    let begins = type_begins a k ha in
    let starts : line ≡ begins.0 ∷ (begins.1 ++ 32 ∷ (b ++ 32 ∷ (c ++ 32 ∷ d))) = is ∙ ap (λ (x : List ℕ). x ++ 32 ∷ (b ++ 32 ∷ (c ++ 32 ∷ d))) begins.2 in
    let differs = name_differs a k ha in
    let one : cut_at 32 line ≡ Some (a, b ++ 32 ∷ (c ++ 32 ∷ d)) = ap (cut_at 32) is ∙ cut_here 32 a (b ++ 32 ∷ (c ++ 32 ∷ d)) (type_lacks 32 refl refl refl a k ha) in
    let two : cut_at 32 (b ++ 32 ∷ (c ++ 32 ∷ d)) ≡ Some (b, c ++ 32 ∷ d) = cut_here 32 b (c ++ 32 ∷ d) (octets_lack 32 refl b (f ∷ []) hb) in
    let three : cut_at 32 (c ++ 32 ∷ d) ≡ Some (c, d) = cut_here 32 c d (stream_lacks 32 (lit≤ tt) refl c n r hc) in
    head_of_line line begins.0 _ starts begins.3 ∙ ap (words_at line) one ∙ rw (differs.0, differs.1, two, three) (frame_read a b c d k f n r p ha hb hc hd small)

-- ---- what is read is said, and the least fault is reported

abbrev IsStatementOf : List ℕ → Result Statement SyntaxKind → Type 0
IsStatementOf line (Ok s) = Says line s
IsStatementOf line (Err kind) = IsLeastFault kind line

at_least_1 : (kind : SyntaxKind) → 1 ≤ kind_number kind
at_least_1 kind.Parts = lit≤ tt
at_least_1 kind.Name = lit≤ tt
at_least_1 kind.Flags = lit≤ tt
at_least_1 kind.Stream = lit≤ tt
at_least_1 kind.Payload = lit≤ tt
at_least_1 kind.Size = lit≤ tt

parts_fault : (line : List ℕ) → HasFault kind.Parts line → IsLeastFault kind.Parts line
parts_fault line h = (h, λ other less bad. let low = at_least_1 other in absurd (omega arith))

-- what differs from PREFACE and RAW in its first word, and has four parts, has no fault in its parts
four_parts : (line : List ℕ) (p : FourParts) → IsFrameLine line → parts_of line ≡ Some p → ¬ HasFault kind.Parts line
four_parts line p frame parts (inl h) = frame.0 h.0
four_parts line p frame parts (inr (inl h)) = frame.1 (ap first_word h)
four_parts line p frame parts (inr (inr (inl h))) = frame.1 (ap first_word h)
four_parts line p frame parts (inr (inr (inr h))) = cc (sym parts ∙ h.1)

-- what is wrong with the parts of a line is wrong with these
of_parts : (P : FourParts → Type 0) (line : List ℕ) (p : FourParts) → parts_of line ≡ Some p → HasParts P line → P p
of_parts P line p parts h = let same : h.1.0 ≡ p = cc (sym h.1.1 ∙ parts) in subst P same h.1.2

-- a line with the first word RAW has only the fault of its digits
raw_only : (line digits : List ℕ) → line ≡ codes "RAW " ++ digits → 0 < length digits → ((octets : List ℕ) → ¬ SaysSomeOctets digits octets) → IsLeastFault kind.Payload line
raw_only line digits is some bad = (inr (digits, is, some, bad), none)
  where
    word : first_word line ≡ codes "RAW"
    word = ap first_word is

    size : length line ≡ 4 + length digits
    size = ap length is ∙ length-append (codes "RAW ") digits

    none : (other : SyntaxKind) → kind_number other < 5 → ¬ HasFault other line
    none kind.Parts less (inl h) = absurd (cc (sym word ∙ h.0))
    none kind.Parts less (inr (inl h)) = absurd (omega (arith, size, ap length h))
    none kind.Parts less (inr (inr (inl h))) = absurd (omega (arith, size, ap length h))
    none kind.Parts less (inr (inr (inr h))) = h.0.1 word
    none kind.Name less h = h.0.1 word
    none kind.Flags less h = h.0.1 word
    none kind.Stream less h = h.0.1 word
    none kind.Payload less h = absurd (omega arith)
    none kind.Size less h = absurd (omega arith)

-- the frame of parts that were read, or were not
abbrev steps : Option ℕ → Option ℕ → Option (ℕ × Bool) → Option Payload → Result Statement SyntaxKind
steps name flags stream payload = do
  type ← wanted kind.Name name
  flag ← wanted kind.Flags flags
  id ← wanted kind.Stream stream
  content ← wanted kind.Payload payload >>= fitting
  Ok (AFrame type flag id.0 id.1 content)

parts_back : (line : List ℕ) (p : FourParts) → parts_of line ≡ Some p → line ≡ p.name ++ 32 ∷ (p.flags ++ 32 ∷ (p.stream ++ 32 ∷ p.payload))
parts_back line p e = first (cut_at 32 line) refl e
  where
    third : (a b : List ℕ × List ℕ) → cut_at 32 line ≡ Some (a.0, a.1) → cut_at 32 a.1 ≡ Some (b.0, b.1) → (o : Option (List ℕ × List ℕ)) → cut_at 32 b.1 ≡ o → third_cut a.0 b.0 o ≡ Some p
        → line ≡ p.name ++ 32 ∷ (p.flags ++ 32 ∷ (p.stream ++ 32 ∷ p.payload))
    third a b ea eb None ec k = absurd (cc)
    third a b ea eb (Some c) ec k =
        let same : record { name = a.0; flags = b.0; stream = c.0; payload = c.1 } ≡ p = cc in
        let seen : line ≡ a.0 ++ 32 ∷ (b.0 ++ 32 ∷ (c.0 ++ 32 ∷ c.1)) =
        (cut_back 32 line a.0 a.1 ea).0 ∙ ap (λ (x : List ℕ). a.0 ++ 32 ∷ x) ((cut_back 32 a.1 b.0 b.1 eb).0 ∙ ap (λ (x : List ℕ). b.0 ++ 32 ∷ x) (cut_back 32 b.1 c.0 c.1 ec).0) in
        subst (λ (q : FourParts). line ≡ q.name ++ 32 ∷ (q.flags ++ 32 ∷ (q.stream ++ 32 ∷ q.payload))) same seen

    second : (a : List ℕ × List ℕ) → cut_at 32 line ≡ Some (a.0, a.1) → (o : Option (List ℕ × List ℕ)) → cut_at 32 a.1 ≡ o → second_cut a.0 o ≡ Some p
        → line ≡ p.name ++ 32 ∷ (p.flags ++ 32 ∷ (p.stream ++ 32 ∷ p.payload))
    second a ea None eb k = absurd (cc)
    second a ea (Some b) eb k = third a b ea eb (cut_at 32 b.1) refl k

    first : (o : Option (List ℕ × List ℕ)) → cut_at 32 line ≡ o → first_cut o ≡ Some p → line ≡ p.name ++ 32 ∷ (p.flags ++ 32 ∷ (p.stream ++ 32 ∷ p.payload))
    first None ea k = absurd (cc)
    first (Some a) ea k = second a ea (cut_at 32 a.1) refl k

module _ (line : List ℕ) (p : FourParts) (frame : IsFrameLine line) (parts : parts_of line ≡ Some p) where
  no_name : (k : ℕ) → type_at p.name ≡ Some k → ¬ HasFault kind.Name line
  no_name k e h = of_parts _ line p parts h k (type_back p.name k e)

  no_flags : (f : ℕ) → octet_at p.flags ≡ Some f → ¬ HasFault kind.Flags line
  no_flags f e h = of_parts _ line p parts h f (octet_back p.flags f e)

  no_stream : (n : ℕ) (r : Bool) → stream_at p.stream ≡ Some (n, r) → ¬ HasFault kind.Stream line
  no_stream n r e h = of_parts _ line p parts h n r (stream_back p.stream n r e)

  no_payload : (payload : Payload) → payload_at p.payload ≡ Some payload → ¬ HasFault kind.Payload line
  no_payload payload e (inl h) = of_parts _ line p parts h payload (payload_back p.payload payload e)
  no_payload payload e (inr h) = frame.1 (ap first_word h.1)

  bad_name : type_at p.name ≡ None → IsLeastFault kind.Name line
  bad_name e = ((frame, (p, parts, λ k h. cc (sym (type_read p.name k h) ∙ e))), below)
    where
      below : (other : SyntaxKind) → kind_number other < 2 → ¬ HasFault other line
      below kind.Parts less = four_parts line p frame parts
      below kind.Name less = absurd (omega arith)
      below kind.Flags less = absurd (omega arith)
      below kind.Stream less = absurd (omega arith)
      below kind.Payload less = absurd (omega arith)
      below kind.Size less = absurd (omega arith)

  bad_flags : (k : ℕ) → type_at p.name ≡ Some k → octet_at p.flags ≡ None → IsLeastFault kind.Flags line
  bad_flags k ek e = ((frame, (p, parts, λ f h. cc (sym (octet_read p.flags f h) ∙ e))), below)
    where
      below : (other : SyntaxKind) → kind_number other < 3 → ¬ HasFault other line
      below kind.Parts less = four_parts line p frame parts
      below kind.Name less = no_name k ek
      below kind.Flags less = absurd (omega arith)
      below kind.Stream less = absurd (omega arith)
      below kind.Payload less = absurd (omega arith)
      below kind.Size less = absurd (omega arith)

  bad_stream : (k f : ℕ) → type_at p.name ≡ Some k → octet_at p.flags ≡ Some f → stream_at p.stream ≡ None → IsLeastFault kind.Stream line
  bad_stream k f ek ef e = ((frame, (p, parts, λ n r h. cc (sym (stream_read p.stream n r h) ∙ e))), below)
    where
      below : (other : SyntaxKind) → kind_number other < 4 → ¬ HasFault other line
      below kind.Parts less = four_parts line p frame parts
      below kind.Name less = no_name k ek
      below kind.Flags less = no_flags f ef
      below kind.Stream less = absurd (omega arith)
      below kind.Payload less = absurd (omega arith)
      below kind.Size less = absurd (omega arith)

  bad_payload : (k f n : ℕ) (r : Bool) → type_at p.name ≡ Some k → octet_at p.flags ≡ Some f → stream_at p.stream ≡ Some (n, r) → payload_at p.payload ≡ None → IsLeastFault kind.Payload line
  bad_payload k f n r ek ef es e = (inl (frame, (p, parts, λ payload h. cc (sym (payload_read p.payload payload h) ∙ e))), below)
    where
      below : (other : SyntaxKind) → kind_number other < 5 → ¬ HasFault other line
      below kind.Parts less = four_parts line p frame parts
      below kind.Name less = no_name k ek
      below kind.Flags less = no_flags f ef
      below kind.Stream less = no_stream n r es
      below kind.Payload less = absurd (omega arith)
      below kind.Size less = absurd (omega arith)

  bad_size : (k f n : ℕ) (r : Bool) (payload : Payload) → type_at p.name ≡ Some k → octet_at p.flags ≡ Some f → stream_at p.stream ≡ Some (n, r) → payload_at p.payload ≡ Some payload
      → 2 ^ 24 ≤ length (payload_octets payload) → IsLeastFault kind.Size line
  bad_size k f n r payload ek ef es ep long = ((frame, (p, parts, (payload, payload_back p.payload payload ep, long))), below)
    where
      below : (other : SyntaxKind) → kind_number other < 6 → ¬ HasFault other line
      below kind.Parts less = four_parts line p frame parts
      below kind.Name less = no_name k ek
      below kind.Flags less = no_flags f ef
      below kind.Stream less = no_stream n r es
      below kind.Payload less = no_payload payload ep
      below kind.Size less = absurd (omega arith)

  stepped : (name flags : Option ℕ) (stream : Option (ℕ × Bool)) (payload : Option Payload) → type_at p.name ≡ name → octet_at p.flags ≡ flags → stream_at p.stream ≡ stream → payload_at p.payload ≡ payload
      → IsStatementOf line (steps name flags stream payload)
  stepped None flags stream payload a b c d = bad_name a
  stepped (Some k) None stream payload a b c d = bad_flags k a b
  stepped (Some k) (Some f) None payload a b c d = bad_stream k f a b c
  stepped (Some k) (Some f) (Some s) None a b c d = bad_payload k f s.0 s.1 a b c d
  stepped (Some k) (Some f) (Some s) (Some payload) a b c d = fits (nat_lt (length (payload_octets payload)) (2 ^ 24)) refl
    where
      fits : (t : Bool) → nat_lt (length (payload_octets payload)) (2 ^ 24) ≡ t
          → IsStatementOf line ((cond t (Ok payload) (Err kind.Size)) >>= (λ content. Ok (AFrame k f s.0 s.1 content)))
      fits false e = bad_size k f s.0 s.1 payload a b c d (ltb-false _ _ e)
      fits true e = (p.name, p.flags, p.stream, p.payload, parts_back line p parts, type_back p.name k a, octet_back p.flags f b, stream_back p.stream s.0 s.1 c, payload_back p.payload payload d, ltb-true _ _ e)

  frame_back : IsStatementOf line (frame_of p.name p.flags p.stream p.payload)
  frame_back = stepped (type_at p.name) (octet_at p.flags) (stream_at p.stream) (payload_at p.payload) refl refl refl refl

frame_line_back : (line : List ℕ) (a : List ℕ × List ℕ) → cut_at 32 line ≡ Some a → IsFrameLine line → IsStatementOf line (frame_at a.0 a.1)
frame_line_back line a ea frame = second (cut_at 32 a.1) refl
  where
    third : (b : List ℕ × List ℕ) → cut_at 32 a.1 ≡ Some b → (o : Option (List ℕ × List ℕ)) → cut_at 32 b.1 ≡ o → IsStatementOf line (wanted kind.Parts o >>= (λ c. frame_of a.0 b.0 c.0 c.1))
    third b eb None ec = parts_fault line (inr (inr (inr (frame, ap first_cut ea ∙ ap (second_cut a.0) eb ∙ ap (third_cut a.0 b.0) ec))))
    third b eb (Some c) ec =
        frame_back line (record { name = a.0; flags = b.0; stream = c.0; payload = c.1 }) frame (ap first_cut ea ∙ ap (second_cut a.0) eb ∙ ap (third_cut a.0 b.0) ec)

    second : (o : Option (List ℕ × List ℕ)) → cut_at 32 a.1 ≡ o → IsStatementOf line (wanted kind.Parts o >>= (λ b. wanted kind.Parts (cut_at 32 b.1) >>= (λ c. frame_of a.0 b.0 c.0 c.1)))
    second None eb = parts_fault line (inr (inr (inr (frame, ap first_cut ea ∙ ap (second_cut a.0) eb))))
    second (Some b) eb = third b eb (cut_at 32 b.1) refl

raw_back : (line digits : List ℕ) → line ≡ codes "RAW " ++ digits → IsStatementOf line (raw_at digits)
raw_back line digits is = go (length digits == 0) refl
  where
    empty : (ds : List ℕ) → length ds ≡ 0 → line ≡ codes "RAW " ++ ds → line ≡ codes "RAW "
    empty [] e k = k
    empty (d ∷ ds) e k = absurd (omega arith)

    digits_of : 0 < length digits → (o : Option (List ℕ)) → octets_at digits ≡ o → IsStatementOf line (wanted kind.Payload (option_map Raw o))
    digits_of some None e = raw_only line digits is some (λ octets h. cc (sym (octets_read digits octets h) ∙ e))
    digits_of some (Some octets) e = (digits, is, octets_back digits octets e)

    go : (t : Bool) → (length digits == 0) ≡ t → IsStatementOf line (cond t (Err kind.Parts) (wanted kind.Payload (option_map Raw (octets_at digits))))
    go true e = parts_fault line (inr (inr (inl (empty digits (eqb-true (length digits) 0 e) is))))
    go false e = digits_of (grind arith) (octets_at digits) refl

differ : (a b : List ℕ) → bytes_eq a b ≡ false → a ≢ b
differ a b e same = cc (sym e ∙ (bytes_eq-Decides a b).1 same)

words_back : (line : List ℕ) → IsStatementOf line (words_at line (cut_at 32 line))
words_back line = go (cut_at 32 line) refl
  where
    other : (a : List ℕ × List ℕ) → cut_at 32 line ≡ Some a → first_word line ≡ a.0 → bytes_eq a.0 (codes "PREFACE") ≡ false → (t : Bool) → bytes_eq a.0 (codes "RAW") ≡ t → IsStatementOf line (cond t (raw_at a.1) (frame_at a.0 a.1))
    other a ea word differs true e =
        let same : a.0 ≡ codes "RAW" = (bytes_eq-Decides a.0 (codes "RAW")).0 e in
        raw_back line a.1 ((cut_back 32 line a.0 a.1 ea).0 ∙ ap (λ (x : List ℕ). x ++ 32 ∷ a.1) same)
    other a ea word differs false e = frame_line_back line a ea (λ h. differ a.0 (codes "PREFACE") differs (sym word ∙ h), λ h. differ a.0 (codes "RAW") e (sym word ∙ h))

    some : (a : List ℕ × List ℕ) → cut_at 32 line ≡ Some a → first_word line ≡ a.0 → (t : Bool) → bytes_eq a.0 (codes "PREFACE") ≡ t → IsStatementOf line (cond t (Err kind.Parts) (cond (bytes_eq a.0 (codes "RAW")) (raw_at a.1) (frame_at a.0 a.1)))
    some a ea word true e = parts_fault line (inl (word ∙ (bytes_eq-Decides a.0 (codes "PREFACE")).0 e, λ same. cc (sym ea ∙ ap (cut_at 32) same)))
    some a ea word false e = other a ea word e (bytes_eq a.0 (codes "RAW")) refl

    lone : (t : Bool) → bytes_eq line (codes "RAW") ≡ t → first_word line ≡ line → cut_at 32 line ≡ None → bytes_eq line (codes "PREFACE") ≡ false → IsLeastFault kind.Parts line
    lone true e word none differs = parts_fault line (inr (inl ((bytes_eq-Decides line (codes "RAW")).0 e)))
    lone false e word none differs =
        parts_fault line (inr (inr (inr ((λ h. differ line (codes "PREFACE") differs (sym word ∙ h), λ h. differ line (codes "RAW") e (sym word ∙ h)), ap first_cut none))))

    none : (t : Bool) → bytes_eq line (codes "PREFACE") ≡ t → cut_at 32 line ≡ None → IsStatementOf line (cond t (Ok Preface) (Err kind.Parts))
    none true e k = (bytes_eq-Decides line (codes "PREFACE")).0 e
    none false e k = lone (bytes_eq line (codes "RAW")) refl (cut_none 32 line k) k e

    go : (o : Option (List ℕ × List ℕ)) → cut_at 32 line ≡ o → IsStatementOf line (words_at line o)
    go None e = none (bytes_eq line (codes "PREFACE")) refl e
    go (Some a) e = some a e (cut_back 32 line a.0 a.1 e).1 (bytes_eq a.0 (codes "PREFACE")) refl

pub line_back : (line : List ℕ) → IsStatementOf line (statement_at line)
unfolding statement_at
line_back [] = inl refl
line_back (c ∷ cs) = go (c == 59) refl
  where
    go : (t : Bool) → (c == 59) ≡ t → IsStatementOf (c ∷ cs) (cond t (Ok Nothing) (words_at (c ∷ cs) (cut_at 32 (c ∷ cs))))
    go true e = inr (ap (λ (x : ℕ). Some x) (eqb-true c 59 e))
    go false e = words_back (c ∷ cs)

-- ---- scripts

-- lines that represent octets above others, which count on
abbrev IsReadFrom : List ℕ → ℕ → List (List ℕ) → List (List ℕ) → Result (List ℕ) (ℕ × SyntaxKind) → Type 0
IsReadFrom text n above lines (Ok octets) = AreLines lines octets
IsReadFrom text n above lines (Err (m, kind)) = Bad text m kind

all_with : {A : Type 0} (P : A → Type 0) (xs : List A) (x : A) → AllByRecursion P xs → P x → AllByRecursion P (xs ++ x ∷ [])
all_with P [] x h k = (k, tt)
all_with P (y ∷ ys) x h k = (h.0, all_with P ys x h.1 k)

lines_back : (text : List ℕ) (n : ℕ) (above lines : List (List ℕ)) → lines_of text ≡ above ++ lines → n ≡ length above + 1 → AllByRecursion (λ l. (octets : List ℕ) × Line l octets) above
    → IsReadFrom text n above lines (lines_at n lines)
lines_back text n above [] is count first = refl
lines_back text n above (line ∷ lines) is count first =
    go (statement_at line) refl (line_back line) (λ h. lines_back text (n + 1) (above ++ line ∷ []) lines (is ∙ sym (append_assoc above (line ∷ []) lines)) (omega (arith, length-append above (line ∷ []))) (all_with (λ l. (octets : List ℕ) × Line l octets) above line first h))
  where
    more : (s : Statement) → Says line s → (r : Result (List ℕ) (ℕ × SyntaxKind)) → IsReadFrom text (n + 1) (above ++ line ∷ []) lines r → IsReadFrom text n above (line ∷ lines) (with_front (octets_of s) r)
    more s said (Ok octets) h = (octets_of s, octets, (s, said, refl), h, refl)
    more s said (Err (m, kind)) h = h

    go : (r : Result Statement SyntaxKind) → statement_at line ≡ r → IsStatementOf line r
        → ((octets : List ℕ) × Line line octets → IsReadFrom text (n + 1) (above ++ line ∷ []) lines (lines_at (n + 1) lines)) → IsReadFrom text n above (line ∷ lines) (line_then n r (lines_at (n + 1) lines))
    go (Ok s) e said below = more s said (lines_at (n + 1) lines) (below (octets_of s, (s, said, refl)))
    go (Err kind) e said below = record {
      above = above;
      line = line;
      below = lines;
      lines = is;
      number = count;
      first = first;
      nothing = λ octets h. cc (sym (line_read line h.0 h.1) ∙ e);
      least = said;
    }

pub script_read : (text : List ℕ) → IsReadingOf text (assembled text)
unfolding assembled
script_read text = go (lines_at 1 (lines_of text)) (lines_back text 1 [] (lines_of text) refl refl tt)
  where
    go : (r : Result (List ℕ) (ℕ × SyntaxKind)) → IsReadFrom text 1 [] (lines_of text) r → IsReadingOf text r
    go (Ok octets) h = h
    go (Err (m, kind)) h = h

lines_read : (n : ℕ) (lines : List (List ℕ)) (octets : List ℕ) → AreLines lines octets → lines_at n lines ≡ Ok octets
lines_read n [] octets h = rw h refl
lines_read n (line ∷ lines) octets h =
    rw (line_read line h.2.0 h.2.1, lines_read (n + 1) lines h.1 h.3) (ap (λ (x : List ℕ). Ok x) (ap (λ (x : List ℕ). x ++ h.1) (sym h.2.2) ∙ sym h.4))

pub one_answer : (text octets : List ℕ) → Script text octets → assembled text ≡ Ok octets
unfolding assembled
one_answer text octets h = lines_read 1 (lines_of text) octets h
