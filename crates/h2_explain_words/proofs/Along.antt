-- A block is spelled as the connection decodes it: reading by how many fields it gives takes the same instructions.
use Rattle.std.proofs.Common.{◌≡◌, ℕ, zero, suc, ◌+◌, ◌≤◌, ◌<◌, ◌⊎◌, inl, inr, Bool, true, false, cond, List, [], ◌∷◌, ◌++◌, length, drop, nat_le, nat_lt, Option, Some, None, Result, Ok, Err, refl, sym, ap, subst, ◌∙◌, arith, le-leb, length-drop}
use Rattle.std.specs.Prelude.{◌==◌, option_to_list}
use Rattle.std.proofs.lemmas.Bool.{lt-leb}
use Rattle.std.proofs.lemmas.Bool.Decides.{leb_tells, nat_tests}
use Rattle.std.proofs.lemmas.List.{append-nil, append_assoc, length-append}
use Rattle.h2_spec.specs.Hpack.Block.{Decoded, Fault, DecoderState, Given, Integer, Outcome, Unfinished, Faulty, Progress, applied, apply, decoded, decoding, fields_given, has_fields, next_instr, indexed_result, literal_result, name_of, progress_after, progress_by, text_result, where_not_due}
use Rattle.h2_spec.specs.Hpack.DynamicTable.{field_at, resize}
use Rattle.h2_spec.specs.Hpack.Field.{Field}
use Rattle.h2_spec.specs.Hpack.Instruction.{Str, Shape, Indexed, Update, Literal, Mode, NameRef, instr_at, text_of}
use Rattle.h2_spec.specs.Frames.Parse.{parse_all}
use Rattle.h2_spec.specs.Read.{Read, Whole, More, TooLong}
use Rattle.h2_spec.proofs.BlockLaws.{applied-update, applied-update_late, applied-update_large, decoded-more, decoded-too_long, leads-refused, leads-start, leads-step}
use Rattle.h2_spec.proofs.InstructionLaws.{whole-takes}
use Rattle.h2_spec_laws.specs.Blocks.{Lead}
use Rattle.h2_explain_words.specs.Along.{IsAlong, IsLeft, IsRefusedFront, updates}
use Rattle.h2_explain_words.specs.Spelled.{BlockSpelled, Spelling, ByIndex, Taken, after, literal_spelling, read_more, read_to, spellings, with_given, with_update}
use Rattle.h2_explain_words.proofs.ReadingOn.{read-on, read-stays, read-more, read-too_long}

-- ---- how many fields an instruction adds

-- an instruction that gives a field and is carried out gives one
GivesOne : Result Given Fault → Type 0
GivesOne (Ok g) = length (option_to_list g.field) ≡ 1
GivesOne (Err fault) = Unit {0}

one-where_due : (due : Bool) (x : Result Given Fault) → GivesOne x → GivesOne (where_not_due due x)
unfolding GivesOne
one-where_due true x h = tt
one-where_due false x h = h

one-by_index : (d : DecoderState) (i : ℕ) (f : Option Field) → GivesOne (indexed_result d i f)
unfolding GivesOne
one-by_index d i (Some f) = refl
one-by_index d i None = tt

one-by_literal : (d : DecoderState) (mode : Mode) (name value : Result (List ℕ) Fault) → GivesOne (literal_result mode d name value)
unfolding GivesOne
one-by_literal d mode (Ok name) (Ok value) = refl
one-by_literal d mode (Ok name) (Err fault) = tt
one-by_literal d mode (Err fault) value = tt

one-more : (p q : Progress) (x : Result Given Fault) → GivesOne x → progress_by p x ≡ Ok q → length q.fields ≡ length p.fields + 1
unfolding GivesOne
one-more p q (Ok g) h e =
    let same : progress_after p g ≡ q = cc in
    let all = length-append p.fields (option_to_list g.field) in
    let count : length q.fields ≡ length (p.fields ++ option_to_list g.field) = ap (λ (r : Progress). length r.fields) (sym same) in
    omega (arith, all, count, h)
one-more p q (Err fault) h e = absurd cc

indexed-one : (limit : ℕ) (p q : Progress) (i : ℕ) → applied limit p (Indexed i) ≡ Ok q → length q.fields ≡ length p.fields + 1
unfolding applied apply
indexed-one limit p q i e =
    one-more p q (apply limit (decoding p) (Indexed i))
    (one-where_due p.due (indexed_result (decoding p) i (field_at i p.table.entries)) (one-by_index (decoding p) i (field_at i p.table.entries))) e

literal-one : (limit : ℕ) (p q : Progress) (mode : Mode) (name : NameRef Str) (value : Str) → applied limit p (Literal mode name value) ≡ Ok q → length q.fields ≡ length p.fields + 1
unfolding applied apply
literal-one limit p q mode name value e =
    one-more p q (apply limit (decoding p) (Literal mode name value))
    (one-where_due p.due (literal_result mode (decoding p) (name_of name p.table.entries) (text_result (text_of value))) (one-by_literal (decoding p) mode (name_of name p.table.entries) (text_result (text_of value)))) e

-- a block has as many fields as before, or more
fields-stay : (limit : ℕ) (p : Progress) (b : List ℕ) → length p.fields ≤ length (decoded limit p b).progress.fields
unfolding decoded
fields-stay limit p b = let all = length-append p.fields (fields_given (parse_all (next_instr limit) (decoding p) b).elements) in omega (arith, all)

-- ---- one instruction that is carried out

-- it is taken, and gives its spelling and its update; then there are n spellings
record OneTaken (count limit : ℕ) (t : Taken) (i : Shape) (n : ℕ) : Type 0 where
  now : Taken
  is : after count limit t i ≡ Some now
  given : now.given ≡ t.given ++ spellings (i ∷ [])
  updated : now.updates ≡ t.updates ++ updates (i ∷ [])
  each : length now.given ≡ n

one-given : (count : ℕ) (t : Taken) (s : Spelling) → length t.given < count → with_given count t s ≡ Some (record t { given = t.given ++ s ∷ [] })
one-given count t s h = rw (let k : suc (length t.given) ≤ count = omega (arith, h) in le-leb (suc (length t.given)) count k) refl

field-taken : (count limit n : ℕ) (t : Taken) (i : Shape) (s : Spelling) → after count limit t i ≡ with_given count t s → spellings (i ∷ []) ≡ s ∷ [] → updates (i ∷ []) ≡ [] →
    n ≡ length t.given + 1 → n ≤ count → OneTaken count limit t i n
field-taken count limit n t i s e one none k h =
    let all = length-append t.given (s ∷ []) in
    record {
      now = record t { given = t.given ++ s ∷ [] };
      is = e ∙ one-given count t s (omega (arith, h, k));
      given = ap (λ xs. t.given ++ xs) (sym one);
      updated = sym (append-nil t.updates) ∙ ap (λ xs. t.updates ++ xs) (sym none);
      each = omega (arith, all, k);
    }

no-fields : (xs : List Field) → has_fields xs ≡ false → length xs ≡ 0
no-fields [] e = refl
no-fields (f ∷ xs) e = absurd cc

some-fields : (xs : List Field) → has_fields xs ≡ true → 0 < length xs
some-fields [] e = absurd cc
some-fields (f ∷ xs) e = omega arith

-- a size update in front of all fields is taken
first-update : (count limit : ℕ) (t : Taken) (n : ℕ) → length t.given ≡ 0 → n ≤ limit → with_update count limit t n ≡ Some (record t { updates = t.updates ++ n ∷ [] })
first-update zero limit t n none h = rw (none, le-leb n limit h) refl
first-update (suc count) limit t n none h = rw (none, le-leb 1 (suc count) (omega arith)) refl

-- what became of a size update
data UpdateIs (limit : ℕ) (p : Progress) (n : ℕ) : Type 0 where
  TakenFirst : has_fields p.fields ≡ false → n ≤ limit → UpdateIs limit p n
  TooLate : has_fields p.fields ≡ true → UpdateIs limit p n
  TooLarge : has_fields p.fields ≡ false → limit < n → UpdateIs limit p n

update-is : (limit : ℕ) (p : Progress) (n : ℕ) → UpdateIs limit p n
update-is limit p n = by (has_fields p.fields) refl
  where
    by : (begun : Bool) → has_fields p.fields ≡ begun → UpdateIs limit p n
    by true e = TooLate e
    by false e = elim (leb_tells n limit) [ inl fits ↦ TakenFirst e fits.1 | inr large ↦ TooLarge e large.1 ]

update-taken : (count limit : ℕ) (p q : Progress) (t : Taken) (n : ℕ) → length t.given ≡ length p.fields → applied limit p (Update n) ≡ Ok q → UpdateIs limit p n → OneTaken count limit t (Update n) (length q.fields)
update-taken count limit p q t n same e (TakenFirst none fits) =
    let after : Ok (record { fields = p.fields; table = resize p.table n; due = false }) ≡ Ok q = sym (applied-update limit p n none fits) ∙ e in
    let fields : p.fields ≡ q.fields = cc in
    let zero_fields = no-fields p.fields none in
    record {
      now = record t { updates = t.updates ++ n ∷ [] };
      is = first-update count limit t n (same ∙ zero_fields) fits;
      given = sym (append-nil t.given);
      updated = refl;
      each = same ∙ ap length fields;
    }
update-taken count limit p q t n same e (TooLate some) = absurd (let bad = sym (applied-update_late limit p n some) ∙ e in cc)
update-taken count limit p q t n same e (TooLarge none large) = absurd (let bad = sym (applied-update_large limit p n none large) ∙ e in cc)

one-taken : (count limit : ℕ) (p q : Progress) (t : Taken) (i : Shape) → length t.given ≡ length p.fields → applied limit p i ≡ Ok q → length q.fields ≤ count → OneTaken count limit t i (length q.fields)
one-taken count limit p q t (Indexed i) same e h =
    let one = indexed-one limit p q i e in
    field-taken count limit (length q.fields) t (Indexed i) (ByIndex i) refl refl refl (omega (arith, one, same)) h
one-taken count limit p q t (Update n) same e h = update-taken count limit p q t n same e (update-is limit p n)
one-taken count limit p q t (Literal mode name value) same e h =
    let one = literal-one limit p q mode name value e in
    field-taken count limit (length q.fields) t (Literal mode name value) (literal_spelling mode name value.huffman) refl refl refl (omega (arith, one, same)) h

-- ---- one that is refused

none-given : (t : Taken) (s : Spelling) (count : ℕ) → length t.given ≡ count → with_given count t s ≡ None
none-given t s count e = rw (let k : count < suc (length t.given) = omega (arith, e) in lt-leb (suc (length t.given)) count k) refl

none-late : (limit : ℕ) (t : Taken) (n count : ℕ) → length t.given ≡ count → 0 < count → with_update count limit t n ≡ None
none-late limit t n zero e some = absurd (omega (arith, some))
none-late limit t n (suc count) e some =
    let all : suc count < suc (length t.given) = omega (arith, e) in
    let none : (suc count == 0) ≡ false = grind (arith, nat_tests) in
    rw (lt-leb (suc (length t.given)) (suc count) all, none) refl

none-large : (limit : ℕ) (t : Taken) (n count : ℕ) → length t.given ≡ count → limit < n → with_update count limit t n ≡ None
none-large limit t n zero e large = rw (e, lt-leb n limit large) refl
none-large limit t n (suc count) e large = none-late limit t n (suc count) e (omega arith)

update-refused : (limit : ℕ) (p : Progress) (t : Taken) (n : ℕ) (fault : Fault) → length t.given ≡ length p.fields → applied limit p (Update n) ≡ Err fault → UpdateIs limit p n → with_update (length p.fields) limit t n ≡ None
update-refused limit p t n fault same e (TakenFirst none fits) = absurd (let bad = sym (applied-update limit p n none fits) ∙ e in cc)
update-refused limit p t n fault same e (TooLate some) = none-late limit t n (length p.fields) same (some-fields p.fields some)
update-refused limit p t n fault same e (TooLarge none large) = none-large limit t n (length p.fields) same large

one-refused : (limit : ℕ) (p : Progress) (t : Taken) (i : Shape) (fault : Fault) → length t.given ≡ length p.fields → applied limit p i ≡ Err fault → after (length p.fields) limit t i ≡ None
one-refused limit p t (Indexed i) fault same e = none-given t (ByIndex i) (length p.fields) same
one-refused limit p t (Update n) fault same e = update-refused limit p t n fault same e (update-is limit p n)
one-refused limit p t (Literal mode name value) fault same e = none-given t (literal_spelling mode name value.huffman) (length p.fields) same

-- ---- a block

taken-step : (limit : ℕ) (p q : Progress) (b : List ℕ) (i : Shape) (used : ℕ) → instr_at b ≡ Whole i used → applied limit p i ≡ Ok q → decoded limit p b ≡ decoded limit q (drop used b)
taken-step limit p q b i used e k =
    let count : 0 + used ≡ used = omega arith in
    (leads-step limit p p q b 0 used i (leads-start limit p b) e k).rest ∙ ap (λ n. decoded limit q (drop n b)) count

spellings-more : (i : Shape) (is : List Shape) → spellings (i ∷ is) ≡ spellings (i ∷ []) ++ spellings is
spellings-more (Indexed i) is = refl
spellings-more (Update n) is = refl
spellings-more (Literal mode name value) is = refl

updates-more : (i : Shape) (is : List Shape) → updates (i ∷ is) ≡ updates (i ∷ []) ++ updates is
updates-more (Indexed i) is = refl
updates-more (Update n) is = refl
updates-more (Literal mode name value) is = refl

-- a block by how many fields it has given
Reads : ℕ → Progress → Taken → List ℕ → Decoded → Type 0
Reads limit p t b d = IsAlong limit p t d (read_to (length d.progress.fields) limit t b)

along-more : (limit : ℕ) (p q : Progress) (t : Taken) (i : Shape) (d : Decoded) (b c : BlockSpelled) (one : OneTaken (length d.progress.fields) limit t i (length q.fields)) → applied limit p i ≡ Ok q → b ≡ c →
    IsAlong limit q one.now d c → IsAlong limit p t d b
along-more limit p q t i d b c one e same along =
    rw same (record {
      instructions = i ∷ along.instructions;
      taken = (q, e, along.taken);
      given = along.given ∙ ap (λ xs. xs ++ spellings along.instructions) one.given ∙ append_assoc t.given (spellings (i ∷ [])) (spellings along.instructions) ∙ ap (λ xs. t.given ++ xs) (sym (spellings-more i along.instructions));
      updates = along.updates ∙ ap (λ xs. xs ++ updates along.instructions) one.updated ∙ append_assoc t.updates (updates (i ∷ [])) (updates along.instructions) ∙ ap (λ xs. t.updates ++ xs) (sym (updates-more i along.instructions));
      each = along.each;
      left = along.left;
    })

-- nothing more is taken
along-ends : (limit : ℕ) (p : Progress) (t : Taken) (o : Outcome) (b : List ℕ) → length t.given ≡ length p.fields → IsLeft limit p o b → IsAlong limit p t (record { progress = p; outcome = o }) (record { taken = t; rest = b })
along-ends limit p t o b same left = record {
  instructions = [];
  taken = refl;
  given = sym (append-nil t.given);
  updates = sym (append-nil t.updates);
  each = same;
  left = left;
}

along-step : (limit : ℕ) (p : Progress) (t : Taken) (b : List ℕ) → length t.given ≡ length p.fields → ((q : Progress) (u : Taken) (c : List ℕ) → length u.given ≡ length q.fields → length c < length b → Reads limit q u c (decoded limit q c)) →
    Reads limit p t b (decoded limit p b)
unfolding Reads
along-step limit p t b same more = at (instr_at b) refl
  where
    ends : (o : Outcome) → decoded limit p b ≡ record { progress = p; outcome = o } → read_to (length p.fields) limit t b ≡ record { taken = t; rest = b } → IsLeft limit p o b → Reads limit p t b (decoded limit p b)
    ends o e r left = rw (e, r) (along-ends limit p t o b same left)

    by : (i : Shape) (used : ℕ) → instr_at b ≡ Whole i used → (x : Result Progress Fault) → applied limit p i ≡ x → Reads limit p t b (decoded limit p b)
    by i used e (Ok q) k =
        let takes = whole-takes b i used e in
        let shorter = length-drop used b in
        let d = decoded limit q (drop used b) in
        let one = one-taken (length d.progress.fields) limit p q t i same k (fields-stay limit q (drop used b)) in
        let later = more q one.now (drop used b) one.each (let t0 = takes.0 in let t1 = takes.1 in omega (arith, shorter)) in
        rw (taken-step limit p q b i used e k)
        (along-more limit p q t i d (read_to (length d.progress.fields) limit t b) (read_to (length d.progress.fields) limit one.now (drop used b)) one k (read-on (length d.progress.fields) limit t one.now b i used e one.is) later)
    by i used e (Err fault) k =
        ends (Faulty fault) (leads-refused limit p p b 0 used i fault (leads-start limit p b) e k) (read-stays (length p.fields) limit t b i used e (one-refused limit p t i fault same k))
        (subst (λ r. IsRefusedFront limit p r fault) (sym e) k)

    at : (r : Read Shape) → instr_at b ≡ r → Reads limit p t b (decoded limit p b)
    at (Whole i used) e = by i used e (applied limit p i) refl
    at More e = ends (Unfinished b) (decoded-more limit p b e) (read-more (length p.fields) limit t b e) refl
    at TooLong e = ends (Faulty Integer) (decoded-too_long limit p b e) (read-too_long (length p.fields) limit t b e) (subst (λ r. IsRefusedFront limit p r Integer) (sym e) refl)

along-upto : (n limit : ℕ) (p : Progress) (t : Taken) (b : List ℕ) → length t.given ≡ length p.fields → length b ≤ n → Reads limit p t b (decoded limit p b)
along-upto zero limit p t b same h = along-step limit p t b same (λ q u c each less. absurd (omega arith))
along-upto (suc n) limit p t b same h = along-step limit p t b same (λ q u c each less. along-upto n limit q u c each (omega arith))

pub spelled-along : (limit : ℕ) (p : Progress) (b : BlockSpelled) (fragment : List ℕ) → length b.taken.given ≡ length p.fields →
    let d = decoded limit p (b.rest ++ fragment) in IsAlong limit p b.taken d (read_more (length d.progress.fields) limit b fragment)
unfolding Reads
spelled-along limit p b fragment same = along-upto (length (b.rest ++ fragment)) limit p b.taken (b.rest ++ fragment) same (omega arith)
