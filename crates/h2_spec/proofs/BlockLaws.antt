-- Blocks instruction by instruction, and blocks in pieces.
use Rattle.std.proofs.Common.{◌≡◌, ℕ, zero, suc, ◌+◌, ◌<◌, ◌≤◌, Bool, true, false, cond, List, [], ◌∷◌, ◌++◌, length, drop, Option, Some, None, Result, Ok, Err, refl, sym, ap, ◌∙◌, arith, append_assoc, length-drop, le-leb, take}
use Rattle.std.proofs.lemmas.Bool.{lt-leb}
use Rattle.std.proofs.lemmas.List.{append-nil, drop-append-le, drop-drop, drop_all, length-take-le}
use Rattle.std.proofs.Math.Seq.{take-add}
use Rattle.std.specs.List.{concat}
use Rattle.std.specs.Prelude.{option_to_list, nat_le}
use Rattle.h2_spec.specs.Hpack.DynamicTable.{Table, field_at, resize}
use Rattle.h2_spec.specs.Hpack.Field.{Field, field}
use Rattle.h2_spec.specs.Hpack.Instruction.{Shape, Indexed, Update, Literal, Mode, NameRef, Str, instr_at, text_of}
use Rattle.h2_spec.specs.Frames.Parse.{Front, Stop, One, Parsed, after_one, parse_first, parse_all}
use Rattle.h2_spec.specs.Read.{Read, Whole, More, TooLong}
use Rattle.h2_spec.specs.Hpack.Block.{Fault, Integer, LateUpdate, LargeUpdate, MissingUpdate, DecoderState, Given, literal_result, index_fault, indexed_result, where_not_due, table_after, name_of, text_result, apply, taken_unless, instr_taken, next_instr, Outcome, Unfinished, Faulty, refused_by, outcome_of, fields_given, Progress, Decoded, has_fields, decoding, decoded, carried_on, carried_through, progress_after, progress_by, applied, ProgressWithin}
use Rattle.h2_spec.proofs.InstructionLaws.{Stays, Within, Takes, instr-stays, instr-within, instr-takes, whole-takes, whole-exact}
use Rattle.h2_spec.proofs.ParseLaws as laws

-- ---- the premises of the laws of parsing

taken-uses : (b : List ℕ) (used : ℕ) (r : Result Given Fault) → 0 < used → used ≤ length b → laws.Uses b (taken_unless used r)
taken-uses b used (Ok g) h k = (h, k)
taken-uses b used (Err fault) h k = tt

read-uses : (limit : ℕ) (d : DecoderState) (b : List ℕ) (r : Read Shape) → Within (length b) r → Takes r → laws.Uses b (instr_taken limit d r)
read-uses limit d b (Whole i used) h k = taken-uses b used (apply limit d i) k h
read-uses limit d b More h k = tt
read-uses limit d b TooLong h k = tt

next-uses : (limit : ℕ) (d : DecoderState) (b : List ℕ) → laws.Uses b (next_instr limit d b)
unfolding next_instr
next-uses limit d b = read-uses limit d b (instr_at b) (instr-within b) (instr-takes b)

taken-stays : (used : ℕ) (r : Result Given Fault) → laws.Stays (taken_unless used r) (taken_unless used r)
taken-stays used (Ok g) = refl
taken-stays used (Err fault) = tt

read-stays : (limit : ℕ) (d : DecoderState) (x y : Read Shape) → Stays x y → laws.Stays (instr_taken limit d x) (instr_taken limit d y)
read-stays limit d (Whole i used) y h = rw h (taken-stays used (apply limit d i))
read-stays limit d More y h = tt
read-stays limit d TooLong y h = tt

next-stays : (limit : ℕ) (d : DecoderState) (b c : List ℕ) → laws.Stays (next_instr limit d b) (next_instr limit d (b ++ c))
unfolding next_instr
next-stays limit d b c = read-stays limit d (instr_at b) (instr_at (b ++ c)) (instr-stays b c)

-- ---- the fields of a block

given-append : (xs ys : List (Option Field)) → fields_given (xs ++ ys) ≡ fields_given xs ++ fields_given ys
given-append [] ys = refl
given-append (None ∷ xs) ys = given-append xs ys
given-append (Some f ∷ xs) ys = ap (λ fs. f ∷ fs) (given-append xs ys)

-- a field was read, before or with this instruction
abbrev begun_with : Bool → Option Field → Bool
begun_with begun None = begun
begun_with begun (Some f) = true

abbrev Begins : Bool → Result Given Fault → Type 0
Begins begun (Ok g) = g.after.begun ≡ begun_with begun g.field
Begins begun (Err fault) = Unit {0}

due-begins : (begun due : Bool) (r : Result Given Fault) → Begins begun r → Begins begun (where_not_due due r)
due-begins begun true r h = tt
due-begins begun false r h = h

literal-begins : (mode : Mode) (d : DecoderState) (name value : Result (List ℕ) Fault) → Begins d.begun (literal_result mode d name value)
literal-begins mode d (Ok name) (Ok value) = refl
literal-begins mode d (Ok name) (Err fault) = tt
literal-begins mode d (Err fault) value = tt

indexed-begins : (d : DecoderState) (i : ℕ) (f : Option Field) → Begins d.begun (indexed_result d i f)
indexed-begins d i (Some f) = refl
indexed-begins d i None = tt

update-begins : (d : DecoderState) (table : Table) (begun fits : Bool) → Begins d.begun (cond begun (Err LateUpdate) (cond fits (Ok (record { field = None; after = record d { table = table; due = false } })) (Err LargeUpdate)))
update-begins d table true fits = tt
update-begins d table false true = refl
update-begins d table false false = tt

apply-begins : (limit : ℕ) (d : DecoderState) (i : Shape) → Begins d.begun (apply limit d i)
unfolding apply
apply-begins limit d (Update n) = update-begins d (resize d.table n) d.begun (nat_le n limit)
apply-begins limit d (Indexed i) = due-begins d.begun d.due _ (indexed-begins d i (field_at i d.table.entries))
apply-begins limit d (Literal mode name value) = due-begins d.begun d.due _ (literal-begins mode d (name_of name d.table.entries) (text_result (text_of value)))

has-fields : (fields : List Field) (f : Option Field) → has_fields (fields ++ option_to_list f) ≡ begun_with (has_fields fields) f
has-fields [] None = refl
has-fields [] (Some f) = refl
has-fields (x ∷ fields) None = refl
has-fields (x ∷ fields) (Some f) = refl

begins-given : (begun : Bool) (r : Result Given Fault) (g : Given) → r ≡ Ok g → Begins begun r → g.after.begun ≡ begun_with begun g.field
begins-given begun (Ok h) g e k = let same : h ≡ g = cc in rw (sym same) k
begins-given begun (Err fault) g e k = absurd cc

decoding-after : (limit : ℕ) (p : Progress) (i : Shape) (g : Given) → apply limit (decoding p) i ≡ Ok g → decoding (progress_after p g) ≡ g.after
decoding-after limit p i g e =
    let begun = begins-given (has_fields p.fields) (apply limit (decoding p) i) g e (apply-begins limit (decoding p) i) in
    ap (λ (t : Bool). let d : DecoderState = record { table = g.after.table; begun = t; due = g.after.due } in d) (has-fields p.fields g.field ∙ sym begun)

-- ---- one instruction more

-- a block after these fields, whose instructions these are
ended : ℕ → List Field → Parsed DecoderState (Option Field) → Decoded
ended limit fields t = record { progress = record { fields = fields ++ fields_given t.elements; table = t.state.table; due = t.state.due }; outcome = outcome_of limit t.state t.rest (instr_at t.rest) }

ended-one : (limit : ℕ) (fields : List Field) (x : Option Field) (t : Parsed DecoderState (Option Field)) → ended limit fields (after_one x t) ≡ ended limit (fields ++ option_to_list x) t
unfolding ended
ended-one limit fields None t = rw (append-nil fields) refl
ended-one limit fields (Some f) t = rw (append_assoc fields (f ∷ []) (fields_given t.elements)) refl

-- the block whose first instruction is this
by_first : ℕ → Progress → List ℕ → Front DecoderState (Option Field) → Decoded
by_first limit p b x = ended limit p.fields (parse_first (decoding p) b x (λ d rest. parse_all (next_instr limit) d rest))

decoded-first : (limit : ℕ) (p : Progress) (b : List ℕ) → decoded limit p b ≡ by_first limit p b (next_instr limit (decoding p) b)
unfolding decoded ended by_first
decoded-first limit p b = ap (ended limit p.fields) (laws.parse_all-step (next_instr limit) (next-uses limit) (decoding p) b)

-- a whole instruction that is not refused, and then the rest
pub decoded-step : (limit : ℕ) (p : Progress) (b : List ℕ) (i : Shape) (used : ℕ) (g : Given) → instr_at b ≡ Whole i used → apply limit (decoding p) i ≡ Ok g → decoded limit p b ≡ decoded limit (progress_after p g) (drop used b)
unfolding decoded ended by_first next_instr
decoded-step limit p b i used g e k =
    let first : next_instr limit (decoding p) b ≡ One g.field g.after used = ap (instr_taken limit (decoding p)) e ∙ ap (taken_unless used) k in
    decoded-first limit p b ∙ ap (by_first limit p b) first
    ∙ ended-one limit p.fields g.field (parse_all (next_instr limit) g.after (drop used b))
    ∙ ap (λ d. ended limit (p.fields ++ option_to_list g.field) (parse_all (next_instr limit) d (drop used b))) (sym (decoding-after limit p i g k))

stopped : (limit : ℕ) (p : Progress) (b : List ℕ) → next_instr limit (decoding p) b ≡ Stop → decoded limit p b ≡ record { progress = p; outcome = outcome_of limit (decoding p) b (instr_at b) }
unfolding decoded ended by_first
stopped limit p b e =
    decoded-first limit p b ∙ ap (by_first limit p b) e
    ∙ ap (λ (fs : List Field). let d : Decoded = record { progress = record p { fields = fs }; outcome = outcome_of limit (decoding p) b (instr_at b) } in d) (append-nil p.fields)

with_outcome : Progress → Outcome → Decoded
with_outcome p o = record { progress = p; outcome = o }

-- nothing whole
pub decoded-more : (limit : ℕ) (p : Progress) (b : List ℕ) → instr_at b ≡ More → decoded limit p b ≡ record { progress = p; outcome = Unfinished b }
unfolding next_instr outcome_of with_outcome
decoded-more limit p b e = stopped limit p b (ap (instr_taken limit (decoding p)) e) ∙ ap (λ r. with_outcome p (outcome_of limit (decoding p) b r)) e

-- an integer that is too long
pub decoded-too_long : (limit : ℕ) (p : Progress) (b : List ℕ) → instr_at b ≡ TooLong → decoded limit p b ≡ record { progress = p; outcome = Faulty Integer }
unfolding next_instr outcome_of with_outcome
decoded-too_long limit p b e = stopped limit p b (ap (instr_taken limit (decoding p)) e) ∙ ap (λ r. with_outcome p (outcome_of limit (decoding p) b r)) e

-- a whole instruction that is refused
pub decoded-refused : (limit : ℕ) (p : Progress) (b : List ℕ) (i : Shape) (used : ℕ) (fault : Fault) → instr_at b ≡ Whole i used → apply limit (decoding p) i ≡ Err fault → decoded limit p b ≡ record { progress = p; outcome = Faulty fault }
unfolding next_instr outcome_of with_outcome
decoded-refused limit p b i used fault e k =
    stopped limit p b (ap (instr_taken limit (decoding p)) e ∙ ap (taken_unless used) k)
    ∙ ap (λ r. with_outcome p (outcome_of limit (decoding p) b r)) e ∙ ap (λ r. with_outcome p (refused_by b r)) k

-- ---- blocks in pieces

carried-to : (limit : ℕ) (d e : Decoded) (c : List ℕ) → d ≡ e → carried_on limit e c ≡ carried_on limit d c
carried-to limit d e c same = ap (λ x. carried_on limit x c) (sym same)

-- the rest after an instruction of that many octets may be cut off from what follows
abbrev Follows : ℕ → List ℕ → List ℕ → Type 0
Follows limit b c = (p : Progress) (used : ℕ) → 0 < used → used ≤ length b → decoded limit p (drop used b ++ c) ≡ carried_on limit (decoded limit p (drop used b)) c

append-taken : (limit : ℕ) (p : Progress) (b c : List ℕ) (i : Shape) (used : ℕ) (r : Result Given Fault) → Follows limit b c → instr_at b ≡ Whole i used → apply limit (decoding p) i ≡ r →
    instr_at (b ++ c) ≡ Whole i used → 0 < used → used ≤ length b → decoded limit p (b ++ c) ≡ carried_on limit (decoded limit p b) c
unfolding carried_on with_outcome
append-taken limit p b c i used (Ok g) follows e k s t w =
    decoded-step limit p (b ++ c) i used g s k ∙ ap (decoded limit (progress_after p g)) (drop-append-le used b c w)
    ∙ follows (progress_after p g) used t w ∙ carried-to limit (decoded limit p b) (decoded limit (progress_after p g) (drop used b)) c (decoded-step limit p b i used g e k)
append-taken limit p b c i used (Err fault) follows e k s t w =
    decoded-refused limit p (b ++ c) i used fault s k ∙ carried-to limit (decoded limit p b) (with_outcome p (Faulty fault)) c (decoded-refused limit p b i used fault e k)

append-read : (limit : ℕ) (p : Progress) (b c : List ℕ) (r : Read Shape) → Follows limit b c → instr_at b ≡ r → Stays r (instr_at (b ++ c)) → Within (length b) r → Takes r → decoded limit p (b ++ c) ≡ carried_on limit (decoded limit p b) c
unfolding carried_on with_outcome
append-read limit p b c (Whole i used) follows e s w t = append-taken limit p b c i used (apply limit (decoding p) i) follows e refl s t w
append-read limit p b c More follows e s w t = carried-to limit (decoded limit p b) (with_outcome p (Unfinished b)) c (decoded-more limit p b e)
append-read limit p b c TooLong follows e s w t = decoded-too_long limit p (b ++ c) s ∙ carried-to limit (decoded limit p b) (with_outcome p (Faulty Integer)) c (decoded-too_long limit p b e)

append-upto : (n limit : ℕ) (p : Progress) (b c : List ℕ) → length b ≤ n → decoded limit p (b ++ c) ≡ carried_on limit (decoded limit p b) c
append-upto zero limit p b c h = append-read limit p b c (instr_at b) (λ q used t w. absurd (omega arith)) refl (instr-stays b c) (instr-within b) (instr-takes b)
append-upto (suc n) limit p b c h =
    append-read limit p b c (instr_at b) (λ q used t w. let less = length-drop used b in append-upto n limit q (drop used b) c (omega arith)) refl (instr-stays b c) (instr-within b) (instr-takes b)

-- decoded over octets in two pieces
pub decoded-append : (limit : ℕ) (p : Progress) (b c : List ℕ) → decoded limit p (b ++ c) ≡ carried_on limit (decoded limit p b) c
decoded-append limit p b c = append-upto (length b) limit p b c (omega arith)

-- decoded over octets in any number of pieces
pub decoded-pieces : (limit : ℕ) (p : Progress) (b : List ℕ) (pieces : List (List ℕ)) → carried_through limit (decoded limit p b) pieces ≡ decoded limit p (b ++ concat pieces)
unfolding carried_through
decoded-pieces limit p b [] = ap (decoded limit p) (sym (append-nil b))
decoded-pieces limit p b (c ∷ cs) =
    ap (λ d. carried_through limit d cs) (sym (decoded-append limit p b c))
    ∙ decoded-pieces limit p (b ++ c) cs ∙ ap (decoded limit p) (append_assoc b c (concat cs))

-- ---- the block after one instruction more

applied-ok : (limit : ℕ) (p : Progress) (i : Shape) (g : Given) → apply limit (decoding p) i ≡ Ok g → applied limit p i ≡ Ok (progress_after p g)
unfolding applied
applied-ok limit p i g e = ap (progress_by p) e

applied-err : (limit : ℕ) (p : Progress) (i : Shape) (fault : Fault) → apply limit (decoding p) i ≡ Err fault → applied limit p i ≡ Err fault
unfolding applied
applied-err limit p i fault e = ap (progress_by p) e

pub applied-update : (limit : ℕ) (p : Progress) (n : ℕ) → has_fields p.fields ≡ false → n ≤ limit → applied limit p (Update n) ≡ Ok (record { fields = p.fields; table = resize p.table n; due = false })
unfolding applied apply
applied-update limit p n e h = rw (e, le-leb n limit h) (ap (λ (fs : List Field). let q : Progress = record { fields = fs; table = resize p.table n; due = false } in Ok q) (append-nil p.fields))

pub applied-update_late : (limit : ℕ) (p : Progress) (n : ℕ) → has_fields p.fields ≡ true → applied limit p (Update n) ≡ Err LateUpdate
unfolding applied apply
applied-update_late limit p n e = rw e refl

pub applied-update_large : (limit : ℕ) (p : Progress) (n : ℕ) → has_fields p.fields ≡ false → limit < n → applied limit p (Update n) ≡ Err LargeUpdate
unfolding applied apply
applied-update_large limit p n e h = rw (e, lt-leb n limit h) refl

pub applied-indexed_due : (limit : ℕ) (p : Progress) (i : ℕ) → p.due ≡ true → applied limit p (Indexed i) ≡ Err MissingUpdate
unfolding applied apply
applied-indexed_due limit p i e = rw e refl

pub applied-indexed : (limit : ℕ) (p : Progress) (i : ℕ) (f : Field) → p.due ≡ false → field_at i p.table.entries ≡ Some f → applied limit p (Indexed i) ≡ Ok (record p { fields = p.fields ++ f ∷ [] })
unfolding applied apply
applied-indexed limit p i f e h = rw (e, h) refl

pub applied-no_index : (limit : ℕ) (p : Progress) (i : ℕ) → p.due ≡ false → field_at i p.table.entries ≡ None → applied limit p (Indexed i) ≡ Err (index_fault i)
unfolding applied apply
applied-no_index limit p i e h = rw (e, h) refl

pub applied-literal_due : (limit : ℕ) (p : Progress) (mode : Mode) (name : NameRef Str) (value : Str) → p.due ≡ true → applied limit p (Literal mode name value) ≡ Err MissingUpdate
unfolding applied apply
applied-literal_due limit p mode name value e = rw e refl

pub applied-literal : (limit : ℕ) (p : Progress) (mode : Mode) (name : NameRef Str) (value : Str) (n v : List ℕ) → p.due ≡ false → name_of name p.table.entries ≡ Ok n → text_result (text_of value) ≡ Ok v →
    applied limit p (Literal mode name value) ≡ Ok (record p { fields = p.fields ++ field n v ∷ []; table = table_after mode p.table (field n v) })
unfolding applied apply
applied-literal limit p mode name value n v e h k = rw (e, h, k) refl

pub applied-name_refused : (limit : ℕ) (p : Progress) (mode : Mode) (name : NameRef Str) (value : Str) (fault : Fault) → p.due ≡ false → name_of name p.table.entries ≡ Err fault →
    applied limit p (Literal mode name value) ≡ Err fault
unfolding applied apply
applied-name_refused limit p mode name value fault e h = rw (e, h) refl

pub applied-value_refused : (limit : ℕ) (p : Progress) (mode : Mode) (name : NameRef Str) (value : Str) (n : List ℕ) (fault : Fault) → p.due ≡ false → name_of name p.table.entries ≡ Ok n →
    text_result (text_of value) ≡ Err fault → applied limit p (Literal mode name value) ≡ Err fault
unfolding applied apply
applied-value_refused limit p mode name value n fault e h k = rw (e, h, k) refl

-- ---- a loop over the instructions of a block

-- that many first octets are whole instructions that lead to q, and the block goes on from there
pub record LeadsTo (limit : ℕ) (p : Progress) (b : List ℕ) (at : ℕ) (q : Progress) : Type 0 where
  pub within : at ≤ length b
  pub front : decoded limit p (take at b) ≡ record { progress = q; outcome = Unfinished [] }
  pub rest : decoded limit p b ≡ decoded limit q (drop at b)

nothing-whole : instr_at [] ≡ More
unfolding instr_at
nothing-whole = refl

pub leads-start : (limit : ℕ) (p : Progress) (b : List ℕ) → LeadsTo limit p b 0 p
leads-start limit p b = record { within = omega arith; front = decoded-more limit p [] nothing-whole; rest = refl }

applied-step : (limit : ℕ) (p q : Progress) (b : List ℕ) (i : Shape) (used : ℕ) (r : Result Given Fault) → instr_at b ≡ Whole i used → apply limit (decoding p) i ≡ r → progress_by p r ≡ Ok q → decoded limit p b ≡ decoded limit q (drop used b)
applied-step limit p q b i used (Ok g) e k h = let same : progress_after p g ≡ q = cc in decoded-step limit p b i used g e k ∙ ap (λ x. decoded limit x (drop used b)) same
applied-step limit p q b i used (Err fault) e k h = absurd cc

applied-stop : (limit : ℕ) (p : Progress) (b : List ℕ) (i : Shape) (used : ℕ) (fault : Fault) (r : Result Given Fault) → instr_at b ≡ Whole i used → apply limit (decoding p) i ≡ r → progress_by p r ≡ Err fault →
    decoded limit p b ≡ record { progress = p; outcome = Faulty fault }
unfolding with_outcome
applied-stop limit p b i used fault (Ok g) e k h = absurd cc
applied-stop limit p b i used fault (Err f) e k h = let same : f ≡ fault = cc in decoded-refused limit p b i used f e k ∙ ap (λ x. with_outcome p (Faulty x)) same

-- an instruction more
pub leads-step : (limit : ℕ) (p q r : Progress) (b : List ℕ) (at used : ℕ) (i : Shape) → LeadsTo limit p b at q → instr_at (drop at b) ≡ Whole i used → applied limit q i ≡ Ok r → LeadsTo limit p b (at + used) r
unfolding applied carried_on
leads-step limit p q r b at used i s e k =
    let u = whole-takes (drop at b) i used e in
    let len = length-drop at b in
    let whole = whole-exact (drop at b) i used e in
    let piece = take used (drop at b) in
    let step : decoded limit q piece ≡ decoded limit r (drop used piece) = applied-step limit q r piece i used (apply limit (decoding q) i) whole refl k in
    let gone : drop used piece ≡ [] = drop_all used piece (omega (arith, length-take-le used (drop at b) u.1)) in
    record {
      within = omega (arith, s.within, u.1, len);
      front = ap (decoded limit p) (take-add at used b) ∙ decoded-append limit p (take at b) piece ∙ ap (λ d. carried_on limit d piece) s.front
          ∙ step ∙ ap (decoded limit r) gone ∙ decoded-more limit r [] nothing-whole;
      rest = s.rest ∙ applied-step limit q r (drop at b) i used (apply limit (decoding q) i) e refl k ∙ ap (decoded limit r) (drop-drop used at b);
    }

-- no whole instruction more
pub leads-more : (limit : ℕ) (p q : Progress) (b : List ℕ) (at : ℕ) → LeadsTo limit p b at q → instr_at (drop at b) ≡ More → decoded limit p b ≡ record { progress = q; outcome = Unfinished (drop at b) }
leads-more limit p q b at s e = s.rest ∙ decoded-more limit q (drop at b) e

pub leads-too_long : (limit : ℕ) (p q : Progress) (b : List ℕ) (at : ℕ) → LeadsTo limit p b at q → instr_at (drop at b) ≡ TooLong → decoded limit p b ≡ record { progress = q; outcome = Faulty Integer }
leads-too_long limit p q b at s e = s.rest ∙ decoded-too_long limit q (drop at b) e

pub leads-refused : (limit : ℕ) (p q : Progress) (b : List ℕ) (at used : ℕ) (i : Shape) (fault : Fault) → LeadsTo limit p b at q → instr_at (drop at b) ≡ Whole i used → applied limit q i ≡ Err fault →
    decoded limit p b ≡ record { progress = q; outcome = Faulty fault }
unfolding applied
leads-refused limit p q b at used i fault s e k = s.rest ∙ applied-stop limit q (drop at b) i used fault (apply limit (decoding q) i) e refl k

pub leads-within : (limit : ℕ) (p q : Progress) (b : List ℕ) (at : ℕ) → LeadsTo limit p b at q → ProgressWithin limit p b q
leads-within limit p q b at s = (at, s.front)
