-- The table that is followed is the one that a connection's decoding leaves.
use Rattle.std.proofs.Common.{◌≡◌, ◌∙◌, ◌⊎◌, inl, inr, ℕ, ◌+◌, ◌≤◌, Bool, true, false, List, [], ◌∷◌, ◌++◌, length, drop, nat_le, nat_lt, Option, Some, None, Result, Ok, Err, refl, sym, ap, arith, le-leb}
use Rattle.std.specs.Prelude.{not, ◌==◌, option_to_list}
use Rattle.std.proofs.Math.Seq.{drop-append_seam}
use Rattle.std.proofs.lemmas.Bool.Decides.{leb_tells}
use Rattle.std.proofs.lemmas.List.{append-nil, append_assoc}
use Rattle.h2_spec.specs.Hpack.Block.{Decoded, DecoderState, Fault, Given, Outcome, Unfinished, Faulty, Progress, applied, apply, decoding, has_fields, indexed_result, list_size, literal_result, name_of, progress_after, progress_by, table_after, text_result, where_not_due}
use Rattle.h2_spec.specs.Hpack.DynamicTable.{Table, field_at, insert, resize}
use Rattle.h2_spec.specs.Hpack.Field.{Field, field}
use Rattle.h2_spec.specs.Hpack.Instruction.{Mode, IncrementalIndexing, WithoutIndexing, NeverIndexed, NameRef, Ref, Named, Shape, Indexed, Update, Literal, Str, text_of}
use Rattle.h2_spec.specs.declared.reactions.Change.{Change}
use Rattle.h2_spec.specs.Requests.Headers.{Breaks, Makes, block_ends, decoded_with, fragment, fragment_decoded, fragment_read, max_block, with_block}
use Rattle.h2_spec.specs.State.{Decoding, State}
use Rattle.h2_spec.specs.declared.causes.Cause.TheVariants.{BlockTooLarge, BlockTruncated, SizeUpdateMissing}
use Rattle.h2_spec.specs.declared.connection.BlockView.{BlockView}
use Rattle.h2_spec.specs.declared.connection.Purpose.{Purpose}
use Rattle.h2_spec.proofs.BlockLaws.{applied-update, applied-update_late, applied-update_large}
use Rattle.h2_spec_laws.specs.Blocks.{Lead}
use Rattle.h2_explain_words.specs.Along.{IsAlong, updates}
use Rattle.h2_explain_words.specs.Spelled.{Spelling, ByIndex, literal_spelling, spellings}
use Rattle.h2_explain_item.specs.FollowedTable.{EntryListed, Following, IsFollowedTo, TableFollowed, block_followed, enters, field_followed, fields_followed, following, limited, resizing, updates_followed}
use Rattle.h2_explain_item.specs.ShownBlock.{BlocksRead, Spelled, shown_fields, spelled}
use Rattle.h2_explain_item.proofs.ShownLaws.{length-spelled}

-- ---- what the steps do to the table

abbrev table_of : Following → Table
table_of w = w.followed.table.table

-- a field that enters
entered-table : (item : ℕ) (is_listed : Bool) (x : Spelled) (w : Following) → enters x.spelling ≡ true → table_of (field_followed item is_listed x w) ≡ insert (table_of w) x.field
entered-table item true x w e = rw e refl
entered-table item false x w e = rw e refl

-- one that does not
passed-table : (item : ℕ) (is_listed : Bool) (x : Spelled) (w : Following) → enters x.spelling ≡ false → field_followed item is_listed x w ≡ w
passed-table item is_listed x w e = rw e refl

-- a table size update within the limit
resized-table : (item n : ℕ) (w : Following) → n ≤ w.followed.table.limit → table_of (resizing item n w) ≡ resize (table_of w) n
resized-table item n w h = rw (le-leb n w.followed.table.limit h) refl

-- no update moves the limit, or counts fields
data Keeps (before after : Following) : Type 0 where
  Kept : after.followed.table.limit ≡ before.followed.table.limit → after.followed.fields ≡ before.followed.fields → Keeps before after

resizing-keeps : (item n : ℕ) (w : Following) → Keeps w (resizing item n w)
resizing-keeps item n w = by (nat_le n w.followed.table.limit) refl
  where
    by : (b : Bool) → nat_le n w.followed.table.limit ≡ b → Keeps w (resizing item n w)
    by true e = rw e (Kept refl refl)
    by false e = rw e (Kept refl refl)

limit-kept : (item n : ℕ) (w : Following) → (resizing item n w).followed.table.limit ≡ w.followed.table.limit
limit-kept item n w = elim (resizing-keeps item n w) [ Kept l f ↦ l ]

fields-kept : (item : ℕ) (ns : List ℕ) (w : Following) → (updates_followed item ns w).followed.fields ≡ w.followed.fields
fields-kept item [] w = refl
fields-kept item (n ∷ ns) w = fields-kept item ns (resizing item n w) ∙ elim (resizing-keeps item n w) [ Kept l f ↦ f ]

-- ---- what an instruction gives

-- a field, and the table that it leaves
Gives : (Field → Table) → Result Given Fault → Type 0
Gives table (Ok g) = (f : Field) × (g.field ≡ Some f) × (g.after.table ≡ table f)
Gives table (Err fault) = Unit {0}

gives-where_due : (table : Field → Table) (due : Bool) (x : Result Given Fault) → Gives table x → Gives table (where_not_due due x)
unfolding Gives
gives-where_due table true x h = tt
gives-where_due table false x h = h

gives-by_index : (d : DecoderState) (i : ℕ) (f : Option Field) → Gives (λ g. d.table) (indexed_result d i f)
unfolding Gives
gives-by_index d i (Some f) = (f, refl, refl)
gives-by_index d i None = tt

gives-by_literal : (d : DecoderState) (mode : Mode) (name value : Result (List ℕ) Fault) → Gives (table_after mode d.table) (literal_result mode d name value)
unfolding Gives
gives-by_literal d mode (Ok name) (Ok value) = (field name value, refl, refl)
gives-by_literal d mode (Ok name) (Err fault) = tt
gives-by_literal d mode (Err fault) value = tt

record OneField (p q : Progress) (table : Field → Table) : Type 0 where
  one : Field
  fields : q.fields ≡ p.fields ++ one ∷ []
  left : q.table ≡ table one

gives-next : (p q : Progress) (table : Field → Table) (x : Result Given Fault) → Gives table x → progress_by p x ≡ Ok q → OneField p q table
unfolding Gives
gives-next p q table (Ok g) h e =
    let same : progress_after p g ≡ q = cc in
    record {
      one = h.0;
      fields = ap (λ (r : Progress). r.fields) (sym same) ∙ ap (λ (o : Option Field). p.fields ++ option_to_list o) h.1;
      left = ap (λ (r : Progress). r.table) (sym same) ∙ h.2;
    }
gives-next p q table (Err fault) h e = absurd cc

indexed-next : (limit : ℕ) (p q : Progress) (i : ℕ) → applied limit p (Indexed i) ≡ Ok q → OneField p q (λ f. p.table)
unfolding applied apply
indexed-next limit p q i e =
    gives-next p q (λ f. p.table) (apply limit (decoding p) (Indexed i))
    (gives-where_due (λ f. p.table) p.due (indexed_result (decoding p) i (field_at i p.table.entries)) (gives-by_index (decoding p) i (field_at i p.table.entries))) e

literal-next : (limit : ℕ) (p q : Progress) (mode : Mode) (name : NameRef Str) (value : Str) → applied limit p (Literal mode name value) ≡ Ok q → OneField p q (table_after mode p.table)
unfolding applied apply
literal-next limit p q mode name value e =
    let n = name_of name p.table.entries in
    let v = text_result (text_of value) in
    gives-next p q (table_after mode p.table) (apply limit (decoding p) (Literal mode name value))
    (gives-where_due (table_after mode p.table) p.due (literal_result mode (decoding p) n v) (gives-by_literal (decoding p) mode n v)) e

-- a table size update that is carried out
record OneUpdate (limit : ℕ) (p q : Progress) (n : ℕ) : Type 0 where
  first : has_fields p.fields ≡ false
  within : n ≤ limit
  is : q ≡ record { fields = p.fields; table = resize p.table n; due = false }

update-next : (limit : ℕ) (p q : Progress) (n : ℕ) → applied limit p (Update n) ≡ Ok q → OneUpdate limit p q n
update-next limit p q n e = by (has_fields p.fields) refl
  where
    by : (begun : Bool) → has_fields p.fields ≡ begun → OneUpdate limit p q n
    by true k = absurd (let bad = sym (applied-update_late limit p n k) ∙ e in cc)
    by false k = elim (leb_tells n limit) [
      | inl fits ↦ let made : Ok (record { fields = p.fields; table = resize p.table n; due = false }) ≡ Ok q = sym (applied-update limit p n k fits.1) ∙ e in record { first = k; within = fits.1; is = cc }
      | inr large ↦ absurd (let bad = sym (applied-update_large limit p n k large.1) ∙ e in cc)
    ]

-- ---- instructions

begun-more : (xs : List Field) (f : Field) → has_fields (xs ++ f ∷ []) ≡ true
begun-more [] f = refl
begun-more (x ∷ xs) f = refl

-- after a field there are no updates
no-updates : (limit : ℕ) (is : List Shape) (p q : Progress) → has_fields p.fields ≡ true → Lead limit p is q → updates is ≡ []
no-updates limit [] p q begun l = refl
no-updates limit (Indexed i ∷ is) p q begun l =
    let n = indexed-next limit p l.0 i l.1 in
    no-updates limit is l.0 q (ap has_fields n.fields ∙ begun-more p.fields n.one) l.2
no-updates limit (Update n ∷ is) p q begun l = let u = update-next limit p l.0 n l.1 in absurd (let bad = sym begun ∙ u.first in cc)
no-updates limit (Literal mode name value ∷ is) p q begun l =
    let n = literal-next limit p l.0 mode name value l.1 in
    no-updates limit is l.0 q (ap has_fields n.fields ∙ begun-more p.fields n.one) l.2

-- instructions give fields, and following these leads to the table that the instructions lead to
record LeadsTable (limit : ℕ) (p : Progress) (is : List Shape) (q : Progress) : Type 0 where
  more : List Field
  fields : q.fields ≡ p.fields ++ more
  table : (item listed place : ℕ) (w : Following) → table_of w ≡ p.table → w.followed.table.limit ≡ limit → table_of (fields_followed item listed place (spelled more (spellings is)) (updates_followed item (updates is) w)) ≡ q.table

-- a field more
followed-field : (limit : ℕ) (p next q : Progress) (is : List Shape) (i : Shape) (s : Spelling) (leaves : Field → Table) (one : OneField p next leaves) →
    spellings (i ∷ is) ≡ s ∷ spellings is → updates (i ∷ is) ≡ updates is → updates is ≡ [] →
    ((item : ℕ) (is_listed : Bool) (w : Following) → table_of w ≡ p.table → w.followed.table.limit ≡ limit →
    let v = field_followed item is_listed (record { field = one.one; spelling = s }) w in (table_of v ≡ leaves one.one) × (v.followed.table.limit ≡ limit)) →
    LeadsTable limit next is q → LeadsTable limit p (i ∷ is) q
followed-field limit p next q is i s leaves one spells same none step rest = record {
  more = one.one ∷ rest.more;
  fields = rest.fields ∙ ap (λ xs. xs ++ rest.more) one.fields ∙ append_assoc p.fields (one.one ∷ []) rest.more;
  table = λ item listed place w t l.
      let x : Spelled = record { field = one.one; spelling = s } in
      let v = field_followed item (nat_lt place listed) x w in
      let h = step item (nat_lt place listed) w t l in
      let xs = spelled rest.more (spellings is) in
      ap (λ (ss : List Spelling). table_of (fields_followed item listed place (spelled (one.one ∷ rest.more) ss) (updates_followed item (updates (i ∷ is)) w))) spells
      ∙ ap (λ (us : List ℕ). table_of (fields_followed item listed place (x ∷ xs) (updates_followed item us w))) (same ∙ none)
      ∙ ap (λ (us : List ℕ). table_of (fields_followed item listed (place + 1) xs (updates_followed item us v))) (sym none)
      ∙ rest.table item listed (place + 1) v (h.0 ∙ sym one.left) h.1;
}

limit-field : (item : ℕ) (is_listed : Bool) (x : Spelled) (w : Following) → (field_followed item is_listed x w).followed.table.limit ≡ w.followed.table.limit
limit-field item is_listed x w = by (enters x.spelling) refl is_listed
  where
    by : (b : Bool) → enters x.spelling ≡ b → (l : Bool) → (field_followed item l x w).followed.table.limit ≡ w.followed.table.limit
    by false e l = rw e refl
    by true e true = rw e refl
    by true e false = rw e refl

literal-enters : (mode : Mode) (name : NameRef Str) (huffman : Bool) (t : Table) (f : Field) → ((enters (literal_spelling mode name huffman) ≡ true) × (table_after mode t f ≡ insert t f)) ⊎ ((enters (literal_spelling mode name huffman) ≡ false) × (table_after mode t f ≡ t))
literal-enters IncrementalIndexing (Ref i) huffman t f = inl (refl, refl)
literal-enters IncrementalIndexing (Named name) huffman t f = inl (refl, refl)
literal-enters WithoutIndexing (Ref i) huffman t f = inr (refl, refl)
literal-enters WithoutIndexing (Named name) huffman t f = inr (refl, refl)
literal-enters NeverIndexed (Ref i) huffman t f = inr (refl, refl)
literal-enters NeverIndexed (Named name) huffman t f = inr (refl, refl)

literal-table : (item : ℕ) (is_listed : Bool) (mode : Mode) (name : NameRef Str) (huffman : Bool) (f : Field) (w : Following) →
    table_of (field_followed item is_listed (record { field = f; spelling = literal_spelling mode name huffman }) w) ≡ table_after mode (table_of w) f
literal-table item is_listed mode name huffman f w =
    let x : Spelled = record { field = f; spelling = literal_spelling mode name huffman } in
    elim (literal-enters mode name huffman (table_of w) f) [
      | inl y ↦ entered-table item is_listed x w y.0 ∙ sym y.1
      | inr n ↦ ap table_of (passed-table item is_listed x w n.0) ∙ sym n.1
    ]

followed-lead : (limit : ℕ) (is : List Shape) (p q : Progress) → Lead limit p is q → LeadsTable limit p is q
followed-lead limit [] p q l = record {
  more = [];
  fields = ap (λ (r : Progress). r.fields) l ∙ sym (append-nil p.fields);
  table = λ item listed place w t k. t ∙ ap (λ (r : Progress). r.table) (sym l);
}
followed-lead limit (Indexed i ∷ is) p q l =
    let one = indexed-next limit p l.0 i l.1 in
    followed-field limit p l.0 q is (Indexed i) (ByIndex i) (λ f. p.table) one refl refl (no-updates limit is l.0 q (ap has_fields one.fields ∙ begun-more p.fields one.one) l.2) (λ item is_listed w t k. (t, k)) (followed-lead limit is l.0 q l.2)
followed-lead limit (Update n ∷ is) p q l =
    let u = update-next limit p l.0 n l.1 in
    let rest = followed-lead limit is l.0 q l.2 in
    record {
      more = rest.more;
      fields = rest.fields ∙ ap (λ (r : Progress). r.fields ++ rest.more) u.is;
      table = λ item listed place w t k.
          let fits : n ≤ w.followed.table.limit = omega (arith, u.within, k) in
          rest.table item listed place (resizing item n w) (resized-table item n w fits ∙ ap (λ (x : Table). resize x n) t ∙ ap (λ (r : Progress). r.table) (sym u.is)) (limit-kept item n w ∙ k);
    }
followed-lead limit (Literal mode name value ∷ is) p q l =
    let one = literal-next limit p l.0 mode name value l.1 in
    let s = literal_spelling mode name value.huffman in
    followed-field limit p l.0 q is (Literal mode name value) s (table_after mode p.table) one refl refl (no-updates limit is l.0 q (ap has_fields one.fields ∙ begun-more p.fields one.one) l.2)
    (λ item is_listed w t k. (literal-table item is_listed mode name value.huffman one.one w ∙ ap (λ (x : Table). table_after mode x one.one) t, limit-field item is_listed (record { field = one.one; spelling = s }) w ∙ k))
    (followed-lead limit is l.0 q l.2)

-- ---- a fragment

-- the fields after those of the fragments before
spelled-drop : (fs gs : List Field) (ss ts : List Spelling) → length ss ≡ length fs → drop (length fs) (spelled (fs ++ gs) (ss ++ ts)) ≡ spelled gs ts
spelled-drop [] gs [] ts e = refl
spelled-drop [] gs (s ∷ ss) ts e = absurd (omega (arith, e))
spelled-drop (f ∷ fs) gs [] ts e = absurd (omega (arith, e))
spelled-drop (f ∷ fs) gs (s ∷ ss) ts e = spelled-drop fs gs ss ts (omega (arith, e))

pub followed-along : (limit item : ℕ) (p : Progress) (b : BlocksRead) (d : Decoded) (after : BlocksRead) (f : TableFollowed) (listed : List EntryListed) → IsAlong limit p b.block.taken d after.block → length b.block.taken.given ≡ length p.fields →
    IsFollowedTo p.table p.fields b f → IsFollowedTo d.progress.table d.progress.fields after (block_followed item limit after d.progress.fields (following f listed)).followed
followed-along limit item p b d after f listed along each so_far =
    let lead = followed-lead limit along.instructions p d.progress along.taken in
    let w = limited limit (following f listed) in
    let xs = spelled d.progress.fields after.block.taken.given in
    let shown = length (shown_fields after d.progress.fields).shown in
    let us : drop f.updates after.block.taken.updates ≡ updates along.instructions =
    ap (λ (n : ℕ). drop n after.block.taken.updates) so_far.updates ∙ ap (drop (length b.block.taken.updates)) along.updates ∙ drop-append_seam b.block.taken.updates (updates along.instructions) in
    let v = updates_followed item (updates along.instructions) w in
    let place : v.followed.fields ≡ length p.fields = fields-kept item (updates along.instructions) w ∙ so_far.fields in
    let ys : drop (length p.fields) xs ≡ spelled lead.more (spellings along.instructions) =
    ap (λ (fs : List Field). drop (length p.fields) (spelled fs after.block.taken.given)) lead.fields ∙ ap (λ (ss : List Spelling). drop (length p.fields) (spelled (p.fields ++ lead.more) ss)) along.given ∙ spelled-drop p.fields lead.more b.block.taken.given (spellings along.instructions) each in
    let counts = length-spelled d.progress.fields after.block.taken.given in
    record {
      same =
          ap (λ (ns : List ℕ). let u = updates_followed item ns w in table_of (fields_followed item shown u.followed.fields (drop u.followed.fields xs) u)) us
          ∙ ap (λ (n : ℕ). table_of (fields_followed item shown n (drop n xs) v)) place
          ∙ ap (λ (zs : List Spelled). table_of (fields_followed item shown (length p.fields) zs v)) ys
          ∙ lead.table item shown (length p.fields) w so_far.same refl;
      fields = omega (arith, counts, along.each);
      updates = refl;
    }

-- ---- the state that a fragment makes

read-made : (s t : State) (v : BlockView) (d : Decoding) (ends : Bool) (c : Change) → fragment_read s v d ends ≡ Makes t c → t.table ≡ s.table
read-made s t v d false c e = let same : with_block s (Some (record { shown = v; decoding = Some d })) ≡ t = cc in ap (λ (x : State). x.table) (sym same)
read-made s t v d true c e = by (not (length d.rest == 0)) refl d.due refl
  where
    by : (cut : Bool) → not (length d.rest == 0) ≡ cut → (due : Bool) → d.due ≡ due → t.table ≡ s.table
    by true k due j =
        let first : fragment_read s v d true ≡ Breaks BlockTruncated = rw k refl in
        absurd (let bad = sym first ∙ e in cc)
    by false k true j =
        let first : fragment_read s v d true ≡ Breaks SizeUpdateMissing = rw (k, j) refl in
        absurd (let bad = sym first ∙ e in cc)
    by false k false j =
        let first : fragment_read s v d true ≡ Makes (with_block s None) (block_ends s v.stream v.ends d.fields d.purpose) = rw (k, j) refl in
        let made : Makes (with_block s None) (block_ends s v.stream v.ends d.fields d.purpose) ≡ Makes t c = sym first ∙ e in
        let same : with_block s None ≡ t = cc in
        ap (λ (x : State). x.table) (sym same)

decoded-made : (s t : State) (v : BlockView) (purpose : Purpose) (ends : Bool) (p : Progress) (o : Outcome) (c : Change) → fragment_decoded s v purpose ends (record { progress = p; outcome = o }) ≡ Makes t c → t.table ≡ p.table
decoded-made s t v purpose ends p (Unfinished rest) c e =
    read-made (record s { table = p.table }) t (record v { list_size = list_size p.fields }) (record { purpose = purpose; fields = p.fields; due = p.due; rest = rest }) ends c e
decoded-made s t v purpose ends p (Faulty fault) c e = absurd cc

pub made-table : (s t : State) (v : BlockView) (d : Decoding) (octets : List ℕ) (ends : Bool) (c : Change) → fragment s v d octets ends ≡ Makes t c → t.table ≡ (decoded_with s d octets).progress.table
made-table s t v d octets ends c e = by (nat_lt max_block (v.octets + length octets)) refl
  where
    by : (large : Bool) → nat_lt max_block (v.octets + length octets) ≡ large → t.table ≡ (decoded_with s d octets).progress.table
    by true k =
        let first : fragment s v d octets ends ≡ Breaks BlockTooLarge = rw k refl in
        absurd (let bad = sym first ∙ e in cc)
    by false k =
        let x = decoded_with s d octets in
        let first : fragment s v d octets ends ≡ fragment_decoded s (record v { octets = v.octets + length octets }) d.purpose ends x = rw k refl in
        decoded-made s t (record v { octets = v.octets + length octets }) d.purpose ends x.progress x.outcome c (sym first ∙ e)
