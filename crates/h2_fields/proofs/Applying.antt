-- What the code does with an instruction is what the definitions say of it.
use Rattle.std.proofs.Common.{◌≡◌, ◌≢◌, ℕ, suc, ◌+◌, ◌-◌, ◌≤◌, ◌<◌, ◌^◌, ◌⊎◌, inl, inr, Bool, true, false, not, List, [], ◌∷◌, ◌++◌, length, map, take, drop, min, sym, subst, Some, Result, Ok, Err, refl, ap, ◌∙◌, arith, le-leb, append_assoc, length-append}
use Rattle.std.proofs.lemmas.Bool.{lt-leb}
use Rattle.std.proofs.lemmas.Bool.Decides.{leb_tells}
use Rattle.std.proofs.Math.Seq.{take-append_seam, drop-append_seam}
use Rattle.std.proofs.lemmas.List.{map-append}
use Rattle.h2_spec.specs.Hpack.Block.{Fault, FieldsSoFar, Progress, applied, list_size, name_of, table_after, text_result}
use Rattle.h2_spec.specs.Hpack.DynamicTable.{LimitedTable, Table, entry_at, field_at}
use Rattle.h2_spec.specs.Hpack.Field.{Field, field, size}
use Rattle.h2_spec.specs.Hpack.Instruction.{Mode, WithoutIndexing, NeverIndexed, NameRef, Str, Literal, text_of}
use Rattle.h2_spec.specs.Hpack.StaticTable.{static_field}
use Rattle.h2_spec.proofs.BlockLaws.{applied-literal, applied-name_refused, applied-value_refused}
use Rattle.h2_spec.proofs.TableLaws.{total_size-append}
use Rattle.h2_hpack_validity.specs.Mark.{mark_of}
use Rattle.h2_hpack_validity.specs.declared.mark.FieldMark.{FieldMark}
use Rattle.h2_table.specs.Edits.{EditOf, edited}
use Rattle.h2_hpack_list.specs.Listed.{Listed}
use Rattle.h2_fields.specs.Applied.{IsReadAs, first_refusal, progress_in}
use Rattle.h2_hpack_instruction.specs.Faults.{refusal, fault_of}
use Rattle.h2_hpack_instruction.specs.declared.fault.BlockFault.{BlockFault}
use Rattle.h2_hpack_instruction.specs.declared.fault.BlockFault.TheVariants as faults

pub not-false : (b : Bool) → false ≡ not b → b ≡ true
not-false true e = refl
not-false false e = cc

pub not-true : (b : Bool) → true ≡ not b → b ≡ false
not-true true e = cc
not-true false e = refl

pub not_above : (limit n : ℕ) → (limit < n → false ≡ true) → n ≤ limit
not_above limit n h = elim (leb_tells n limit) [ inl t ↦ t.1 | inr f ↦ absurd (let e = h f.1 in cc) ]

-- ---- the tables

pub at_static : (i : ℕ) (entries : List Field) → i ≤ 61 → static_field i ≡ field_at i entries
unfolding field_at
at_static i entries h = rw (le-leb i 61 h) refl

pub at_dynamic : (i : ℕ) (entries : List Field) → 61 < i → entry_at (i - 61) entries ≡ field_at i entries
unfolding field_at
at_dynamic i entries h =
    let next : i - 61 ≡ suc (i - 62) = omega arith in
    rw (lt-leb i 61 h) (ap (λ k. entry_at k entries) next)

-- ---- a refusal

pub record Refused {X : Type 0} (r : Result X Fault) (f : BlockFault) : Type 0 where
  pub fault : Fault
  pub is : r ≡ Err fault
  pub named : fault_of fault ≡ f

pub refused : {X : Type 0} (r : Result X Fault) (f : BlockFault) → refusal r ≡ Some f → Refused r f
refused (Ok x) f e = absurd cc
refused (Err fault) f e = record { fault = fault; is = refl; named = cc }

pub refusal-is : {X : Type 0} (r : Result X Fault) (fault : Fault) (f : BlockFault) → r ≡ Err fault → fault_of fault ≡ f → refusal r ≡ Some f
refusal-is r fault f e k = ap refusal e ∙ ap Some k

-- ---- the size of a list

pub size-added : (fields : List Field) (f : Field) (old add : ℕ) → old ≡ list_size fields → add ≡ min (size f) (2 ^ 64 - 1) → min (old + add) (2 ^ 64 - 1) ≡ list_size (fields ++ f ∷ [])
size-added fields f old add e k = let sum = total_size-append fields (f ∷ []) in omega (arith, e, k, sum)

-- the same of fields after others
pub size-behind : (before fields now : List Field) (f : Field) (old add : ℕ) → old ≡ list_size (before ++ fields) → add ≡ min (size f) (2 ^ 64 - 1) → now ≡ fields ++ f ∷ [] → min (old + add) (2 ^ 64 - 1) ≡ list_size (before ++ now)
size-behind before fields now f old add e k n = size-added (before ++ fields) f old add e k ∙ ap list_size (append_assoc before fields (f ∷ []) ∙ ap (λ fs. before ++ fs) (sym n))

-- ---- the marks of a list

pub marks-added : (marks : List FieldMark) (fields now : List Field) (f : Field) (mark : FieldMark) → marks ≡ map mark_of fields → mark ≡ mark_of f → now ≡ fields ++ f ∷ [] → marks ++ mark ∷ [] ≡ map mark_of now
marks-added marks fields now f mark e k n = rw (e, k, n) (sym (map-append mark_of fields (f ∷ [])))

-- ---- a literal

-- the octets after the fields once a value was put there, and once a name and a value were
pub put-next : (l0 l1 l2 : Listed) (n : List ℕ) → l1 ≡ record l0 { next = [] } → l2 ≡ record l1 { next = l1.next ++ n } → l2.next ≡ n
put-next l0 l1 l2 n h1 h2 = ap (λ (l : Listed). l.next) h2 ∙ ap (λ (l : Listed). l.next ++ n) h1

pub both-next : (l0 l1 l2 l3 : Listed) (n v : List ℕ) → l1 ≡ record l0 { next = [] } → l2 ≡ record l1 { next = l1.next ++ n } → l3 ≡ record l2 { next = l2.next ++ v } → l3.next ≡ n ++ v
both-next l0 l1 l2 l3 n v h1 h2 h3 = ap (λ (l : Listed). l.next) h3 ∙ ap (λ (m : List ℕ). m ++ v) (put-next l0 l1 l2 n h1 h2)

-- the fields once a name and a value were put after them and closed
pub spelled : (l0 l1 l2 l3 l4 : Listed) (n v : List ℕ) (split : ℕ) → l1 ≡ record l0 { next = [] } → l2 ≡ record l1 { next = l1.next ++ n } → l3 ≡ record l2 { next = l2.next ++ v } → split ≡ length l2.next →
    l4 ≡ record { fields = l3.fields ++ field (take split l3.next) (drop split l3.next) ∷ []; next = [] } → l4.fields ≡ l0.fields ++ field n v ∷ []
spelled l0 l1 l2 l3 l4 n v split h1 h2 h3 hs h4 =
    let name : l2.next ≡ n = put-next l0 l1 l2 n h1 h2 in
    let both : l3.next ≡ n ++ v = both-next l0 l1 l2 l3 n v h1 h2 h3 in
    let count : split ≡ length n = hs ∙ ap length name in
    let fields : l3.fields ≡ l0.fields = ap (λ (l : Listed). l.fields) h3 ∙ ap (λ (l : Listed). l.fields) h2 ∙ ap (λ (l : Listed). l.fields) h1 in
    ap (λ (l : Listed). l.fields) h4 ∙ rw (fields, both, count, take-append_seam n v, drop-append_seam n v) refl

-- the first octets as a name, and the others as a value
pub parts : (octets n v : List ℕ) (split : ℕ) → octets ≡ n ++ v → split ≡ length n → field (take split octets) (drop split octets) ≡ field n v
parts octets n v split e k = rw (e, k, take-append_seam n v, drop-append_seam n v) refl

-- and once a value was put after them and closed with a name
pub named : (l0 l1 l2 l3 : Listed) (n v : List ℕ) → l1 ≡ record l0 { next = [] } → l2 ≡ record l1 { next = l1.next ++ v } → l3 ≡ record { fields = l2.fields ++ field n l2.next ∷ []; next = [] } → l3.fields ≡ l0.fields ++ field n v ∷ []
named l0 l1 l2 l3 n v h1 h2 h3 =
    let value : l2.next ≡ v = put-next l0 l1 l2 v h1 h2 in
    let fields : l2.fields ≡ l0.fields = ap (λ (l : Listed). l.fields) h2 ∙ ap (λ (l : Listed). l.fields) h1 in
    ap (λ (l : Listed). l.fields) h3 ∙ rw (fields, value) refl

-- what still holds of the list and the marks where nothing was added
pub still-listed : (size : ℕ) (shared old now : List Field) (marks was : List FieldMark) → (size ≡ list_size (shared ++ old)) × (was ≡ map mark_of old) → now ≡ old → marks ≡ was → (size ≡ list_size (shared ++ now)) × (marks ≡ map mark_of now)
still-listed size shared old now marks was h e m = (h.0 ∙ ap (λ (fs : List Field). list_size (shared ++ fs)) (sym e), m ∙ h.1 ∙ ap (map mark_of) (sym e))

-- where memory was reserved for one more, there is space for it
pub room-reserved : (count room : ℕ) → count + 1 ≤ room → count < room
room-reserved count room h = omega arith

-- the octets that were put first are no more than all
pub within-more : (first before all more : List ℕ) → first ≡ before → all ≡ before ++ more → length first ≤ length all
within-more first before all more e k = let sum = length-append before more in omega (arith, ap length e, ap length k, sum)

-- nothing was added, and why
pub read-refused : (name value : Result (List ℕ) Fault) (old now : FieldsSoFar) (r : Result (Unit {0}) BlockFault) (f : BlockFault) → r ≡ Err f → now ≡ old → (f ≢ faults.NoMemory → first_refusal name value ≡ Some f) → IsReadAs name value old now r
read-refused name value old now r f e n k = subst (IsReadAs name value old now) (sym e) (n, k)

pub name-refused : (name value : Result (List ℕ) Fault) (f : BlockFault) → refusal name ≡ Some f → first_refusal name value ≡ Some f
name-refused (Ok n) value f e = absurd cc
name-refused (Err fault) value f e = e

-- a literal is refused for its name, or else for its value
pub literal-refused : (limit : ℕ) (p : Progress) (mode : Mode) (name : NameRef Str) (value : Str) (f : BlockFault) → p.due ≡ false → first_refusal (name_of name p.table.entries) (text_result (text_of value)) ≡ Some f →
    refusal (applied limit p (Literal mode name value)) ≡ Some f
literal-refused limit p mode name value f due h = by (name_of name p.table.entries) refl (text_result (text_of value)) refl h
  where
    by : (n : Result (List ℕ) Fault) → name_of name p.table.entries ≡ n → (v : Result (List ℕ) Fault) → text_result (text_of value) ≡ v → first_refusal n v ≡ Some f → refusal (applied limit p (Literal mode name value)) ≡ Some f
    by (Err fault) e v k h = ap refusal (applied-name_refused limit p mode name value fault due e) ∙ h
    by (Ok n) e (Err fault) k h = ap refusal (applied-value_refused limit p mode name value n fault due e k) ∙ h
    by (Ok n) e (Ok v) k h = absurd cc

-- and is added, and enters the table where its mode says so
pub literal-applied : (limit : ℕ) (s now : FieldsSoFar) (base : LimitedTable) (e after : EditOf) (mode : Mode) (name : NameRef Str) (value : Str) (f : Field) → s.due ≡ false →
    name_of name (edited base.table.entries e).entries ≡ Ok f.name → text_result (text_of value) ≡ Ok f.value → now ≡ record s { fields = s.fields ++ f ∷ [] } →
    edited base.table.entries after ≡ table_after mode (edited base.table.entries e) f → applied limit (progress_in s base e) (Literal mode name value) ≡ Ok (progress_in now base after)
literal-applied limit s now base e after mode name value f due n v h t = applied-literal limit (progress_in s base e) mode name value f.name f.value due n v ∙ rw (h, t) refl

pub not_entered : (mode : Mode) (table : Table) (f : Field) → (mode ≡ WithoutIndexing) ⊎ (mode ≡ NeverIndexed) → table ≡ table_after mode table f
not_entered mode table f (inl e) = rw e refl
not_entered mode table f (inr e) = rw e refl
