-- The facts of fields, one field after another, the instructions of octets, and the members of a list.
use Rattle.std.proofs.Common.{◌≡◌, ◌∙◌, ◌⊎◌, inl, inr, ◌+◌, ◌<◌, ◌≤◌, ◌&&◌, ◌||◌, ◌==◌, not, ℕ, zero, suc, Bool, true, false, List, [], ◌∷◌, ◌++◌, length, take, drop, get_or, Option, Some, None, Result, Err, refl, sym, ap, arith, map}
use Rattle.std.proofs.Math.Bool.{or-false, and-true}
use Rattle.std.proofs.lemmas.Bool.{cases_lt}
use Rattle.std.proofs.lemmas.List.Folds.{list_all-append, list_any-append}
use Rattle.std.proofs.lemmas.List.Sums.{prefix_len-le-length}
use Rattle.std.proofs.lemmas.List.{take_all, take_more}
use Rattle.std.proofs.lemmas.Option.{slice_get_cases}
use Rattle.std.specs.List.{list_all, list_any, position_or_len, slice_get}
use Rattle.h2_hpack_instruction.specs.Shapes.{read_of, shape_of}
use Rattle.h2_hpack_instruction.specs.declared.shape.ShapeFault.{ShapeFault}
use Rattle.h2_hpack_instruction.specs.declared.shape.ShapeFault.TheVariants as cut
use Rattle.h2_spec.specs.Hpack.Field.{Field, field}
use Rattle.h2_spec.specs.Frames.Parse.{parse_all, parse_first}
use Rattle.h2_spec.specs.Hpack.Instruction.{Shape, instr_at, instr_only, next_shape, split}
use Rattle.h2_spec.specs.Read.{Read, Whole, More, TooLong}
use Rattle.h2_spec.proofs.InstructionLaws.{whole-takes}
use Rattle.h2_spec.proofs.ParseLaws.{Uses, parse_all-step}
use Rattle.h2_explain_item.specs.declared.diagnosis.field_facts.FieldFacts.{FieldFacts}
use Rattle.h2_explain_item.specs.FieldFacts.{facts_with, field_facts, is_trailers_alone, is_trailers_member, members, with_field, with_octet}

-- ---- one field more

any-more : {X : Type 0} (p : X → Bool) (xs : List X) (x : X) → list_any p (xs ++ x ∷ []) ≡ (list_any p xs || p x)
any-more p xs x = list_any-append p xs (x ∷ []) ∙ ap (λ (b : Bool). list_any p xs || b) (or-false (p x))

all-more : {X : Type 0} (p : X → Bool) (xs : List X) (x : X) → list_all p (xs ++ x ∷ []) ≡ (list_all p xs && p x)
all-more p xs x = list_all-append p xs (x ∷ []) ∙ ap (λ (b : Bool). list_all p xs && b) (and-true (p x))

pub facts-more : (fields : List Field) (f : Field) → field_facts (fields ++ f ∷ []) ≡ with_field (field_facts fields) f
unfolding field_facts
facts-more fields f = simp (any-more, all-more) refl

-- of the first fields
pub facts-next : (fields : List Field) (i : ℕ) (facts : FieldFacts) (f : Option Field) → facts ≡ field_facts (take i fields) → i < length fields → f ≡ slice_get fields i
    → facts_with facts f ≡ field_facts (take (i + 1) fields)
facts-next fields i facts f is less at = by (slice_get_cases fields i).1
  where
    by : ((x : Field) × (i < length fields) × (slice_get fields i ≡ Some x) × (get_or fields i x ≡ x)) ⊎ ((length fields ≤ i) × (slice_get fields i ≡ None)) → facts_with facts f ≡ field_facts (take (i + 1) fields)
    by (inl x) =
        let more : take (i + 1) fields ≡ take i fields ++ x.0 ∷ [] = take_more fields i x.0 less ∙ ap (λ (y : Field). take i fields ++ y ∷ []) x.3 in
        rw (at, x.2, is, more) (sym (facts-more (take i fields) x.0))
    by (inr x) = absurd (omega (arith, less, x.0))

-- ---- instructions

shape-uses : (u : Unit {0}) (b : List ℕ) → Uses b (next_shape u b)
shape-uses u b = at (instr_at b) refl
  where
    at : (r : Read Shape) → instr_at b ≡ r → Uses b (instr_only r)
    at (Whole i used) e = whole-takes b i used e
    at More e = tt
    at TooLong e = tt

split-step : (b : List ℕ) (r : Read Shape) → instr_at b ≡ r → split b ≡ parse_first tt b (instr_only r) (λ t rest. parse_all next_shape t rest)
unfolding split
split-step b r e = parse_all-step next_shape shape-uses tt b ∙ ap (λ (x : Read Shape). parse_first tt b (instr_only x) (λ t rest. parse_all next_shape t rest)) e

-- the octets after all whole instructions are those after all but the first one
pub split-whole : (b : List ℕ) (i : Shape) (used : ℕ) → instr_at b ≡ Whole i used → (split b).rest ≡ (split (drop used b)).rest
unfolding split
split-whole b i used e = ap (λ p. p.rest) (split-step b (Whole i used) e)

-- the octets from the first instruction on that is not whole
pub split-rest : (b : List ℕ) (fault : ShapeFault) → read_of shape_of (Err fault) ≡ instr_at b → (split b).rest ≡ b
split-rest b (cut.More next) e = ap (λ p. p.rest) (split-step b More (sym e))
split-rest b cut.TooLong e = ap (λ p. p.rest) (split-step b TooLong (sym e))

-- ---- the members of a list

abbrev is_comma : ℕ → Bool
is_comma c = c == 44

first-octet : (p : ℕ → Bool) (c : ℕ) (cs : List ℕ) (b : Bool) → p c ≡ b → b ≡ true → position_or_len p (c ∷ cs) ≡ 0
first-octet p c cs b e is = rw (e ∙ is) refl

next-octet : (p : ℕ → Bool) (c : ℕ) (cs : List ℕ) (b : Bool) → p c ≡ b → b ≡ false → position_or_len p (c ∷ cs) ≡ suc (position_or_len p cs)
next-octet p c cs b e is = rw (e ∙ is) (omega arith)

last-by : (c : ℕ) (cs : List ℕ) (b : Bool) → is_comma c ≡ b → position_or_len is_comma (c ∷ cs) ≡ length (c ∷ cs) → (position_or_len is_comma cs ≡ length cs → members cs ≡ cs ∷ [])
    → members (c ∷ cs) ≡ (c ∷ cs) ∷ []
last-by c cs true e h again = absurd (omega (arith, h, first-octet is_comma c cs true e refl))
last-by c cs false e h again = rw e (ap (with_octet c) (again (omega (arith, h, next-octet is_comma c cs false e refl))))

-- the only member of a list without a comma
members-last : (xs : List ℕ) → position_or_len is_comma xs ≡ length xs → members xs ≡ xs ∷ []
members-last [] h = refl
members-last (c ∷ cs) h = last-by c cs (is_comma c) refl h (members-last cs)

first-by : (c : ℕ) (cs : List ℕ) (b : Bool) → is_comma c ≡ b → position_or_len is_comma (c ∷ cs) < length (c ∷ cs)
    → (position_or_len is_comma cs < length cs → members cs ≡ take (position_or_len is_comma cs) cs ∷ members (drop (position_or_len is_comma cs + 1) cs))
    → members (c ∷ cs) ≡ take (position_or_len is_comma (c ∷ cs)) (c ∷ cs) ∷ members (drop (position_or_len is_comma (c ∷ cs) + 1) (c ∷ cs))
first-by c cs true e h again = rw (first-octet is_comma c cs true e refl) (rw e refl)
first-by c cs false e h again =
    let next = next-octet is_comma c cs false e refl in
    let one : suc (position_or_len is_comma cs) + 1 ≡ suc (position_or_len is_comma cs + 1) = omega arith in
    rw (next, one) (rw e (ap (with_octet c) (again (omega (arith, h, next)))))

-- the first member of a list with a comma, and those after it
members-first : (xs : List ℕ) → position_or_len is_comma xs < length xs → members xs ≡ take (position_or_len is_comma xs) xs ∷ members (drop (position_or_len is_comma xs + 1) xs)
members-first [] h = absurd (omega (arith, h))
members-first (c ∷ cs) h = first-by c cs (is_comma c) refl h (members-first cs)

-- a list with one member
alone-last : (xs : List ℕ) (n : ℕ) → n ≡ position_or_len is_comma xs → n ≡ length xs → is_trailers_alone xs ≡ is_trailers_member (take n xs)
alone-last xs n is all =
    let last : position_or_len is_comma xs ≡ length xs = sym is ∙ all in
    ap (list_all is_trailers_member) (members-last xs last) ∙ and-true (is_trailers_member xs) ∙ ap is_trailers_member (sym (take_all n xs (omega (arith, all))))

-- a list with more
alone-first : (xs : List ℕ) (n : ℕ) → n ≡ position_or_len is_comma xs → n < length xs → is_trailers_alone xs ≡ (is_trailers_member (take n xs) && is_trailers_alone (drop (n + 1) xs))
alone-first xs n is more =
    let fewer : position_or_len is_comma xs < length xs = omega (arith, is, more) in
    rw is (ap (list_all is_trailers_member) (members-first xs fewer))

pub member-within : (xs : List ℕ) (n : ℕ) → n ≡ position_or_len is_comma xs → n ≤ length xs
member-within xs n is = let le = prefix_len-le-length (λ (c : ℕ). not (is_comma c)) xs in omega (arith, is, le)

member-is : (xs m : List ℕ) (n : ℕ) (r b : Bool) → m ≡ take n xs → r ≡ is_trailers_member m → r ≡ b → is_trailers_member (take n xs) ≡ b
member-is xs m n r b text member is = ap is_trailers_member (sym text) ∙ sym member ∙ is

-- the first member is another one
pub alone-not : (xs m : List ℕ) (n : ℕ) (r : Bool) → n ≡ position_or_len is_comma xs → m ≡ take n xs → r ≡ is_trailers_member m → r ≡ false → is_trailers_alone xs ≡ false
alone-not xs m n r is text member other = by (cases_lt n (length xs))
  where
    by : (n < length xs) ⊎ (length xs ≤ n) → is_trailers_alone xs ≡ false
    by (inl more) = alone-first xs n is more ∙ ap (λ (b : Bool). b && is_trailers_alone (drop (n + 1) xs)) (member-is xs m n r false text member other)
    by (inr all) = let within = member-within xs n is in alone-last xs n is (omega (arith, within, all)) ∙ member-is xs m n r false text member other

-- the only member is none other
pub alone-only : (xs m : List ℕ) (n : ℕ) (r : Bool) → n ≡ position_or_len is_comma xs → m ≡ take n xs → r ≡ is_trailers_member m → r ≡ true → n ≡ length xs → is_trailers_alone xs ≡ true
alone-only xs m n r is text member same all = alone-last xs n is all ∙ member-is xs m n r true text member same

-- the first member is none other, and there are more
pub alone-next : (xs m : List ℕ) (n : ℕ) (r : Bool) → n ≡ position_or_len is_comma xs → m ≡ take n xs → r ≡ is_trailers_member m → r ≡ true → (n ≡ length xs → ⊥) → is_trailers_alone xs ≡ is_trailers_alone (drop (n + 1) xs)
alone-next xs m n r is text member same other =
    let within = member-within xs n is in
    let more : n < length xs = omega (arith, within, other) in
    alone-first xs n is more ∙ ap (λ (b : Bool). b && is_trailers_alone (drop (n + 1) xs)) (member-is xs m n r true text member same)
