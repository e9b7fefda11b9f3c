-- What a walk has noted once it has seen a list of fields: the tests of the definitions, of the whole list.
use Rattle.std.proofs.Common.{◌≡◌, ℕ, ◌+◌, Bool, true, false, not, ◌&&◌, ◌||◌, cond, List, [], ◌∷◌, ◌++◌, Option, Some, None, codes, length, take, refl, sym, ◌∙◌, ap, subst, arith}
use Rattle.std.specs.Prelude.{◌==◌, bytes_eq, slice_get, is_some, unwrap_or}
use Rattle.std.specs.Option.{option_map}
use Rattle.std.specs.List.{list_any}
use Rattle.std.proofs.lemmas.Slice.Eq.{bytes_eq-Decides}
use Rattle.std.proofs.lemmas.List.{take_more}
use Rattle.std.proofs.lemmas.Option.{get_or_from_slice_get, slice_get_within}
use Rattle.std.proofs.lemmas.List.Folds.{list_any-append}
use Rattle.std.proofs.lemmas.Bool.Decides.{nat_tests}
use Rattle.h2_spec.specs.Hpack.Field.{Field, field}
use Rattle.h2_spec.specs.Requests.Request.{is_pseudo, is_named, has_bad_name, has_bad_value, is_unknown_pseudo, is_of_connection, has_bad_te, is_content_length, is_digits, decimal_value, has_bad_length, is_other_length, is_late_pseudo, is_double_pseudo, value_named, any_two, declared_length, malformed, malformed_trailers, is_value, request_of}
use Rattle.h2_request_book.proofs.TestLaws.{past, neither}
use Rattle.h2_request_well_formed.specs.Asked.{request_seen}
use Rattle.h2_request_well_formed.specs.Seen.{AreMarks, ArePseudo, IsLength, is_lacking, seen_reason, seen_trailers_reason}
use Rattle.h2_request_well_formed.specs.Walk.{Pseudo, marked, noted, measured, with_number}
use Rattle.h2_request_well_formed.specs.declared.walk.ListMark.{ListMark}
use Rattle.h2_request_well_formed.specs.declared.walk.ContentLength.{ContentLength}

-- ---- tests of a list and one field more

or_false : (a : Bool) → (a || false) ≡ a
or_false true = refl
or_false false = refl

or_true : (a : Bool) → (a || true) ≡ true
or_true true = refl
or_true false = refl

and_false : (a : Bool) → (a && false) ≡ false
and_false true = refl
and_false false = refl

and_true : (a : Bool) → (a && true) ≡ a
and_true true = refl
and_true false = refl

or_swap : (a b c d : Bool) → ((a || b) || (c || d)) ≡ ((a || c) || (b || d))
or_swap true b c d = refl
or_swap false true true d = refl
or_swap false true false d = refl
or_swap false false c d = refl

-- some field passes the test, of a list and one more
any-snoc : (p : Field → Bool) (fs : List Field) (f : Field) → list_any p (fs ++ f ∷ []) ≡ (list_any p fs || p f)
any-snoc p fs f = list_any-append p fs (f ∷ []) ∙ ap (λ b. list_any p fs || b) (or_false (p f))

any-same : (p q : Field → Bool) (fs : List Field) → ((f : Field) → p f ≡ q f) → list_any p fs ≡ list_any q fs
any-same p q [] same = refl
any-same p q (f ∷ fs) same = rw (same f, any-same p q fs same) refl

any-and : (p : Field → Bool) (b : Bool) (fs : List Field) → list_any (λ f. p f && b) fs ≡ (list_any p fs && b)
any-and p b [] = refl
any-and p b (f ∷ fs) = at (p f) b (list_any p fs) (any-and p b fs)
  where
    at : (a b c : Bool) → list_any (λ x. p x && b) fs ≡ (c && b) → ((a && b) || list_any (λ x. p x && b) fs) ≡ ((a || c) && b)
    at true true c e = refl
    at true false c e = e ∙ and_false c
    at false b c e = e

two-snoc : (t : Field → Field → Bool) (fs : List Field) (g : Field) → any_two t (fs ++ g ∷ []) ≡ (any_two t fs || list_any (λ f. t f g) fs)
two-snoc t [] g = refl
two-snoc t (f ∷ fs) g = rw (any-snoc (t f) fs g, two-snoc t fs g) (or_swap (list_any (t f) fs) (t f g) (any_two t fs) (list_any (λ x. t x g) fs))

-- ---- marks

more : (p : Field → Bool) (b : Bool) (fs : List Field) (f : Field) → b ≡ list_any p fs → (b || p f) ≡ list_any p (fs ++ f ∷ [])
more p b fs f e = ap (λ a. a || p f) e ∙ sym (any-snoc p fs f)

pub marks-more : (fs : List Field) (f : Field) (m : ListMark) → AreMarks fs m → AreMarks (fs ++ f ∷ []) (marked m f)
marks-more fs f m h = record {
  bad_name = more has_bad_name _ fs f h.bad_name;
  bad_value = more has_bad_value _ fs f h.bad_value;
  pseudo = more is_pseudo _ fs f h.pseudo;
  of_connection = more is_of_connection _ fs f h.of_connection;
  bad_te = more has_bad_te _ fs f h.bad_te;
}

-- ---- pseudo-fields

value-kept : (name : List ℕ) (fs : List Field) (g : Field) → is_named name g ≡ false → value_named name (fs ++ g ∷ []) ≡ value_named name fs
value-kept name [] g e = rw e
value-kept name (f ∷ fs) g e = ap (λ o. cond (is_named name f) (Some f.value) o) (value-kept name fs g e)

value-first : (name : List ℕ) (fs : List Field) (g : Field) → is_named name g ≡ true → value_named name (fs ++ g ∷ []) ≡ Some (unwrap_or (value_named name fs) g.value)
value-first name [] g e = rw e
value-first name (f ∷ fs) g e = at (is_named name f) (value-first name fs g e)
  where
    at : (t : Bool) → value_named name (fs ++ g ∷ []) ≡ Some (unwrap_or (value_named name fs) g.value) → cond t (Some f.value) (value_named name (fs ++ g ∷ [])) ≡ Some (unwrap_or (cond t (Some f.value) (value_named name fs)) g.value)
    at true h = refl
    at false h = h

-- two tests that pass alike
alike : (a b : Bool) → (a ≡ true → b ≡ true) → (b ≡ true → a ≡ true) → a ≡ b
alike true b f g = sym (f refl)
alike false true f g = g refl
alike false false f g = refl

eq-sym : (xs ys : List ℕ) → bytes_eq xs ys ≡ bytes_eq ys xs
eq-sym xs ys =
    alike (bytes_eq xs ys) (bytes_eq ys xs) (λ e. (bytes_eq-Decides ys xs).1 (sym ((bytes_eq-Decides xs ys).0 e))) (λ e. (bytes_eq-Decides xs ys).1 (sym ((bytes_eq-Decides ys xs).0 e)))

-- a name is there where it has a value
named-any : (name : List ℕ) (fs : List Field) → list_any (λ f. bytes_eq name f.name) fs ≡ is_some (value_named name fs)
named-any name [] = refl
named-any name (f ∷ fs) = rw (eq-sym name f.name, named-any name fs) (at (bytes_eq f.name name))
  where
    at : (t : Bool) → (t || is_some (value_named name fs)) ≡ is_some (cond t (Some f.value) (value_named name fs))
    at true = refl
    at false = refl

late-more : (fs : List Field) (g : Field) → any_two is_late_pseudo (fs ++ g ∷ []) ≡ (any_two is_late_pseudo fs || (list_any (λ f. not (is_pseudo f)) fs && is_pseudo g))
late-more fs g = two-snoc is_late_pseudo fs g ∙ ap (λ b. any_two is_late_pseudo fs || b) (any-and (λ f. not (is_pseudo f)) (is_pseudo g) fs)

-- of two fields of one name both are pseudo-fields, or none
double-same : (f g : Field) → is_double_pseudo f g ≡ (bytes_eq g.name f.name && is_pseudo g)
double-same f g = at (bytes_eq g.name f.name) refl
  where
    at : (t : Bool) → bytes_eq g.name f.name ≡ t → (is_pseudo f && t) ≡ (t && is_pseudo g)
    at true e =
        let same : g.name ≡ f.name = (bytes_eq-Decides g.name f.name).0 e in
        and_true (is_pseudo f) ∙ sym (ap (λ n. is_pseudo (field n g.value)) same)
    at false e = and_false (is_pseudo f)

double-more : (fs : List Field) (g : Field) → any_two is_double_pseudo (fs ++ g ∷ []) ≡ (any_two is_double_pseudo fs || (is_some (value_named g.name fs) && is_pseudo g))
double-more fs g =
    let twice : list_any (λ f. is_double_pseudo f g) fs ≡ (is_some (value_named g.name fs) && is_pseudo g) =
    any-same _ _ fs (λ f. double-same f g) ∙ any-and (λ f. bytes_eq g.name f.name) (is_pseudo g) fs ∙ ap (λ b. b && is_pseudo g) (named-any g.name fs) in
    two-snoc is_double_pseudo fs g ∙ ap (λ b. any_two is_double_pseudo fs || b) twice

-- a pseudo-field more, whichever it is
late-pseudo : (fs : List Field) (g : Field) (p : Pseudo) → ArePseudo fs p → is_pseudo g ≡ true → (p.late || p.regular) ≡ any_two is_late_pseudo (fs ++ g ∷ [])
late-pseudo fs g p h e = rw (late-more fs g, e, h.late, h.regular) (ap (λ b. any_two is_late_pseudo fs || b) (sym (and_true _)))

regular-pseudo : (fs : List Field) (g : Field) (p : Pseudo) → ArePseudo fs p → is_pseudo g ≡ true → p.regular ≡ list_any (λ f. not (is_pseudo f)) (fs ++ g ∷ [])
regular-pseudo fs g p h e = rw (any-snoc (λ f. not (is_pseudo f)) fs g, e, h.regular) (sym (or_false _))

unknown-pseudo : (fs : List Field) (g : Field) (p : Pseudo) → ArePseudo fs p → is_unknown_pseudo g ≡ false → p.unknown ≡ list_any is_unknown_pseudo (fs ++ g ∷ [])
unknown-pseudo fs g p h e = rw (any-snoc is_unknown_pseudo fs g, e, h.unknown) (sym (or_false _))

double-pseudo : (fs : List Field) (g : Field) (p : Pseudo) → ArePseudo fs p → is_pseudo g ≡ true → p.unknown ≡ false → (p.double || is_some (value_named g.name fs)) ≡ any_two is_double_pseudo (fs ++ g ∷ [])
double-pseudo fs g p h e known = rw (double-more fs g, e, h.double known) (ap (λ b. any_two is_double_pseudo fs || b) (sym (and_true _)))

-- each of a request's pseudo-fields
with-method : (fs : List Field) (v : List ℕ) (p : Pseudo) → ArePseudo fs p → ArePseudo (fs ++ field (codes ":method") v ∷ []) (noted p (field (codes ":method") v))
with-method fs v p h = let g = field (codes ":method") v in record {
  regular = regular-pseudo fs g p h refl;
  late = late-pseudo fs g p h refl;
  unknown = unknown-pseudo fs g p h refl;
  double = λ known. rw h.method (double-pseudo fs g p h refl known);
  method = rw h.method (sym (value-first (codes ":method") fs g refl));
  scheme = rw h.scheme (sym (value-kept (codes ":scheme") fs g refl));
  path = rw h.path (sym (value-kept (codes ":path") fs g refl));
  authority = rw h.authority (sym (value-kept (codes ":authority") fs g refl));
}

with-scheme : (fs : List Field) (v : List ℕ) (p : Pseudo) → ArePseudo fs p → ArePseudo (fs ++ field (codes ":scheme") v ∷ []) (noted p (field (codes ":scheme") v))
with-scheme fs v p h = let g = field (codes ":scheme") v in record {
  regular = regular-pseudo fs g p h refl;
  late = late-pseudo fs g p h refl;
  unknown = unknown-pseudo fs g p h refl;
  double = λ known. rw h.scheme (double-pseudo fs g p h refl known);
  method = rw h.method (sym (value-kept (codes ":method") fs g refl));
  scheme = rw h.scheme (sym (value-first (codes ":scheme") fs g refl));
  path = rw h.path (sym (value-kept (codes ":path") fs g refl));
  authority = rw h.authority (sym (value-kept (codes ":authority") fs g refl));
}

with-path : (fs : List Field) (v : List ℕ) (p : Pseudo) → ArePseudo fs p → ArePseudo (fs ++ field (codes ":path") v ∷ []) (noted p (field (codes ":path") v))
with-path fs v p h = let g = field (codes ":path") v in record {
  regular = regular-pseudo fs g p h refl;
  late = late-pseudo fs g p h refl;
  unknown = unknown-pseudo fs g p h refl;
  double = λ known. rw h.path (double-pseudo fs g p h refl known);
  method = rw h.method (sym (value-kept (codes ":method") fs g refl));
  scheme = rw h.scheme (sym (value-kept (codes ":scheme") fs g refl));
  path = rw h.path (sym (value-first (codes ":path") fs g refl));
  authority = rw h.authority (sym (value-kept (codes ":authority") fs g refl));
}

with-authority : (fs : List Field) (v : List ℕ) (p : Pseudo) → ArePseudo fs p → ArePseudo (fs ++ field (codes ":authority") v ∷ []) (noted p (field (codes ":authority") v))
with-authority fs v p h = let g = field (codes ":authority") v in record {
  regular = regular-pseudo fs g p h refl;
  late = late-pseudo fs g p h refl;
  unknown = unknown-pseudo fs g p h refl;
  double = λ known. rw h.authority (double-pseudo fs g p h refl known);
  method = rw h.method (sym (value-kept (codes ":method") fs g refl));
  scheme = rw h.scheme (sym (value-kept (codes ":scheme") fs g refl));
  path = rw h.path (sym (value-kept (codes ":path") fs g refl));
  authority = rw h.authority (sym (value-first (codes ":authority") fs g refl));
}

-- a pseudo-field that is none of a request's
with-unknown : (fs : List Field) (g : Field) (p : Pseudo) → ArePseudo fs p → is_pseudo g ≡ true → is_named (codes ":method") g ≡ false → is_named (codes ":scheme") g ≡ false → is_named (codes ":path") g ≡ false → is_named (codes ":authority") g ≡ false
    → ArePseudo (fs ++ g ∷ []) (record p { late = p.late || p.regular; unknown = true })
with-unknown fs g p h e m s q a = record {
  regular = regular-pseudo fs g p h e;
  late = late-pseudo fs g p h e;
  unknown = rw (any-snoc is_unknown_pseudo fs g, e, m, s, q, a) (sym (or_true _));
  double = λ known. absurd (true_is known);
  method = h.method ∙ sym (value-kept (codes ":method") fs g m);
  scheme = h.scheme ∙ sym (value-kept (codes ":scheme") fs g s);
  path = h.path ∙ sym (value-kept (codes ":path") fs g q);
  authority = h.authority ∙ sym (value-kept (codes ":authority") fs g a);
}
  where
    true_is : true ≡ false → ⊥
    true_is k = cc

-- a regular field has none of these names
not-named : (name : List ℕ) (g : Field) → is_pseudo (field name []) ≡ true → is_pseudo g ≡ false → is_named name g ≡ false
not-named name g pseudo regular = at (is_named name g) refl
  where
    at : (t : Bool) → is_named name g ≡ t → t ≡ false
    at true e =
        let same : g.name ≡ name = (bytes_eq-Decides g.name name).0 e in
        let both : is_pseudo g ≡ is_pseudo (field name []) = ap (λ n. is_pseudo (field n [])) same in
        sym pseudo ∙ sym both ∙ regular
    at false e = refl

with-regular : (fs : List Field) (g : Field) (p : Pseudo) → ArePseudo fs p → is_pseudo g ≡ false → ArePseudo (fs ++ g ∷ []) (record p { regular = true })
with-regular fs g p h e = record {
  regular = rw (any-snoc (λ f. not (is_pseudo f)) fs g, e) (sym (or_true _));
  late = h.late ∙ sym (rw (late-more fs g, e, and_false (list_any (λ f. not (is_pseudo f)) fs)) (or_false (any_two is_late_pseudo fs)));
  unknown = rw (any-snoc is_unknown_pseudo fs g, e, h.unknown) (sym (or_false _));
  double = λ known. h.double known ∙ sym (rw (double-more fs g, e, and_false (is_some (value_named g.name fs))) (or_false (any_two is_double_pseudo fs)));
  method = h.method ∙ sym (value-kept (codes ":method") fs g (not-named (codes ":method") g refl e));
  scheme = h.scheme ∙ sym (value-kept (codes ":scheme") fs g (not-named (codes ":scheme") g refl e));
  path = h.path ∙ sym (value-kept (codes ":path") fs g (not-named (codes ":path") g refl e));
  authority = h.authority ∙ sym (value-kept (codes ":authority") fs g (not-named (codes ":authority") g refl e));
}

-- a field of this name is its name and its value
at-name : (fs : List Field) (g : Field) (name : List ℕ) (p : Pseudo) → is_named name g ≡ true → ArePseudo (fs ++ field name g.value ∷ []) (noted p (field name g.value)) → ArePseudo (fs ++ g ∷ []) (noted p g)
at-name fs g name p e h =
    let same : name ≡ g.name = sym ((bytes_eq-Decides g.name name).0 e) in
    subst (λ (n : List ℕ). ArePseudo (fs ++ field n g.value ∷ []) (noted p (field n g.value))) same h

pub pseudo-more : (fs : List Field) (g : Field) (p : Pseudo) → ArePseudo fs p → ArePseudo (fs ++ g ∷ []) (noted p g)
pseudo-more fs g p h = method (is_named (codes ":method") g) refl
  where
    none : (t : Bool) → is_pseudo g ≡ t → is_named (codes ":method") g ≡ false → is_named (codes ":scheme") g ≡ false → is_named (codes ":path") g ≡ false → is_named (codes ":authority") g ≡ false → ArePseudo (fs ++ g ∷ []) (noted p g)
    none true e m s q a = rw (e, m, s, q, a) (with-unknown fs g p h e m s q a)
    none false e m s q a = rw e (with-regular fs g p h e)

    authority : (t : Bool) → is_named (codes ":authority") g ≡ t → is_named (codes ":method") g ≡ false → is_named (codes ":scheme") g ≡ false → is_named (codes ":path") g ≡ false → ArePseudo (fs ++ g ∷ []) (noted p g)
    authority true a m s q = at-name fs g (codes ":authority") p a (with-authority fs g.value p h)
    authority false a m s q = none (is_pseudo g) refl m s q a

    path : (t : Bool) → is_named (codes ":path") g ≡ t → is_named (codes ":method") g ≡ false → is_named (codes ":scheme") g ≡ false → ArePseudo (fs ++ g ∷ []) (noted p g)
    path true q m s = at-name fs g (codes ":path") p q (with-path fs g.value p h)
    path false q m s = authority (is_named (codes ":authority") g) refl m s q

    scheme : (t : Bool) → is_named (codes ":scheme") g ≡ t → is_named (codes ":method") g ≡ false → ArePseudo (fs ++ g ∷ []) (noted p g)
    scheme true s m = at-name fs g (codes ":scheme") p s (with-scheme fs g.value p h)
    scheme false s m = path (is_named (codes ":path") g) refl m s

    method : (t : Bool) → is_named (codes ":method") g ≡ t → ArePseudo (fs ++ g ∷ []) (noted p g)
    method true m = at-name fs g (codes ":method") p m (with-method fs g.value p h)
    method false m = scheme (is_named (codes ":scheme") g) refl m

-- ---- content-length

-- whether a content-length is another number than this one
abbrev differs_from : Option ℕ → Field → Bool
differs_from None g = false
differs_from (Some n) g = not (decimal_value g.value == n)

nat-eq-sym : (a b : ℕ) → (a == b) ≡ (b == a)
nat-eq-sym a b = alike (a == b) (b == a) (λ e. grind (arith, nat_tests)) (λ e. grind (arith, nat_tests))

nat-eq-is : (a b : ℕ) → (a == b) ≡ true → a ≡ b
nat-eq-is a b e = grind (arith, nat_tests)

any-none : (p : Field → Bool) (fs : List Field) → ((f : Field) → p f ≡ false) → list_any p fs ≡ false
any-none p [] none = refl
any-none p (f ∷ fs) none = rw (none f) (any-none p fs none)

-- a field that is no content-length is no other one
other-none : (fs : List Field) (g : Field) → is_content_length g ≡ false → list_any (λ f. is_other_length f g) fs ≡ false
other-none fs g e = any-none (λ f. is_other_length f g) fs (λ f. rw (e, and_false (is_content_length f)) refl)

-- of two content-lengths of one number, a third is other than both or than none
other-same : (f g x : Field) → is_content_length f ≡ true → is_content_length g ≡ true → decimal_value g.value ≡ decimal_value f.value → is_other_length x g ≡ is_other_length f x
other-same f g x ef eg same = rw (ef, eg, same, and_true (is_content_length x), nat-eq-sym (decimal_value f.value) (decimal_value x.value)) refl

other-lengths : (f g : Field) → is_content_length f ≡ true → is_content_length g ≡ true → is_other_length f g ≡ not (decimal_value g.value == decimal_value f.value)
other-lengths f g ef eg = rw (ef, eg) refl

-- of lengths that are all one number, another one differs from the first
other-first : (fs : List Field) (g : Field) → is_content_length g ≡ true → any_two is_other_length fs ≡ false → list_any (λ f. is_other_length f g) fs ≡ differs_from (option_map decimal_value (value_named (codes "content-length") fs)) g
other-first [] g e one = refl
other-first (f ∷ fs) g e one = at (is_content_length f) refl (other-first fs g e (neither (list_any (is_other_length f) fs) (any_two is_other_length fs) one).1)
  where
    first : (t : Bool) → (decimal_value g.value == decimal_value f.value) ≡ t → is_content_length f ≡ true → (not t || list_any (λ x. is_other_length x g) fs) ≡ not t
    first true same k =
        any-same (λ x. is_other_length x g) (is_other_length f) fs (λ x. other-same f g x k e (nat-eq-is (decimal_value g.value) (decimal_value f.value) same))
        ∙ (neither (list_any (is_other_length f) fs) (any_two is_other_length fs) one).0
    first false other k = refl

    at : (t : Bool) → is_content_length f ≡ t → list_any (λ x. is_other_length x g) fs ≡ differs_from (option_map decimal_value (value_named (codes "content-length") fs)) g
        → (is_other_length f g || list_any (λ x. is_other_length x g) fs) ≡ differs_from (option_map decimal_value (value_named (codes "content-length") (f ∷ fs))) g
    at true k h =
        let value : differs_from (option_map decimal_value (value_named (codes "content-length") (f ∷ fs))) g ≡ not (decimal_value g.value == decimal_value f.value) = rw k refl in
        ap (λ b. b || list_any (λ x. is_other_length x g) fs) (other-lengths f g k e) ∙ first (decimal_value g.value == decimal_value f.value) refl k ∙ sym value
    at false k h = rw k h

-- both tests of content-lengths, of a list and one field more
bad-more : (fs : List Field) (g : Field) → (list_any has_bad_length (fs ++ g ∷ []) || any_two is_other_length (fs ++ g ∷ []))
    ≡ ((list_any has_bad_length fs || any_two is_other_length fs) || (has_bad_length g || list_any (λ f. is_other_length f g) fs))
bad-more fs g = rw (any-snoc has_bad_length fs g, two-snoc is_other_length fs g) (or_swap (list_any has_bad_length fs) (has_bad_length g) (any_two is_other_length fs) (list_any (λ f. is_other_length f g) fs))

-- a field that is no content-length
length-other : (fs : List Field) (g : Field) (l : ContentLength) → IsLength fs l → is_content_length g ≡ false → IsLength (fs ++ g ∷ []) l
length-other fs g l h e = record {
  bad = h.bad ∙ sym (bad-more fs g ∙ rw (other-none fs g e, e) (or_false _));
  declared = λ good. h.declared good ∙ ap (option_map decimal_value) (sym (value-kept (codes "content-length") fs g e));
}

-- a content-length that is no number
length-bad : (fs : List Field) (g : Field) (l : ContentLength) → is_content_length g ≡ true → is_digits g.value ≡ false → IsLength (fs ++ g ∷ []) (record l { bad = true })
length-bad fs g l e d = record {
  bad = sym (bad-more fs g ∙ rw (e, d) (or_true _));
  declared = λ good. absurd (true_is good);
}
  where
    true_is : true ≡ false → ⊥
    true_is k = cc

-- the first number of two
abbrev or_number : Option ℕ → ℕ → Option ℕ
or_number (Some n) m = Some n
or_number None m = Some m

first-number : (o : Option (List ℕ)) (v : List ℕ) → option_map decimal_value (Some (unwrap_or o v)) ≡ or_number (option_map decimal_value o) (decimal_value v)
first-number None v = refl
first-number (Some w) v = refl

-- a content-length that is a number
length-number : (fs : List Field) (g : Field) (l : ContentLength) → IsLength fs l → is_content_length g ≡ true → is_digits g.value ≡ true → IsLength (fs ++ g ∷ []) (record { declared = or_number l.declared (decimal_value g.value); bad = l.bad || differs_from l.declared g })
length-number fs g l h e d = record {
  bad = by l.bad refl ∙ sym (bad-more fs g ∙ rw (e, d) refl);
  declared = λ good.
      ap (λ o. or_number o (decimal_value g.value)) (h.declared (neither l.bad (differs_from l.declared g) good).0)
      ∙ sym (first-number (value_named (codes "content-length") fs) g.value)
      ∙ ap (option_map decimal_value) (sym (value-first (codes "content-length") fs g e));
}
  where
    by : (t : Bool) → l.bad ≡ t → (l.bad || differs_from l.declared g) ≡ ((list_any has_bad_length fs || any_two is_other_length fs) || list_any (λ f. is_other_length f g) fs)
    by true b = rw (← h.bad, b) refl
    by false b =
        let none : any_two is_other_length fs ≡ false = (neither (list_any has_bad_length fs) (any_two is_other_length fs) (sym h.bad ∙ b)).1 in
        rw (← h.bad, b) (ap (λ o. differs_from o g) (h.declared b) ∙ sym (other-first fs g e none))

pub length-more : (fs : List Field) (g : Field) (l : ContentLength) → IsLength fs l → IsLength (fs ++ g ∷ []) (measured l g)
length-more fs g l h = at (is_content_length g) refl
  where
    number : (o : Option ℕ) → l.declared ≡ o → is_content_length g ≡ true → is_digits g.value ≡ true → IsLength (fs ++ g ∷ []) (with_number l.declared l.bad (decimal_value g.value))
    number None n e d = rw n (subst (λ (b : Bool). IsLength (fs ++ g ∷ []) (record { declared = Some (decimal_value g.value); bad = b })) (or_false l.bad) (rw n at (length-number fs g l h e d)))
    number (Some first) n e d = rw n (rw n at (length-number fs g l h e d))

    digits : (t : Bool) → is_digits g.value ≡ t → is_content_length g ≡ true → IsLength (fs ++ g ∷ []) (measured l g)
    digits true d e = rw (e, d) (number l.declared refl e d)
    digits false d e = rw (e, d) (length-bad fs g l e d)

    at : (t : Bool) → is_content_length g ≡ t → IsLength (fs ++ g ∷ []) (measured l g)
    at true e = digits (is_digits g.value) refl e
    at false e = rw e (length-other fs g l h e)

-- ---- a turn of the walk

-- the list up to the next field ends with it
up_to : (fields : List Field) (i : ℕ) (f : Field) → slice_get fields i ≡ Some f → take i fields ++ f ∷ [] ≡ take (i + 1) fields
up_to fields i f is = ap (λ x. take i fields ++ x ∷ []) (sym (get_or_from_slice_get fields i f f is)) ∙ sym (take_more fields i f (slice_get_within fields i f is))

pub marks-walked : (fields : List Field) (i : ℕ) (f : Field) (m after : ListMark) → slice_get fields i ≡ Some f → after ≡ marked m f → AreMarks (take i fields) m → AreMarks (take (i + 1) fields) after
marks-walked fields i f m after is step h =
    subst (λ (x : ListMark). AreMarks (take (i + 1) fields) x) (sym step)
    (subst (λ (xs : List Field). AreMarks xs (marked m f)) (up_to fields i f is) (marks-more (take i fields) f m h))

pub pseudo-walked : (fields : List Field) (i : ℕ) (f : Field) (p after : Pseudo) → slice_get fields i ≡ Some f → after ≡ noted p f → ArePseudo (take i fields) p → ArePseudo (take (i + 1) fields) after
pseudo-walked fields i f p after is step h =
    subst (λ (x : Pseudo). ArePseudo (take (i + 1) fields) x) (sym step)
    (subst (λ (xs : List Field). ArePseudo xs (noted p f)) (up_to fields i f is) (pseudo-more (take i fields) f p h))

pub length-walked : (fields : List Field) (i : ℕ) (f : Field) (l after : ContentLength) → slice_get fields i ≡ Some f → after ≡ measured l f → IsLength (take i fields) l → IsLength (take (i + 1) fields) after
length-walked fields i f l after is step h =
    subst (λ (x : ContentLength). IsLength (take (i + 1) fields) x) (sym step)
    (subst (λ (xs : List Field). IsLength xs (measured l f)) (up_to fields i f is) (length-more (take i fields) f l h))

-- ---- the reason at the end

-- what is seen of the fields reports the reason that the definitions give
pub seen-reason : (fields : List Field) (m : ListMark) (p : Pseudo) (l : ContentLength) → AreMarks fields m → ArePseudo fields p → IsLength fields l → seen_reason m p l ≡ malformed fields
unfolding malformed
seen-reason fields m p l marks pseudo length = at p.unknown refl
  where
    at : (t : Bool) → p.unknown ≡ t → seen_reason m p l ≡ malformed fields
    at true e =
        let known : list_any is_unknown_pseudo fields ≡ true = sym pseudo.unknown ∙ e in
        rw (marks.bad_name, marks.bad_value, pseudo.late, e, known) refl
    at false e =
        let known : list_any is_unknown_pseudo fields ≡ false = sym pseudo.unknown ∙ e in
        let double : p.double ≡ any_two is_double_pseudo fields = pseudo.double e in
        rw (marks.bad_name, marks.bad_value, marks.of_connection, marks.bad_te, pseudo.late, e, known, double, pseudo.method, pseudo.scheme, pseudo.path, pseudo.authority, length.bad) refl

pub seen-trailers-reason : (fields : List Field) (m : ListMark) → AreMarks fields m → seen_trailers_reason m ≡ malformed_trailers fields
unfolding malformed_trailers
seen-trailers-reason fields m marks = rw (marks.bad_name, marks.bad_value, marks.pseudo, marks.of_connection, marks.bad_te) refl

-- ---- what is asked for

good-length : (m : ListMark) (p : Pseudo) (l : ContentLength) → seen_reason m p l ≡ None → l.bad ≡ false
good-length m p l e =
    (past l.bad 9 _ (past m.bad_te 8 _ (past m.of_connection 7 _ (past (is_lacking p) 6 _ (past p.double 5 _ (past p.unknown 4 _ (past p.late 3 _ (past m.bad_value 2 _ (past m.bad_name 1 _ e).1).1).1).1).1).1).1).1).0

connect-same : (o : Option (List ℕ)) → bytes_eq (unwrap_or o []) (codes "CONNECT") ≡ is_value (codes "CONNECT") o
connect-same None = refl
connect-same (Some v) = refl

-- what is seen of well-formed fields reports what they ask for
pub seen-request : (fields : List Field) (m : ListMark) (p : Pseudo) (l : ContentLength) → ArePseudo fields p → IsLength fields l → seen_reason m p l ≡ None → request_seen p l ≡ request_of fields
unfolding request_of
seen-request fields m p l pseudo length none =
    let declared : l.declared ≡ declared_length fields = length.declared (good-length m p l none) in
    rw (connect-same p.method, pseudo.method, pseudo.path, declared) refl
