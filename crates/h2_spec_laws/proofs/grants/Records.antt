-- The list of records: what is found in it, and a record put into it, for the stream that is followed and for the
-- others.
use Rattle.std.proofs.Common.{◌≡◌, ℕ, ◌%◌, ◌<◌, ◌≤◌, Bool, true, false, cond, List, [], ◌∷◌, refl, sym, ap, subst, ◌∙◌, arith, eqb, ltb, Option, Some, None}
use Rattle.std.proofs.lemmas.Bool.{eqb-true, eq-eqb, ltb-true, ltb-false, both_ways}
use Rattle.h2_spec.specs.declared.streams.StreamState.TheVariants.{Idle, Skipped}
use Rattle.h2_spec.specs.declared.streams.Stream.{Stream}
use Rattle.h2_spec.specs.Requests.Answer.{Entry}
use Rattle.h2_spec.specs.Stream.{not_live, record_of, recorded, stream_at, put}
use Rattle.h2_spec_laws.specs.Grants.{StreamTally}
use Rattle.h2_spec_laws.specs.Order.{Rise}
use Rattle.h2_spec_laws.proofs.grants.Agreement.{Fits, Absent, Unasked, Either, FitsStreams, IsRecorded, HasBody, Bodies}

-- ---- what is found

found-id : (j : ℕ) (sts : List Stream) (st : Stream) → record_of sts j ≡ Some st → st.id ≡ j
found-id j [] st e = absurd (cc)
found-id j (x ∷ sts) st e = at (λ g. found-id j sts st g) (eqb x.id j) refl e
  where
    at : (record_of sts j ≡ Some st → st.id ≡ j) → (b : Bool) → eqb x.id j ≡ b → cond b (Some x) (record_of sts j) ≡ Some st → st.id ≡ j
    at more true g e = let same : x ≡ st = cc in ap (λ (y : Stream). y.id) (sym same) ∙ eqb-true x.id j g
    at more false g e = more e

pub found-body : (book : List Entry) (j : ℕ) (sts : List Stream) (st : Stream) → record_of sts j ≡ Some st → Bodies book sts → HasBody book st
found-body book j [] st e b = absurd (cc)
found-body book j (x ∷ sts) st e b = at (λ g. found-body book j sts st g b.1) (eqb x.id j) e
  where
    at : (record_of sts j ≡ Some st → HasBody book st) → (c : Bool) → cond c (Some x) (record_of sts j) ≡ Some st → HasBody book st
    at more true e = let same : x ≡ st = cc in subst (HasBody book) same b.0
    at more false e = more e

pub found-fits : (book : List Entry) (window id : ℕ) (sts : List Stream) (m : StreamTally) (st : Stream) → record_of sts id ≡ Some st → FitsStreams book window id sts m → Fits book window st m
found-fits book window id [] m st e f = absurd (cc)
found-fits book window id (x ∷ sts) m st e f = at (λ g h. found-fits book window id sts m st g h) (eqb x.id id) e f
  where
    at : (record_of sts id ≡ Some st → FitsStreams book window id sts m → Fits book window st m) → (c : Bool) → cond c (Some x) (record_of sts id) ≡ Some st → Either c (Fits book window x m × Absent id sts) (FitsStreams book window id sts m) → Fits book window st m
    at more true e f = let same : x ≡ st = cc in subst (λ y. Fits book window y m) same f.0
    at more false e f = more e f

pub found-not_absent : (id : ℕ) (sts : List Stream) (st : Stream) → record_of sts id ≡ Some st → Absent id sts → ⊥
found-not_absent id [] st e a = cc
found-not_absent id (x ∷ sts) st e a = found-not_absent id sts st (rw a.0 at e) a.1

none-absent : (j : ℕ) (sts : List Stream) → record_of sts j ≡ None → Absent j sts
none-absent j [] e = tt
none-absent j (x ∷ sts) e = at (none-absent j sts) (eqb x.id j) refl e
  where
    at : (record_of sts j ≡ None → Absent j sts) → (c : Bool) → eqb x.id j ≡ c → cond c (Some x) (record_of sts j) ≡ None → (eqb x.id j ≡ false) × Absent j sts
    at more true g e = absurd (cc)
    at more false g e = (g, more e)

pub unfound : (book : List Entry) (window id : ℕ) (sts : List Stream) (m : StreamTally) → record_of sts id ≡ None → FitsStreams book window id sts m → Unasked m × Absent id sts
unfound book window id [] m e f = (f, tt)
unfound book window id (x ∷ sts) m e f = at (λ g h. unfound book window id sts m g h) (eqb x.id id) refl e f
  where
    at : (record_of sts id ≡ None → FitsStreams book window id sts m → Unasked m × Absent id sts) → (c : Bool) → eqb x.id id ≡ c → cond c (Some x) (record_of sts id) ≡ None → Either c (Fits book window x m × Absent id sts) (FitsStreams book window id sts m) → Unasked m × ((eqb x.id id ≡ false) × Absent id sts)
    at more true g e f = absurd (cc)
    at more false g e f = let r = more e f in (r.0, (g, r.1))

-- ---- the stream with an identifier

pub at-id : (last : ℕ) (sts : List Stream) (j : ℕ) → (stream_at last sts j).id ≡ j
unfolding stream_at
at-id last sts j = even (eqb (j % 2) 0)
  where
    at : (o : Option Stream) → record_of sts j ≡ o → (recorded j o).id ≡ j
    at None g = refl
    at (Some st) g = found-id j sts st g

    above : (b : Bool) → (cond b (not_live j Idle) (recorded j (record_of sts j))).id ≡ j
    above true = refl
    above false = at (record_of sts j) refl

    even : (b : Bool) → (cond b (not_live j Idle) (cond (ltb last j) (not_live j Idle) (recorded j (record_of sts j)))).id ≡ j
    even true = refl
    even false = above (ltb last j)

pub at-found : (last : ℕ) (sts : List Stream) (j : ℕ) → IsRecorded (stream_at last sts j).kind → record_of sts j ≡ Some (stream_at last sts j)
unfolding stream_at
at-found last sts j r = even (eqb (j % 2) 0) r
  where
    at : (o : Option Stream) → record_of sts j ≡ o → IsRecorded (recorded j o).kind → record_of sts j ≡ Some (recorded j o)
    at None g r = absurd r
    at (Some st) g r = g

    above : (b : Bool) → IsRecorded (cond b (not_live j Idle) (recorded j (record_of sts j))).kind → record_of sts j ≡ Some (cond b (not_live j Idle) (recorded j (record_of sts j)))
    above true r = absurd r
    above false r = at (record_of sts j) refl r

    even : (b : Bool) → IsRecorded (cond b (not_live j Idle) (cond (ltb last j) (not_live j Idle) (recorded j (record_of sts j)))).kind →
        record_of sts j ≡ Some (cond b (not_live j Idle) (cond (ltb last j) (not_live j Idle) (recorded j (record_of sts j))))
    even true r = absurd r
    even false r = above (ltb last j) r

-- a stream that was passed over has no record
pub at-skipped : (book : List Entry) (last : ℕ) (sts : List Stream) (j : ℕ) → Bodies book sts → (stream_at last sts j).kind ≡ Skipped → (j ≤ last) × (record_of sts j ≡ None)
unfolding stream_at
at-skipped book last sts j b e = even (eqb (j % 2) 0) e
  where
    at : (o : Option Stream) → record_of sts j ≡ o → (recorded j o).kind ≡ Skipped → record_of sts j ≡ None
    at None g e = g
    at (Some st) g e = absurd (subst IsRecorded e (found-body book j sts st g b).1)

    above : (c : Bool) → ltb last j ≡ c → (cond c (not_live j Idle) (recorded j (record_of sts j))).kind ≡ Skipped → (j ≤ last) × (record_of sts j ≡ None)
    above true g e = absurd (cc)
    above false g e = (ltb-false last j g, at (record_of sts j) refl e)

    even : (c : Bool) → (cond c (not_live j Idle) (cond (ltb last j) (not_live j Idle) (recorded j (record_of sts j)))).kind ≡ Skipped → (j ≤ last) × (record_of sts j ≡ None)
    even true e = absurd (cc)
    even false e = above (ltb last j) refl e

-- a stream of the client's that is idle is above the last one
pub at-idle : (book : List Entry) (last : ℕ) (sts : List Stream) (j : ℕ) → Bodies book sts → (stream_at last sts j).kind ≡ Idle → eqb (j % 2) 1 ≡ true → last < j
unfolding stream_at
at-idle book last sts j b e odd = even (eqb (j % 2) 0) refl e
  where
    at : (o : Option Stream) → record_of sts j ≡ o → (recorded j o).kind ≡ Idle → ⊥
    at None g e = cc
    at (Some st) g e = subst IsRecorded e (found-body book j sts st g b).1

    above : (c : Bool) → ltb last j ≡ c → (cond c (not_live j Idle) (recorded j (record_of sts j))).kind ≡ Idle → last < j
    above true g e = ltb-true last j g
    above false g e = absurd (at (record_of sts j) refl e)

    even : (c : Bool) → eqb (j % 2) 0 ≡ c → (cond c (not_live j Idle) (cond (ltb last j) (not_live j Idle) (recorded j (record_of sts j)))).kind ≡ Idle → last < j
    even true g e = let a = eqb-true (j % 2) 0 g in let b = eqb-true (j % 2) 1 odd in absurd (omega arith)
    even false g e = above (ltb last j) refl e

-- in lists with the same identifiers the same streams have records
pub still-recorded : (book : List Entry) (j last : ℕ) (sts others : List Stream) → (Absent j others → Absent j sts) → Bodies book others → IsRecorded (stream_at last sts j).kind → IsRecorded (stream_at last others j).kind
unfolding stream_at
still-recorded book j last sts others a b r = even (eqb (j % 2) 0) r
  where
    other : (o : Option Stream) → record_of others j ≡ o → (st : Stream) → record_of sts j ≡ Some st → IsRecorded (recorded j o).kind
    other None g st h = absurd (found-not_absent j sts st h (a (none-absent j others g)))
    other (Some y) g st h = (found-body book j others y g b).1

    at : (o : Option Stream) → record_of sts j ≡ o → IsRecorded (recorded j o).kind → IsRecorded (recorded j (record_of others j)).kind
    at None g r = absurd r
    at (Some st) g r = other (record_of others j) refl st g

    above : (c : Bool) → IsRecorded (cond c (not_live j Idle) (recorded j (record_of sts j))).kind → IsRecorded (cond c (not_live j Idle) (recorded j (record_of others j))).kind
    above true r = absurd r
    above false r = at (record_of sts j) refl r

    even : (c : Bool) → IsRecorded (cond c (not_live j Idle) (cond (ltb last j) (not_live j Idle) (recorded j (record_of sts j)))).kind →
        IsRecorded (cond c (not_live j Idle) (cond (ltb last j) (not_live j Idle) (recorded j (record_of others j)))).kind
    even true r = absurd r
    even false r = above (ltb last j) r

-- ---- a record put into the list

pub put-absent : (id : ℕ) (y : Stream) (sts : List Stream) → eqb y.id id ≡ false → Absent id sts → Absent id (put y sts)
put-absent id y [] e a = (e, tt)
put-absent id y (x ∷ sts) e a = at (eqb x.id y.id) (put-absent id y sts e a.1)
  where
    at : (b : Bool) → Absent id (put y sts) → Absent id (cond b (y ∷ sts) (x ∷ put y sts))
    at true more = (e, a.1)
    at false more = (a.0, more)

pub put-bodies : (book : List Entry) (y : Stream) (sts : List Stream) → HasBody book y → Bodies book sts → Bodies book (put y sts)
put-bodies book y [] h b = (h, tt)
put-bodies book y (x ∷ sts) h b = at (eqb x.id y.id) (put-bodies book y sts h b.1)
  where
    at : (c : Bool) → Bodies book (put y sts) → Bodies book (cond c (y ∷ sts) (x ∷ put y sts))
    at true more = (h, b.1)
    at false more = (b.0, more)

pub put-own : (book : List Entry) (window id : ℕ) (y : Stream) (sts : List Stream) (m n : StreamTally) → y.id ≡ id → FitsStreams book window id sts m → Fits book window y n → FitsStreams book window id (put y sts) n
put-own book window id y [] m n e f h = rw (eq-eqb y.id id e) (h, tt)
put-own book window id y (x ∷ sts) m n e f h = at (λ g. put-own book window id y sts m n e g h) (eqb x.id y.id) (ap (eqb x.id) e) f
  where
    at : (FitsStreams book window id sts m → FitsStreams book window id (put y sts) n) → (b : Bool) → b ≡ eqb x.id id →
        Either (eqb x.id id) (Fits book window x m × Absent id sts) (FitsStreams book window id sts m) → FitsStreams book window id (cond b (y ∷ sts) (x ∷ put y sts)) n
    at more true g f = rw (eq-eqb y.id id e) (h, (rw (sym g) at f).1)
    at more false g f = rw (sym g) (more (rw (sym g) at f))

pub put-other : (book : List Entry) (window id : ℕ) (y : Stream) (sts : List Stream) (m : StreamTally) → eqb y.id id ≡ false → FitsStreams book window id sts m → FitsStreams book window id (put y sts) m
put-other book window id y [] m d f = rw d f
put-other book window id y (x ∷ sts) m d f = at (λ k. put-other book window id y sts m d k) (eqb x.id y.id) refl (eqb x.id id) refl f
  where
    at : (FitsStreams book window id sts m → FitsStreams book window id (put y sts) m) →
        (b : Bool) → eqb x.id y.id ≡ b → (c : Bool) → eqb x.id id ≡ c → Either c (Fits book window x m × Absent id sts) (FitsStreams book window id sts m) →
        FitsStreams book window id (cond b (y ∷ sts) (x ∷ put y sts)) m
    at more true g true k f = absurd (both_ways (eqb y.id id) d (subst (λ i. eqb i id ≡ true) (eqb-true x.id y.id g) k))
    at more true g false k f = rw d f
    at more false g true k f = rw k (f.0, put-absent id y sts d f.1)
    at more false g false k f = rw k (more f)

-- ---- their order

rise-le : (low high : ℕ) (sts : List Stream) → Rise low high sts → low ≤ high
rise-le low high [] r = r
rise-le low high (st ∷ sts) r = let more = rise-le st.id high sts r.1 in omega (arith, r.0)

-- a record in the place of the one with its identifier
pub put-in_order : (low high : ℕ) (y : Stream) (sts : List Stream) (st : Stream) → record_of sts y.id ≡ Some st → Rise low high sts → Rise low high (put y sts)
put-in_order low high y [] st e r = absurd (cc)
put-in_order low high y (x ∷ sts) st e r = at (λ g. put-in_order x.id high y sts st g r.1) (eqb x.id y.id) refl e
  where
    at : (record_of sts y.id ≡ Some st → Rise x.id high (put y sts)) → (b : Bool) → eqb x.id y.id ≡ b → cond b (Some x) (record_of sts y.id) ≡ Some st → Rise low high (cond b (y ∷ sts) (x ∷ put y sts))
    at more true g e = subst (λ j. (low < j) × Rise j high sts) (eqb-true x.id y.id g) r
    at more false g e = (r.0, more e)

-- a record above all others
pub put-last : (low high : ℕ) (y : Stream) (sts : List Stream) → high < y.id → Rise low high sts → Rise low y.id (put y sts)
put-last low high y [] h r = (omega arith, omega arith)
put-last low high y (x ∷ sts) h r = at (put-last x.id high y sts h r.1) (eqb x.id y.id) refl
  where
    at : Rise x.id y.id (put y sts) → (b : Bool) → eqb x.id y.id ≡ b → Rise low y.id (cond b (y ∷ sts) (x ∷ put y sts))
    at more true g = let le = rise-le x.id high sts r.1 in let same = eqb-true x.id y.id g in absurd (omega arith)
    at more false g = (r.0, more)

-- ---- another tally

-- the tally alone changes
pub retallied : (book : List Entry) (window id : ℕ) (sts : List Stream) (m n : StreamTally) (st : Stream) → record_of sts id ≡ Some st → (Fits book window st m → Fits book window st n) → FitsStreams book window id sts m → FitsStreams book window id sts n
retallied book window id [] m n st e h f = absurd (cc)
retallied book window id (x ∷ sts) m n st e h f = at (λ g k. retallied book window id sts m n st g h k) (eqb x.id id) e f
  where
    at : (record_of sts id ≡ Some st → FitsStreams book window id sts m → FitsStreams book window id sts n) → (c : Bool) → cond c (Some x) (record_of sts id) ≡ Some st → Either c (Fits book window x m × Absent id sts) (FitsStreams book window id sts m) → Either c (Fits book window x n × Absent id sts) (FitsStreams book window id sts n)
    at more true e f = let same : x ≡ st = cc in (subst (λ y. Fits book window y m → Fits book window y n) (sym same) h f.0, f.1)
    at more false e f = more e f

pub untallied : (book : List Entry) (window id : ℕ) (sts : List Stream) (n : StreamTally) → Absent id sts → Unasked n → FitsStreams book window id sts n
untallied book window id [] n a u = u
untallied book window id (x ∷ sts) n a u = rw a.0 (untallied book window id sts n a.1 u)
