-- The entries of the map of the live streams, where the list has all of them.
use Rattle.std.proofs.Common.{◌≡◌, ℕ, zero, suc, ◌-◌, Bool, true, false, cond, eqb, List, [], ◌∷◌, ◌++◌, map, take, drop, length, Some, None, refl, ap, ◌∙◌, sym, subst, arith, length-drop, take_all}
use Rattle.std.specs.Option.{is_some}
use Rattle.h2_spec.specs.declared.streams.Stream.{Stream}
use Rattle.h2_spec.specs.Stream.{is_live, record_of}
use Rattle.h2_streams.specs.Joined.{AreIn, IsJoined, joined}
use Rattle.h2_streams.specs.Kept.{Rise, entries_of, lives}
use Rattle.h2_streams.specs.Rebuilt.{AreKnown, AreOthersClosed, as_in, live_entries}
use Rattle.h2_streams.proofs.JoinedPut.{found-own, same-front}
use Rattle.h2_streams.proofs.PlaceLaws.{rise}
use Rattle.h2_streams.proofs.RebuiltLaws.{as_in-id, as_in-none, eqb-other, eqb-same, live-rebuilt, none-some, rise-from}

pub in-behind : (x : Stream) (rs ys : List Stream) → Rise x.id ys → AreIn rs ys → AreIn (x ∷ rs) ys
in-behind x rs [] r h = tt
in-behind x rs (y ∷ ys) r h =
    let over = r.0 in
    (rw (eqb-other x.id y.id over) h.0, in-behind x rs ys (rise-from x.id y.id ys (omega (arith, over)) r.1) h.1)

-- records that rise are found among themselves
pub are-in : (low : ℕ) (rs : List Stream) → Rise low rs → AreIn rs rs
are-in low [] r = tt
are-in low (x ∷ xs) r = (rw (eqb-same x.id x.id refl) refl, in-behind x xs xs r.1 (are-in x.id xs r.1))

-- what is found in one list is found in another
in-other : (rs ss ys : List Stream) → ((id : ℕ) (st : Stream) → record_of rs id ≡ Some st → record_of ss id ≡ Some st) → AreIn rs ys → AreIn ss ys
in-other rs ss [] more h = tt
in-other rs ss (y ∷ ys) more h = (more y.id y h.0, in-other rs ss ys more h.1)

pub in-known : (rs ys : List Stream) → AreIn rs ys → AreKnown rs ys
in-known rs [] h = tt
in-known rs (y ∷ ys) h = (ap is_some h.0, in-known rs ys h.1)

-- what is found has not to be closed
in-others : (rs ys : List Stream) → AreIn rs ys → AreOthersClosed rs ys
in-others rs [] h = tt
in-others rs (y ∷ ys) h = ((λ none. absurd (none-some y (sym none ∙ h.0))), in-others rs ys h.1)

in-rest : (rs : List Stream) (n : ℕ) (ys : List Stream) → AreIn rs ys → AreIn rs (drop n ys)
in-rest rs zero ys h = h
in-rest rs (suc n) [] h = tt
in-rest rs (suc n) (y ∷ ys) h = in-rest rs n ys h.1

others-append : (cs xs ys : List Stream) → AreOthersClosed cs xs → AreOthersClosed cs ys → AreOthersClosed cs (xs ++ ys)
others-append cs [] ys h k = k
others-append cs (x ∷ xs) ys h k = (h.0, others-append cs xs ys h.1 k)

-- shared records of which one's own list knows nothing are closed
others-shared : (own front base : List Stream) → ((id : ℕ) → record_of own id ≡ None → record_of front id ≡ None) → AreOthersClosed front base → AreOthersClosed own (map (as_in front) base)
others-shared own front [] less o = tt
others-shared own front (x ∷ xs) less o =
    ((λ none. let absent = less x.id (subst (λ (id : ℕ). record_of own id ≡ None) (as_in-id front x) none) in ap (λ (st : Stream). is_live st.kind) (as_in-none front x absent) ∙ o.0 absent), others-shared own front xs less o.1)

pub none-front : (n : ℕ) (own : List Stream) (id : ℕ) → record_of own id ≡ None → record_of (take n own) id ≡ None
none-front zero own id h = refl
none-front (suc n) [] id h = refl
none-front (suc n) (x ∷ xs) id h = by (eqb x.id id) h (none-front n xs id)
  where
    by : (b : Bool) → cond b (Some x) (record_of xs id) ≡ None → (record_of xs id ≡ None → record_of (take n xs) id ≡ None) → cond b (Some x) (record_of (take n xs) id) ≡ None
    by true k more = absurd (none-some x (sym k))
    by false k more = more k

-- the entries of a list are those of its live streams
pub own-entries : (rs : List Stream) → Rise 0 rs → live_entries rs rs ≡ entries_of lives rs
own-entries rs r =
    let all = are-in 0 rs r in
    sym (live-rebuilt 0 rs rs r r (in-known rs rs all) (in-others rs rs all)) ∙ ap (entries_of lives) (same-front rs rs r all)

-- and so are those of one's own streams, in the list of all
pub joined-entries : (base : List Stream) (n : ℕ) (own : List Stream) (last : ℕ) → IsJoined base n own last → Rise 0 own → live_entries own (joined base n own) ≡ entries_of lives (joined base n own)
joined-entries base n own last is r =
    let all = joined base n own in
    let rising = rise 0 last all is.rising in
    let same = are-in 0 own r in
    let there = in-other own all own (found-own is) same in
    let closed = others-append own (map (as_in (take n own)) base) (drop n own) (others-shared own (take n own) base (none-front n own) is.closed) (in-others own (drop n own) (in-rest own n own same)) in
    sym (live-rebuilt 0 own all rising r (in-known all own there) closed) ∙ ap (entries_of lives) (same-front own all rising there)

-- the rest of a list, by how long it is
pub take-rest : {X : Type 0} (n : ℕ) (xs : List X) → take (length xs - n) (drop n xs) ≡ drop n xs
take-rest n xs = let rest = length-drop n xs in take_all (length xs - n) (drop n xs) (omega (arith, rest))
