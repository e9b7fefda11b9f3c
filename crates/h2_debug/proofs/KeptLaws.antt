-- What is kept of places.
use Rattle.std.proofs.Common.{◌≡◌, ◌⊎◌, ◌∙◌, inl, inr, ℕ, zero, suc, Option, Some, None, cond, ◌+◌, ◌-◌, ◌*◌, ◌<◌, ◌≤◌, ◌/◌, List, [], ◌∷◌, ◌++◌, length, length-drop, drop, ltb-false, ltb-true, nat_lt, Bool, true, false, true≢false, refl, sym, ap, arith}
use Rattle.std.specs.Prelude.{slice_get, min, max, nat_le, ◌&&◌}
use Rattle.std.specs.Option.{is_some}
use Rattle.std.proofs.Math.Nat.{div-mul-le_self, lt-div-mul-add, mul-div-le}
use Rattle.std.proofs.lemmas.Bool.{cases_lt, cond_both, le-leb, leb-false, leb-true}
use Rattle.h2_spec.specs.Texts.Debug.{stop, stop_from}
use Rattle.h2_spec.specs.Frames.Parse.{Front, Stop, One, Parsed, parse_all, parse_first, parse_upto}
use Rattle.h2_spec.specs.Trace.{Event, next_event, trace}
use Rattle.h2_debug.proofs.PlaceLaws.{place-anew, place-took}
use Rattle.h2_debug.specs.Debugging.{Debugging, IsKept, farthest_or, nearest_kept, reached_among, replay_count, replay_start}
use Rattle.h2_conn.specs.Connection.{Connection, going}
use Rattle.h2_conn.specs.Checkpoint.{IsConsistent, Precedes}
use Rattle.h2_conn.specs.Follows.{Follows}
use Rattle.h2_debug.specs.Places.{Source, Placed, KeptPlace, Advances, IsAt, IsKeptOf, IsReached, AreKept, at, end, kept_of, start}

kept-one : (r : Source) (i : ℕ) (k : KeptPlace) (ks : List KeptPlace) → AreKept r i ks → IsKeptOf r k → k.position ≡ (i + length ks) * 64 → AreKept r i (ks ++ k ∷ [])
kept-one r i k [] a x e = (x, omega (arith, e), tt)
kept-one r i k (y ∷ ys) a x e = (a.0, a.1, kept-one r (i + 1) k ys a.2 x (omega (arith, e)))

pub kept-at : (r : Source) (i j : ℕ) (k : KeptPlace) (ks : List KeptPlace) → AreKept r i ks → slice_get ks j ≡ Some k → IsKeptOf r k × (k.position ≡ (i + j) * 64)
kept-at r i j k [] a h = cc
kept-at r i zero k (y ∷ ys) a h = let same : y ≡ k = cc in rw (← same) (a.0, omega (arith, a.1))
kept-at r i (suc j) k (y ∷ ys) a h = let more = kept-at r (i + 1) j k ys a.2 h in (more.0, omega (arith, more.1))

-- a place at the next multiple of 64 is kept
pub kept-due : (r : Source) (p : Placed) (ks : List KeptPlace) → AreKept r 0 ks → IsAt r p → IsConsistent p.connection.state → p.position ≤ length ks * 64 → p.position / 64 ≡ length ks → AreKept r 0 (ks ++ kept_of p ∷ [])
kept-due r p ks a x c below due = kept-one r 0 (kept_of p) ks a (record { place = p; here = x; consistent = c; same = refl }) (omega (arith, below, due, mul-div-le p.position 64))

-- a place holds no octets that wait
pub place-goes : (r : Source) (p : Placed) → IsAt r p → p.connection ≡ going p.connection.state []
place-goes r p x = x.goes ∙ ap (λ (c : Connection). going c.state []) (sym x.goes)

-- what a place leaves of one before it
pub place-follows : (r : Source) (p far : Placed) → IsAt r p → IsAt r far → p.position ≤ far.position → Follows p.connection.state far.connection.state
place-follows r p far x y le =
    let here : p.connection.state ≡ at r p.position = ap (λ (c : Connection). c.state) x.goes in
    let there : far.connection.state ≡ at r far.position = ap (λ (c : Connection). c.state) y.goes in
    rw (here, there) (y.follows p.position le)

-- what is kept of a place before another can be made again from that one
pub kept-precedes : (r : Source) (k : KeptPlace) (far : Placed) → IsKeptOf r k → IsAt r far → k.position ≤ far.position → Precedes k.checkpoint far.connection.state
kept-precedes r k far x y le =
    let same : k.position ≡ x.place.position = ap (λ (j : KeptPlace). j.position) x.same in
    record {
      state = x.place.connection.state;
      consistent = x.consistent;
      taken = ap (λ (j : KeptPlace). j.checkpoint) x.same;
      follows = place-follows r x.place far x.here y (omega (arith, le, same));
    }

-- ---- no more items than octets

few-first : {S E : Type 0} (n : ℕ) (s : S) (b : List ℕ) (x : Front S E) (follow : S → List ℕ → Parsed S E) → ((t : S) (c : List ℕ) → length (follow t c).elements ≤ n) → length (parse_first s b x follow).elements ≤ suc n
few-first n s b Stop follow h = omega arith
few-first n s b (One e t used) follow h = omega (arith, h t (drop used b))

few-upto : {S E : Type 0} (next : S → List ℕ → Front S E) (n : ℕ) (s : S) (b : List ℕ) → length (parse_upto next n s b).elements ≤ n
few-upto next zero s b = omega arith
few-upto next (suc n) s b = few-first n s b (next s b) _ (λ t c. few-upto next n t c)

pub end-few : (r : Source) → end r ≤ length r.octets
unfolding trace parse_all
end-few r = few-upto next_event (length r.octets) (start r) r.octets

-- ---- where a move starts

-- the start
-- ---- a debugger moves

-- a place and what is kept of it
pub place-restored : (k : KeptPlace) (p : Placed) (c : Connection) → k ≡ kept_of p → c ≡ p.connection → record { connection = c; position = k.position; used = k.used; ran = 0; reasons = k.reasons; sent = k.sent } ≡ record p { ran = 0 }
place-restored k p c e h = rw (e, h) refl

pub kept-start : (r : Source) (p : Placed) → IsAt r p → p.position ≡ 0 → IsKept r p p [] 0 0
kept-start r p x e = record {
  now = x;
  far_is = record { here = x; as_far = omega arith };
  kept_is = tt;
  below = omega arith;
  due = λ _. e;
  within = omega arith;
  reached_is = omega arith;
  few = omega arith;
}

both-true : {a b : Bool} → a ≡ true → b ≡ true → (a && b) ≡ true
both-true a b = rw (a, b) refl

-- where the present place is not between, the greatest multiple of 64 that is not above a position is one of a place
-- that is kept
pub near-kept : (r : Source) (now far : Placed) (kept : List KeptPlace) (reached replayed target : ℕ) → IsKept r now far kept reached replayed
    → (nat_le now.position target && nat_le (min target reached / 64 * 64) now.position) ≡ false → min target reached / 64 < length kept
near-kept r now far kept reached replayed target k apart = go (cases_lt (min target reached / 64) (length kept))
  where
    go : (min target reached / 64 < length kept) ⊎ (length kept ≤ min target reached / 64) → min target reached / 64 < length kept
    go (inl h) = h
    go (inr h) =
        let low = mul-div-le (min target reached) 64 in
        let same = k.due (omega (arith, h, low, k.below)) in
        let a : nat_le now.position target ≡ true = le-leb now.position target (omega (arith, h, low, same, k.below)) in
        let b : nat_le (min target reached / 64 * 64) now.position ≡ true = le-leb (min target reached / 64 * 64) now.position (omega (arith, low, same, k.below)) in
        absurd (true≢false (sym (both-true a b) ∙ apart))

-- the debugger arrives at a place that a move has led to, after what was kept of the one that it leaves
pub kept-arrived : (r : Source) (now far p far' : Placed) (ks ks' : List KeptPlace) (reached replayed : ℕ) → IsKept r now far ks reached replayed → IsReached r p ks' → now.position < length ks' * 64 → length ks ≤ length ks'
    → (reached < p.position → far' ≡ p) → (p.position ≤ reached → far' ≡ far) → IsKept r p far' ks' (max p.position reached) replayed
kept-arrived r now far p far' ks ks' reached replayed k x left more ahead behind = by (cases_lt reached p.position)
  where
    by : (reached < p.position) ⊎ (p.position ≤ reached) → IsKept r p far' ks' (max p.position reached) replayed
    by (inr before) =
        let same : max p.position reached ≡ reached = omega (arith, before) in
        rw (same, behind before) (record {
          now = x.place;
          far_is = k.far_is;
          kept_is = x.kept_is;
          below = omega (arith, k.below, more);
          due = λ e. let here = k.due (omega (arith, e, more, k.below)) in absurd (omega (arith, here, left, e));
          within = omega (arith, before);
          reached_is = k.reached_is;
          few = k.few;
        })
    by (inl after) =
        let same : max p.position reached ≡ p.position = omega (arith, after) in
        rw (same, ahead after) (record {
          now = x.place;
          far_is = record { here = x.place; as_far = omega arith };
          kept_is = x.kept_is;
          below = x.below;
          due = λ e. refl;
          within = omega arith;
          reached_is = x.place.within;
          few = k.few;
        })

-- what is kept of more places leaves the debugger where it is
pub kept-more : (r : Source) (now far : Placed) (ks ks' : List KeptPlace) (reached replayed : ℕ) → IsKept r now far ks reached replayed → AreKept r 0 ks' → length ks ≤ length ks' → IsKept r now far ks' reached replayed
kept-more r now far ks ks' reached replayed k a more = record {
  now = k.now;
  far_is = k.far_is;
  kept_is = a;
  below = omega (arith, k.below, more);
  due = λ e. k.due (omega (arith, e, more, k.below));
  within = k.within;
  reached_is = k.reached_is;
  few = k.few;
}

-- where no other place is the farthest one, it is the present one
pub farthest-none : (o : Option Placed) (p : Placed) → is_some o ≡ false → farthest_or o p ≡ p
farthest-none None p h = refl
farthest-none (Some far) p h = absurd (true≢false h)

-- where another place is the farthest one, it is so whichever is the present one
pub farthest-some : (o : Option Placed) (p q : Placed) → is_some o ≡ true → farthest_or o p ≡ farthest_or o q
farthest-some None p q h = absurd (true≢false (sym h))
farthest-some (Some far) p q h = refl

-- the debugger takes one item where it is
pub kept-stepped : (r : Source) (now p : Placed) (o : Option Placed) (ks ks' : List KeptPlace) (reached replayed : ℕ) → IsKept r now (farthest_or o now) ks reached replayed → IsReached r p ks' → p.position ≡ now.position + 1
    → length ks ≤ length ks' → IsKept r p (farthest_or (cond (nat_lt reached p.position) None o) p) ks' (max p.position reached) replayed
kept-stepped r now p o ks ks' reached replayed k x next more = by (nat_lt reached p.position) refl o k
  where
    by : (b : Bool) → nat_lt reached p.position ≡ b → (o : Option Placed) → IsKept r now (farthest_or o now) ks reached replayed → IsKept r p (farthest_or (cond b None o) p) ks' (max p.position reached) replayed
    by true e o k =
        let after : reached < p.position = ltb-true reached p.position e in
        kept-arrived r now (farthest_or o now) p p ks ks' reached replayed k x (omega (arith, next, x.below)) more (λ _. refl) (λ before. absurd (omega (arith, before, after)))
    by false e (Some far) k =
        let before : p.position ≤ reached = ltb-false reached p.position e in
        kept-arrived r now far p far ks ks' reached replayed k x (omega (arith, next, x.below)) more (λ after. absurd (omega (arith, before, after))) (λ _. refl)
    by false e None k =
        let before : p.position ≤ reached = ltb-false reached p.position e in
        absurd (omega (arith, before, next, k.far_is.as_far))

-- the same, where an item was to come
pub kept-took : (r : Source) (now p : Placed) (o : Option Placed) (ks ks' : List KeptPlace) (reached replayed : ℕ) (b : Bool) → IsKept r now (farthest_or o now) ks reached replayed → IsReached r p ks' → Advances r now p b → now.position < end r
    → length ks ≤ length ks' → IsKept r p (farthest_or (cond (nat_lt reached p.position) None o) p) ks' (max p.position reached) replayed
kept-took r now p o ks ks' reached replayed b k x took more le = kept-stepped r now p o ks ks' reached replayed k x (place-took r now p b took more).next le

-- how many items a move ran again is counted
pub kept-counted : (r : Source) (now far : Placed) (ks : List KeptPlace) (reached replayed count : ℕ) → IsKept r now far ks reached replayed → count ≤ 63 → IsKept r now far ks reached count
kept-counted r now far ks reached replayed count k few = record {
  now = k.now;
  far_is = k.far_is;
  kept_is = k.kept_is;
  below = k.below;
  due = k.due;
  within = k.within;
  reached_is = k.reached_is;
  few = few;
}

second : (a b : Bool) → (a && b) ≡ true → b ≡ true
second true b e = e
second false b e = absurd (true≢false (sym e))

-- a move starts where the debugger has been
pub replay-start-reached : (target : ℕ) (d : Debugging) → d.position ≤ d.reached → replay_start target d ≤ d.reached
replay-start-reached target d within =
    cond_both (nat_le d.position target && nat_le (nearest_kept target d) d.position) d.position (nearest_kept target d) (λ (n : ℕ). n ≤ d.reached)
    (λ _. within) (λ _. let low : min target d.reached / 64 * 64 ≤ min target d.reached = div-mul-le_self (min target d.reached) 64 in omega (arith, low))

-- a move runs fewer than 64 items again
pub replay-few : (target : ℕ) (d : Debugging) → replay_count target d ≤ 63
replay-few target d =
    cond_both (nat_le d.position target && nat_le (nearest_kept target d) d.position) d.position (nearest_kept target d) (λ (n : ℕ). min target d.reached - n ≤ 63)
    (λ near. let low = leb-true (nearest_kept target d) d.position (second _ _ near) in omega (arith, low, high)) (λ _. omega (arith, high))
  where
    high : min target d.reached < min target d.reached / 64 * 64 + 64
    high = lt-div-mul-add {a = min target d.reached} {b = 64} (omega arith)

-- the items that a debugger takes are counted anew, and none were run again
pub kept-anew : (r : Source) (now : Placed) (o : Option Placed) (ks : List KeptPlace) (reached replayed : ℕ) → IsKept r now (farthest_or o now) ks reached replayed
    → IsKept r (record now { ran = 0 }) (farthest_or o (record now { ran = 0 })) ks reached 0
kept-anew r now None ks reached replayed k = record {
  now = place-anew r now k.now;
  far_is = record { here = place-anew r now k.now; as_far = k.far_is.as_far };
  kept_is = k.kept_is;
  below = k.below;
  due = k.due;
  within = k.within;
  reached_is = k.reached_is;
  few = omega arith;
}
kept-anew r now (Some far) ks reached replayed k = record {
  now = place-anew r now k.now;
  far_is = k.far_is;
  kept_is = k.kept_is;
  below = k.below;
  due = k.due;
  within = k.within;
  reached_is = k.reached_is;
  few = omega arith;
}

-- ---- items that are run again

among-one : (reached s n count : ℕ) → count ≡ min (s + n) reached - s → count + cond (nat_le (s + suc n) reached) 1 0 ≡ min (s + suc n) reached - s
among-one reached s n count h =
    cond_both (nat_le (s + suc n) reached) 1 0 (λ (one : ℕ). count + one ≡ min (s + suc n) reached - s)
    (λ low. let le = leb-true (s + suc n) reached low in omega (arith, h, le)) (λ high. let gt = leb-false (s + suc n) reached high in omega (arith, h, gt))

among-all : (reached s n : ℕ) → reached_among reached s n ≡ min (s + n) reached - s
among-all reached s zero = omega arith
among-all reached s (suc n) = among-one reached s n (reached_among reached s n) (among-all reached s n)

pub replay-counted : (p : ℕ) (d : Debugging) → replay_count p d ≡ reached_among d.reached (replay_start p d) (p - replay_start p d)
replay-counted p d =
    let s : ℕ = replay_start p d in
    let all : reached_among d.reached s (p - s) ≡ min (s + (p - s)) d.reached - s = among-all d.reached s (p - s) in
    omega (arith, all)

-- of the items that a move to a position ran, all but those after the greatest one that was reached were run again
pub few-again : (target : ℕ) (d : Debugging) (ran : ℕ) → ran ≡ target - replay_start target d → ran - (target - d.reached) ≤ 63
few-again target d ran is = let few : min target d.reached - replay_start target d ≤ 63 = replay-few target d in omega (arith, few, is)

pub again-is : (target : ℕ) (d : Debugging) (ran : ℕ) → ran ≡ target - replay_start target d → ran - (target - d.reached) ≡ replay_count target d
again-is target d ran is = omega (arith, is)

rest-false : (a b : Bool) → a ≡ true → (a && b) ≡ false → b ≡ false
rest-false true b is apart = apart
rest-false false b is apart = absurd (true≢false (sym is))

-- a move ahead starts where the debugger is or after that
pub replay-start-ahead : (target : ℕ) (d : Debugging) → d.position ≤ target → d.position ≤ replay_start target d
replay-start-ahead target d le =
    cond_both (nat_le d.position target && nat_le (nearest_kept target d) d.position) d.position (nearest_kept target d) (λ (n : ℕ). d.position ≤ n)
    (λ _. omega arith) (λ apart. let over = leb-false (nearest_kept target d) d.position (rest-false _ _ (le-leb d.position target le) apart) in omega (arith, over))

-- and not after the position that it leads to
pub replay-start-within : (target : ℕ) (d : Debugging) → d.position ≤ target → replay_start target d ≤ target
replay-start-within target d le =
    cond_both (nat_le d.position target && nat_le (nearest_kept target d) d.position) d.position (nearest_kept target d) (λ (n : ℕ). n ≤ target)
    (λ _. le) (λ _. let low : min target d.reached / 64 * 64 ≤ min target d.reached = div-mul-le_self (min target d.reached) 64 in omega (arith, low))

first : (a b : Bool) → (a && b) ≡ true → a ≡ true
first true b e = refl
first false b e = absurd (true≢false (sym e))

-- no move starts after the position that it leads to
pub replay-start-before : (target : ℕ) (d : Debugging) → replay_start target d ≤ target
replay-start-before target d =
    cond_both (nat_le d.position target && nat_le (nearest_kept target d) d.position) d.position (nearest_kept target d) (λ (n : ℕ). n ≤ target)
    (λ near. leb-true d.position target (first _ _ near)) (λ _. let low : min target d.reached / 64 * 64 ≤ min target d.reached = div-mul-le_self (min target d.reached) 64 in omega (arith, low))

-- a leg of 16,384 positions that were reached leads past the place where it starts, and no further
pub leg-ahead : (p target s : ℕ) (d : Debugging) → s ≡ replay_start target d → target ≡ p + 16384 → d.position ≤ p → p + 16384 ≤ d.reached → (p < s) × (s ≤ p + 16384)
leg-ahead p target s d from is le within = (omega (arith, from, past), omega (arith, from, is, replay-start-within target d (omega (arith, is, le))))
  where
    high : min target d.reached < min target d.reached / 64 * 64 + 64
    high = lt-div-mul-add {a = min target d.reached} {b = 64} (omega arith)

    past : p < replay_start target d
    past =
        cond_both (nat_le d.position target && nat_le (nearest_kept target d) d.position) d.position (nearest_kept target d) (λ (n : ℕ). p < n)
        (λ near.
        let low : nearest_kept target d ≤ d.position = leb-true (nearest_kept target d) d.position (second (nat_le d.position target) (nat_le (nearest_kept target d) d.position) near) in
        omega (arith, low, high, is, le, within))
        (λ _. omega (arith, high, is, within))

-- ---- where no breakpoint is set

stop-from-none : (q : ℕ) (es : List Event) → stop_from [] q es ≡ q + length es - 1
stop-from-none q [] = omega arith
stop-from-none q (e ∷ es) = let rest = stop-from-none (q + 1) es in omega (arith, rest)

-- a run goes to the end
pub stop-none : (p : ℕ) (es : List Event) → p ≤ length es → stop [] es p ≡ length es
unfolding stop
stop-none p es le = let last = stop-from-none (p + 1) (drop p es) in omega (arith, last, length-drop p es, le)

-- ---- a place that is made again from what was kept of it and the farthest one

module _ (r : Source) (now far : Placed) (ks : List KeptPlace) (reached replayed target : ℕ) (k : KeptPlace) (is : IsKept r now far ks reached replayed) (there : slice_get ks (min target reached / 64) ≡ Some k) where
  found : IsKeptOf r k × (k.position ≡ (0 + min target reached / 64) * 64)
  found = kept-at r 0 (min target reached / 64) k ks is.kept_is there

  behind : k.position ≤ far.position
  behind =
      let low : min target reached / 64 * 64 ≤ min target reached = div-mul-le_self (min target reached) 64 in
      let far-is = is.far_is.as_far in
      omega (arith, found.1, low, far-is)

  pub restore-precedes : Precedes k.checkpoint far.connection.state
  restore-precedes = kept-precedes r k far found.0 is.far_is.here behind

  pub restore-at : (q : Placed) → ((p : Placed) → k ≡ kept_of p → p.connection ≡ going p.connection.state [] → Follows p.connection.state far.connection.state → q ≡ record p { ran = 0 })
      → IsAt r q × (q.position ≡ min target reached / 64 * 64) × (q.ran ≡ 0)
  restore-at q same =
      let p = found.0.place in
      let kept : k.position ≡ p.position = ap (λ (j : KeptPlace). j.position) found.0.same in
      let follows = place-follows r p far found.0.here is.far_is.here (omega (arith, behind, kept)) in
      rw (same p found.0.same (place-goes r p found.0.here) follows) (place-anew r p found.0.here, omega (arith, kept, found.1), refl)
