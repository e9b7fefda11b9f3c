-- Octets that are missing: with fewer of them there is no item.
use Rattle.std.proofs.Common.{◌≡◌, ℕ, ◌+◌, ◌-◌, ◌<◌, ◌≤◌, Bool, true, false, cond, List, [], ◌∷◌, ◌++◌, None, length, get_or, refl, sym, ap, subst, arith, length-append, ltb, ltb-true, ltb-false, lt-ltb, le-ltb}
use Rattle.std.proofs.lemmas.List.{append-nil}
use Rattle.std.proofs.Math.ListN.{get_or-append}
use Rattle.std.specs.Prelude.{slice_range}
use Rattle.h2_spec.specs.declared.frames.Head.{Head}
use Rattle.h2_spec.specs.Frames.Frame.{Item, WholeFrame, Oversize, Next, NoItem, Got, next, frame_item, head_of}
use Rattle.h2_frame.specs.Items.{item_in, missing, missing_in, missing_of_frame, missing_of_preface, next_in, with_more}
use Rattle.h2_frame.specs.Rest.{Rest}

-- octets after a head leave it as it is
pub head_of-append : (b c : List ℕ) → 9 ≤ length b → head_of (b ++ c) ≡ head_of b
unfolding head_of
head_of-append b c h =
    let same : (i : ℕ) → i < 9 → get_or (b ++ c) i 0 ≡ get_or b i 0 = λ i g. get_or-append b c 0 i (omega arith) in
    rw (same 0 (omega arith), same 1 (omega arith), same 2 (omega arith), same 3 (omega arith), same 4 (omega arith), same 5 (omega arith), same 6 (omega arith), same 7 (omega arith), same 8 (omega arith)) refl

got-none : (x : Item) (used : ℕ) → Got x used ≡ NoItem → ⊥
got-none x used h = cc

-- a head with no whole payload after it is not above the limit, and its payload lacks octets
head-lacks : (limit : ℕ) (h : Head) (b : List ℕ) → frame_item limit h b ≡ NoItem → (ltb limit h.length ≡ false) × (length b < 9 + h.length)
head-lacks limit h b none = at (ltb limit h.length) refl
  where
    whole : ltb limit h.length ≡ false → (t : Bool) → ltb (length b) (9 + h.length) ≡ t → length b < 9 + h.length
    whole e true g = ltb-true (length b) (9 + h.length) g
    whole e false g = absurd (got-none (WholeFrame h (slice_range b 9 (9 + h.length))) (9 + h.length) (rw (e, g) at none))

    at : (t : Bool) → ltb limit h.length ≡ t → (ltb limit h.length ≡ false) × (length b < 9 + h.length)
    at true e = absurd (got-none (Oversize h) 9 (rw e at none))
    at false e = (e, whole e (ltb (length b) (9 + h.length)) refl)

-- fewer octets than a frame lacks
frame-fewer : (limit : ℕ) (b more : List ℕ) → length more < missing_of_frame limit b → next false limit (b ++ more) ≡ NoItem
unfolding next
frame-fewer limit b more few = at (ltb (length b) 9) refl
  where
    Goal : Type 0
    Goal = cond (ltb (length (b ++ more)) 9) NoItem (frame_item limit (head_of (b ++ more)) (b ++ more)) ≡ NoItem

    payload : (t : Bool) → ltb (length b) 9 ≡ false → ltb limit (head_of b).length ≡ t → length more < cond t 0 (9 + (head_of b).length - length b) → Goal
    payload true e f less = absurd (omega (arith, less))
    payload false e f less =
        let enough : 9 ≤ length b = ltb-false (length b) 9 e in
        let long : ltb (length (b ++ more)) 9 ≡ false = le-ltb (length (b ++ more)) 9 (omega (arith, enough, length-append b more)) in
        let short : ltb (length (b ++ more)) (9 + (head_of b).length) ≡ true = lt-ltb (length (b ++ more)) (9 + (head_of b).length) (omega (arith, less, length-append b more)) in
        let same : frame_item limit (head_of b) (b ++ more) ≡ NoItem = rw (f, short) refl in
        rw long (subst (λ (h : Head). frame_item limit h (b ++ more) ≡ NoItem) (sym (head_of-append b more enough)) same)

    at : (t : Bool) → ltb (length b) 9 ≡ t → Goal
    at true e =
        let less : length more < 9 - length b = rw e at few in
        let short : ltb (length (b ++ more)) 9 ≡ true = lt-ltb (length (b ++ more)) 9 (omega (arith, less, ltb-true (length b) 9 e, length-append b more)) in
        rw short refl
    at false e = payload (ltb limit (head_of b).length) e refl (rw e at few)

preface-fewer : (limit : ℕ) (b more : List ℕ) (n : Next) → next true limit b ≡ n → length more < missing_of_preface n → next true limit (b ++ more) ≡ NoItem
preface-fewer limit b more (Got x used) e few = absurd (omega (arith, few))
preface-fewer limit b [] NoItem e few = rw (append-nil b) e
preface-fewer limit b (x ∷ xs) NoItem e few = absurd (omega (arith, few))

fewer : (p : Bool) (limit : ℕ) (b more : List ℕ) → length more < missing p limit b → next p limit (b ++ more) ≡ NoItem
fewer true limit b more few = preface-fewer limit b more (next true limit b) refl few
fewer false limit b more few = frame-fewer limit b more few

fewer-in : (over : Bool) (p : Bool) (limit : ℕ) (b more : List ℕ) → length more < cond over 0 (missing p limit b) → item_in (cond over NoItem (next p limit (b ++ more))) ≡ None
fewer-in true p limit b more few = refl
fewer-in false p limit b more few = ap item_in (fewer p limit b more few)

-- with fewer octets than are missing there is no item
pub missing-fewer : (limit : ℕ) (r : Rest) (more : List ℕ) → length more < missing_in limit r → next_in limit (with_more r more) ≡ None
missing-fewer limit r more few = fewer-in r.is_over r.expects_preface limit r.octets more few

-- octets are missing where there is no item
frame-some : (limit : ℕ) (b : List ℕ) → next false limit b ≡ NoItem → 0 < missing_of_frame limit b
unfolding next
frame-some limit b none = at (ltb (length b) 9) refl
  where
    at : (t : Bool) → ltb (length b) 9 ≡ t → 0 < cond t (9 - length b) (cond (ltb limit (head_of b).length) 0 (9 + (head_of b).length - length b))
    at true e = omega (arith, ltb-true (length b) 9 e)
    at false e =
        let here : frame_item limit (head_of b) b ≡ NoItem = rw e at none in
        let lacks = head-lacks limit (head_of b) b here in
        rw lacks.0 (omega (arith, lacks.1))

pub missing-some : (p : Bool) (limit : ℕ) (b : List ℕ) → next p limit b ≡ NoItem → 0 < missing p limit b
missing-some true limit b none = rw none (omega arith)
missing-some false limit b none = frame-some limit b none
