-- A share is cut into DATA of the frame size and one last, and there is one way to do so.
use Rattle.std.proofs.Common.{◌≡◌, ℕ, zero, suc, ◌+◌, ◌-◌, ◌<◌, ◌≤◌, Bool, true, false, cond, List, [], ◌∷◌, ◌++◌, length, take, drop, flat_map, slice_get, refl, sym, ap, subst, ◌∙◌, arith, eqb, leb, leb-true, leb-false, le-leb, length-take, length-drop, length-append, Some}
use Rattle.std.proofs.Math.Seq.{take-append_seam, drop-append_seam}
use Rattle.std.proofs.lemmas.List.{append-nil, take-append-drop, nil_from_length}
use Rattle.std.proofs.lemmas.Bool.{lt-leb}
use Rattle.h2_spec.specs.declared.streams.Stream.{Stream}
use Rattle.h2_spec.specs.Frames.FrameType.{DATA, END_STREAM}
use Rattle.h2_spec.specs.Frames.Frame.{Frame}
use Rattle.h2_spec.specs.Stream.{octets_waiting}
use Rattle.h2_spec.specs.Requests.Answer.{Entry, picked}
use Rattle.h2_spec.specs.Change.{flag_if}
use Rattle.h2_spec.specs.SendPending.{piece, data_upto, data_frames, allowance_frames}
use Rattle.h2_spec_laws.specs.Cutting.{IsCut, CutsAllowance}

abbrev all_of : List Frame → List ℕ
all_of frames = flat_map (λ (f : Frame). f.payload) frames

-- ---- no frame, one, and one before others

none-cut : (id size : ℕ) (ends : Bool) → IsCut id size ends [] []
none-cut id size ends = record { data_on = λ i f e. absurd cc; full = λ i f e h. absurd cc; last = λ i f e h. absurd cc; joined = refl }

one-cut : (id size : ℕ) (ends : Bool) (xs : List ℕ) → 1 ≤ length xs → length xs ≤ size → IsCut id size ends xs (piece id ends xs ∷ [])
one-cut id size ends xs some few = record { data_on = data_on; full = λ i f e h. absurd (omega arith); last = last; joined = append-nil xs }
  where
    data_on : (i : ℕ) (f : Frame) → slice_get (piece id ends xs ∷ []) i ≡ Some f → (f.kind ≡ DATA) × (f.stream ≡ id)
    data_on zero f e = let same : piece id ends xs ≡ f = cc in (ap (λ (g : Frame). g.kind) (sym same), ap (λ (g : Frame). g.stream) (sym same))
    data_on (suc i) f e = absurd cc

    last : (i : ℕ) (f : Frame) → slice_get (piece id ends xs ∷ []) i ≡ Some f → i + 1 ≡ 1 → (1 ≤ length f.payload) × (length f.payload ≤ size) × (f.flags ≡ flag_if ends END_STREAM)
    last zero f e h =
        let same : piece id ends xs ≡ f = cc in
        subst (λ (g : Frame). (1 ≤ length g.payload) × (length g.payload ≤ size) × (g.flags ≡ flag_if ends END_STREAM)) same (some, few, refl)
    last (suc i) f e h = absurd cc

-- some octets are in some frames
cut-some : (id size : ℕ) (ends : Bool) (ys : List ℕ) (fs : List Frame) → 1 ≤ length ys → IsCut id size ends ys fs → 1 ≤ length fs
cut-some id size ends ys [] some c = absurd (let none = ap length c.joined in omega arith)
cut-some id size ends ys (f ∷ fs) some c = omega arith

more-cut : (id size : ℕ) (ends : Bool) (xs ys : List ℕ) (fs : List Frame) → length xs ≡ size → 1 ≤ length ys → IsCut id size ends ys fs → IsCut id size ends (xs ++ ys) (piece id false xs ∷ fs)
more-cut id size ends xs ys fs long some c = record { data_on = data_on; full = full; last = last; joined = ap (λ zs. xs ++ zs) c.joined }
  where
    data_on : (i : ℕ) (f : Frame) → slice_get (piece id false xs ∷ fs) i ≡ Some f → (f.kind ≡ DATA) × (f.stream ≡ id)
    data_on zero f e = let same : piece id false xs ≡ f = cc in (ap (λ (g : Frame). g.kind) (sym same), ap (λ (g : Frame). g.stream) (sym same))
    data_on (suc i) f e = c.data_on i f e

    full : (i : ℕ) (f : Frame) → slice_get (piece id false xs ∷ fs) i ≡ Some f → i + 1 < suc (length fs) → (length f.payload ≡ size) × (f.flags ≡ 0)
    full zero f e h = let same : piece id false xs ≡ f = cc in subst (λ (g : Frame). (length g.payload ≡ size) × (g.flags ≡ 0)) same (long, refl)
    full (suc i) f e h = c.full i f e (omega (arith, h))

    last : (i : ℕ) (f : Frame) → slice_get (piece id false xs ∷ fs) i ≡ Some f → i + 1 ≡ suc (length fs) → (1 ≤ length f.payload) × (length f.payload ≤ size) × (f.flags ≡ flag_if ends END_STREAM)
    last zero f e h = absurd (let more = cut-some id size ends ys fs some c in omega arith)
    last (suc i) f e h = c.last i f e (omega (arith, h))

-- ---- what is sent is cut so

pub data-cut : (more id : ℕ) (ends : Bool) (size : ℕ) (xs : List ℕ) → 1 ≤ size → length xs ≤ more → IsCut id size ends xs (data_upto more id ends size xs)
unfolding data_upto
data-cut zero id ends size xs h k = rw (nil_from_length xs (omega arith)) (none-cut id size ends)
data-cut (suc more) id ends size [] h k = none-cut id size ends
data-cut (suc more) id ends size (x ∷ xs) h k = at (leb (length (x ∷ xs)) size) refl (λ ys few. data-cut more id ends size ys h few)
  where
    at : (b : Bool) → leb (length (x ∷ xs)) size ≡ b → ((ys : List ℕ) → length ys ≤ more → IsCut id size ends ys (data_upto more id ends size ys)) →
        IsCut id size ends (x ∷ xs) (cond b (piece id ends (x ∷ xs) ∷ []) (piece id false (take size (x ∷ xs)) ∷ data_upto more id ends size (drop size (x ∷ xs))))
    at true e rest = one-cut id size ends (x ∷ xs) (omega arith) (leb-true (length (x ∷ xs)) size e)
    at false e rest =
        let above : size < length (x ∷ xs) = leb-false (length (x ∷ xs)) size e in
        let front : length (take size (x ∷ xs)) ≡ size = omega (arith, length-take size (x ∷ xs)) in
        let back = length-drop size (x ∷ xs) in
        subst (λ ys. IsCut id size ends ys (piece id false (take size (x ∷ xs)) ∷ data_upto more id ends size (drop size (x ∷ xs)))) (take-append-drop size (x ∷ xs))
        (more-cut id size ends (take size (x ∷ xs)) (drop size (x ∷ xs)) _ front (omega (arith, back, above)) (rest (drop size (x ∷ xs)) (omega (arith, back, h, k))))

-- ---- and nothing else is

-- frames without the first one
rest-cut : (id size : ℕ) (ends : Bool) (xs : List ℕ) (f g : Frame) (fs : List Frame) → IsCut id size ends xs (f ∷ g ∷ fs) → IsCut id size ends (all_of (g ∷ fs)) (g ∷ fs)
rest-cut id size ends xs f g fs c = record {
  data_on = λ i h e. c.data_on (suc i) h e;
  full = λ i h e l. c.full (suc i) h e (omega (arith, l));
  last = λ i h e l. c.last (suc i) h e (omega (arith, l));
  joined = refl;
}

-- each frame of a cut has an octet or more
front-some : (id size : ℕ) (ends : Bool) (xs : List ℕ) (f : Frame) (fs : List Frame) → 1 ≤ size → IsCut id size ends xs (f ∷ fs) → 1 ≤ length f.payload
front-some id size ends xs f [] h c = (c.last 0 f refl refl).0
front-some id size ends xs f (g ∷ fs) h c = let full = (c.full 0 f refl (omega arith)).0 in omega arith

frame-of : (kind flags stream : ℕ) → List ℕ → Frame
frame-of kind flags stream payload = record { kind = kind; flags = flags; stream = stream; payload = payload }

frame-is : (f : Frame) (id flags : ℕ) (xs : List ℕ) → f.kind ≡ DATA → f.stream ≡ id → f.flags ≡ flags → f.payload ≡ xs → f ≡ record { kind = DATA; flags = flags; stream = id; payload = xs }
unfolding frame-of
frame-is f id flags xs a b c d = let e : frame-of f.kind f.flags f.stream f.payload ≡ frame-of DATA flags id xs = cc in e

pub cut-only : (frames : List Frame) (more id : ℕ) (ends : Bool) (size : ℕ) (xs : List ℕ) → 1 ≤ size → length xs ≤ more → IsCut id size ends xs frames → frames ≡ data_upto more id ends size xs
unfolding data_upto
cut-only [] zero id ends size xs h k c = refl
cut-only [] (suc more) id ends size xs h k c = subst (λ ys. [] ≡ data_upto (suc more) id ends size ys) c.joined refl
cut-only (f ∷ fs) zero id ends size xs h k c =
    absurd (let some = front-some id size ends xs f fs h c in let e = ap length c.joined in let l = length-append f.payload (all_of fs) in omega arith)
cut-only (f ∷ []) (suc more) id ends size xs h k c =
    let on = c.data_on 0 f refl in
    let last = c.last 0 f refl refl in
    let same : f.payload ≡ xs = sym (append-nil f.payload) ∙ c.joined in
    ap (λ g. g ∷ []) (frame-is f id (flag_if ends END_STREAM) xs on.0 on.1 last.2 same) ∙ sym (at xs (subst (λ ys. 1 ≤ length ys) same last.0) (subst (λ ys. length ys ≤ size) same last.1))
  where
    at : (ys : List ℕ) → 1 ≤ length ys → length ys ≤ size → data_upto (suc more) id ends size ys ≡ piece id ends ys ∷ []
    at [] some few = absurd (omega arith)
    at (y ∷ ys) some few = rw (le-leb (length (y ∷ ys)) size few) refl
cut-only (f ∷ g ∷ fs) (suc more) id ends size xs h k c =
    let on = c.data_on 0 f refl in
    let full = c.full 0 f refl (omega arith) in
    let tail = rest-cut id size ends xs f g fs c in
    let some = front-some id size ends _ g fs h tail in
    let ys : List ℕ = all_of (g ∷ fs) in
    let behind : 1 ≤ length ys = omega (arith, length-append g.payload (all_of fs)) in
    let long = ap length c.joined in
    let sum = length-append f.payload ys in
    let rest : g ∷ fs ≡ data_upto more id ends size ys = cut-only (g ∷ fs) more id ends size ys h (omega (arith, long, sum, full.0, h, k)) tail in
    subst (λ zs. f ∷ g ∷ fs ≡ data_upto (suc more) id ends size zs) c.joined
    (ap (λ r. r ∷ g ∷ fs) (frame-is f id 0 f.payload on.0 on.1 full.1 refl) ∙ ap (λ r. piece id false f.payload ∷ r) rest ∙ sym (at f.payload ys full.0 behind))
  where
    at : (zs ys : List ℕ) → length zs ≡ size → 1 ≤ length ys → data_upto (suc more) id ends size (zs ++ ys) ≡ piece id false zs ∷ data_upto more id ends size ys
    at [] ys long behind = absurd (omega arith)
    at (z ∷ zs) ys long behind =
        let above : leb (length (z ∷ zs ++ ys)) size ≡ false = lt-leb (length (z ∷ zs ++ ys)) size (omega (arith, length-append (z ∷ zs) ys)) in
        let front : take size (z ∷ zs ++ ys) ≡ z ∷ zs = ap (λ n. take n (z ∷ zs ++ ys)) (sym long) ∙ take-append_seam (z ∷ zs) ys in
        let back : drop size (z ∷ zs ++ ys) ≡ ys = ap (λ n. drop n (z ∷ zs ++ ys)) (sym long) ∙ drop-append_seam (z ∷ zs) ys in
        rw (above, front, back) refl

-- ---- the share of a stream

pub allowance-cut : (book : List Entry) (size n : ℕ) (st : Stream) → 1 ≤ size → n ≤ octets_waiting st → octets_waiting st ≤ length (picked book st.pick).body → CutsAllowance book size n st
unfolding allowance_frames data_frames
allowance-cut book size n st h some within = record {
  octets = octets;
  next = record {
    before = take start body;
    behind = drop n (drop start body);
    parts = sym (take-append-drop start body) ∙ ap (λ xs. take start body ++ xs) (sym (take-append-drop n (drop start body)));
    count = count;
    left = omega (arith, count, length-drop n (drop start body), length-drop start body);
  };
  cut = data-cut (length octets) st.id (eqb (octets_waiting st) n) size octets h (omega arith);
  only = λ frames c. cut-only frames (length octets) st.id (eqb (octets_waiting st) n) size octets h (omega arith) c;
}
  where
    body : List ℕ
    body = (picked book st.pick).body

    start : ℕ
    start = length body - octets_waiting st

    octets : List ℕ
    octets = take n (drop start body)

    count : length octets ≡ n
    count = omega (arith, length-take n (drop start body), length-drop start body)

pub nothing-cut : (book : List Entry) (size : ℕ) (st : Stream) → allowance_frames book size 0 st ≡ []
unfolding allowance_frames data_frames data_upto
nothing-cut book size st = refl
