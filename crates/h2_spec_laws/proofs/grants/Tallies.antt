-- The tally of frames that are sent: one after another, on other streams, and the DATA of a share.
use Rattle.std.proofs.Common.{◌≡◌, ℕ, zero, suc, ◌+◌, ◌≤◌, Bool, true, false, cond, not, leb, ◌&&◌, ◌||◌, List, [], ◌∷◌, ◌++◌, length, take, drop, refl, sym, ap, subst, ◌∙◌, arith, eqb, append_assoc, length-drop}
use Rattle.std.proofs.lemmas.List.{take-append-drop, length-take}
use Rattle.std.proofs.lemmas.Bool.{false≢true, leb-true, leb-false}
use Rattle.h2_spec.specs.Frames.Frame.{Frame}
use Rattle.h2_spec.specs.SendPending.{piece, data_upto, data_frames}
use Rattle.h2_spec_laws.specs.Grants.{StreamTally, Tally, When, AtEach, IsWithinFrameSize, IsInOrder, IsBeforeEnd, sent_one, sent_all, sends_data, is_unfinished}

pub always : {P : Type 0} (b : Bool) → P → When b P
always true p = p
always false p = tt

-- the tests of each frame
abbrev pub IsRight : ℕ → Tally → Frame → Type 0
IsRight id t f = IsWithinFrameSize t f × IsInOrder id t f × IsBeforeEnd id t f

pub AtEach-weaker : (P Q : Tally → Frame → Type 0) → ((t : Tally) (f : Frame) → P t f → Q t f) → (id : ℕ) (t : Tally) (fs : List Frame) → AtEach P id t fs → AtEach Q id t fs
AtEach-weaker P Q h id t [] a = tt
AtEach-weaker P Q h id t (f ∷ fs) a = (h t f a.0, AtEach-weaker P Q h id (sent_one id t f) fs a.1)

AtEach-append : (P : Tally → Frame → Type 0) (id : ℕ) (t : Tally) (fs gs : List Frame) → AtEach P id t fs → AtEach P id (sent_all id t fs) gs → AtEach P id t (fs ++ gs)
AtEach-append P id t [] gs a b = b
AtEach-append P id t (f ∷ fs) gs a b = (a.0, AtEach-append P id (sent_one id t f) fs gs a.1 b)

sent_all-append : (id : ℕ) (t : Tally) (fs gs : List Frame) → sent_all id t (fs ++ gs) ≡ sent_all id (sent_all id t fs) gs
sent_all-append id t [] gs = refl
sent_all-append id t (f ∷ fs) gs = sent_all-append id (sent_one id t f) fs gs

pub sends_data-append : (id : ℕ) (fs gs : List Frame) → sends_data id (fs ++ gs) ≡ (sends_data id fs || sends_data id gs)
sends_data-append id [] gs = refl
sends_data-append id (f ∷ fs) gs = at (eqb f.stream id && eqb f.kind 0) (sends_data-append id fs gs)
  where
    at : (b : Bool) → sends_data id (fs ++ gs) ≡ (sends_data id fs || sends_data id gs) → (b || sends_data id (fs ++ gs)) ≡ ((b || sends_data id fs) || sends_data id gs)
    at true e = refl
    at false e = e

pub quiet-append : (id : ℕ) (fs gs : List Frame) → sends_data id fs ≡ false → sends_data id gs ≡ false → sends_data id (fs ++ gs) ≡ false
quiet-append id fs gs e g = rw (sends_data-append, e, g) refl

-- ---- what is finished

reset_not : (a b c : Bool) → c ≡ true → (a && not b && not c) ≡ true → ⊥
reset_not false b c e u = false≢true u
reset_not true true c e u = false≢true u
reset_not true false true e u = false≢true u
reset_not true false false e u = false≢true e

ended_not : (a b c : Bool) → b ≡ true → (a && not b && not c) ≡ true → ⊥
ended_not false b c e u = false≢true u
ended_not true true c e u = false≢true u
ended_not true false c e u = false≢true e

pub finished_by_reset : (m : StreamTally) → m.reset ≡ true → is_unfinished m ≡ true → ⊥
finished_by_reset m e u = reset_not (leb 1 m.headers) m.ended m.reset e u

pub finished_by_end : (m : StreamTally) → m.ended ≡ true → is_unfinished m ≡ true → ⊥
finished_by_end m e u = ended_not (leb 1 m.headers) m.ended m.reset e u

pub not_begun : (m : StreamTally) → m.headers ≡ 0 → is_unfinished m ≡ true → ⊥
not_begun m e u = false≢true (subst (λ k. (leb 1 k && not m.ended && not m.reset) ≡ true) e u)

-- ---- frames that pass the tests of each, and lead to this tally

pub record Leads (id : ℕ) (t : Tally) (fs : List Frame) (u : Tally) : Type 0 where
  pub right : AtEach (IsRight id) id t fs
  pub tally : sent_all id t fs ≡ u

pub Leads-nil : (id : ℕ) (t : Tally) → Leads id t [] t
Leads-nil id t = record { right = tt; tally = refl }

pub Leads-append : (id : ℕ) (t u v : Tally) (fs gs : List Frame) → Leads id t fs u → Leads id u gs v → Leads id t (fs ++ gs) v
Leads-append id t u v fs gs a b = record {
  right = AtEach-append (IsRight id) id t fs gs a.right (subst (λ w. AtEach (IsRight id) id w gs) (sym a.tally) b.right);
  tally = sent_all-append id t fs gs ∙ (ap (λ w. sent_all id w gs) a.tally ∙ b.tally);
}

pub Leads-cons : (id : ℕ) (t u v : Tally) (f : Frame) (gs : List Frame) → IsRight id t f → sent_one id t f ≡ u → Leads id u gs v → Leads id t (f ∷ gs) v
Leads-cons id t u v f gs a e b = record {
  right = (a, subst (λ w. AtEach (IsRight id) id w gs) (sym e) b.right);
  tally = ap (λ w. sent_all id w gs) e ∙ b.tally;
}

pub Leads-to : (id : ℕ) (t u v : Tally) (fs : List Frame) → Leads id t fs u → u ≡ v → Leads id t fs v
Leads-to id t u v fs a e = record { right = a.right; tally = a.tally ∙ e }

-- ---- octets in DATA

-- the tally with octets sent on another stream
abbrev pub elsewhere : Tally → ℕ → Tally
elsewhere t n = record t { sent = t.sent + n }

-- and with octets of its own
abbrev pub with_content : Tally → List ℕ → Bool → Tally
with_content t xs ends = record t { sent = t.sent + length xs; on_stream = record t.on_stream { content = t.on_stream.content ++ xs; ended = ends } }

pub nowhere : (id : ℕ) (t : Tally) → Leads id t [] (elsewhere t 0)
nowhere id t = Leads-to id t t (elsewhere t 0) [] (Leads-nil id t) (ap (λ k. record t { sent = k }) (omega arith))

pub data-elsewhere : (n id j size : ℕ) (ends : Bool) (t : Tally) (xs : List ℕ) → eqb j id ≡ false → size ≤ t.frame → 1 ≤ size → length xs ≤ n →
    Leads id t (data_upto n j ends size xs) (elsewhere t (length xs)) × (sends_data id (data_upto n j ends size xs) ≡ false)
unfolding data_upto
data-elsewhere zero id j size ends t [] e h s g = (nowhere id t, refl)
data-elsewhere zero id j size ends t (x ∷ xs) e h s g = absurd (omega arith)
data-elsewhere (suc n) id j size ends t [] e h s g = (nowhere id t, refl)
data-elsewhere (suc n) id j size ends t (x ∷ xs) e h s g = at (leb (length ys) size) refl (λ u k l. data-elsewhere n id j size ends u (drop size ys) e k s l)
  where
    ys : List ℕ
    ys = x ∷ xs

    at : (b : Bool) → leb (length ys) size ≡ b → ((u : Tally) → size ≤ u.frame → length (drop size ys) ≤ n → Leads id u (data_upto n j ends size (drop size ys)) (elsewhere u (length (drop size ys))) × (sends_data id (data_upto n j ends size (drop size ys)) ≡ false)) →
        Leads id t (cond b (piece j ends ys ∷ []) (piece j false (take size ys) ∷ data_upto n j ends size (drop size ys))) (elsewhere t (length ys)) ×
        (sends_data id (cond b (piece j ends ys ∷ []) (piece j false (take size ys) ∷ data_upto n j ends size (drop size ys))) ≡ false)
    at true l more =
        let short : length ys ≤ t.frame = omega (arith, leb-true (length ys) size l) in
        (Leads-cons id t _ _ (piece j ends ys) [] (rw e (short, (tt, tt), (tt, tt))) (rw e refl) (Leads-nil id _), rw e refl)
    at false l more =
        let front = length-take size ys in
        let back = length-drop size ys in
        let long = leb-false (length ys) size l in
        let short : length (take size ys) ≤ t.frame = omega (arith, front) in
        let sum : t.sent + length (take size ys) + length (drop size ys) ≡ t.sent + length ys = omega (arith, front, back) in
        let rest = more (elsewhere t (length (take size ys))) h (omega (arith, back, g)) in (
          Leads-cons id t (elsewhere t (length (take size ys))) _ (piece j false (take size ys)) _ (rw e (short, (tt, tt), (tt, tt))) (rw e refl)
              (Leads-to id _ _ _ _ rest.0 (ap (λ k. record t { sent = k }) sum)),
          rw e rest.1,
        )

data-here : (n id j size : ℕ) (ends : Bool) (t : Tally) (x : ℕ) (xs : List ℕ) → eqb j id ≡ true → size ≤ t.frame → 1 ≤ size → length (x ∷ xs) ≤ n →
    t.on_stream.headers ≡ 1 → t.on_stream.ended ≡ false → t.on_stream.reset ≡ false →
    Leads id t (data_upto n j ends size (x ∷ xs)) (with_content t (x ∷ xs) ends)
unfolding data_upto
data-here zero id j size ends t x xs e h s g a b c = absurd (omega arith)
data-here (suc n) id j size ends t x xs e h s g a b c = at (leb (length ys) size) refl (drop size ys) refl (λ u y zs. data-here n id j size ends u y zs e)
  where
    ys : List ℕ
    ys = x ∷ xs

    last : (ends : Bool) → length ys ≤ t.frame → Leads id t (piece j ends ys ∷ []) (with_content t ys ends)
    last true short = Leads-cons id t _ _ (piece j true ys) [] (rw e (short, (tt, a), (b, c))) (rw (e, b) refl) (Leads-nil id _)
    last false short = Leads-cons id t _ _ (piece j false ys) [] (rw e (short, (tt, a), (b, c))) (rw (e, b) refl) (Leads-nil id _)

    at : (b : Bool) → leb (length ys) size ≡ b → (rest : List ℕ) → drop size ys ≡ rest →
        ((u : Tally) (y : ℕ) (zs : List ℕ) → size ≤ u.frame → 1 ≤ size → length (y ∷ zs) ≤ n → u.on_stream.headers ≡ 1 → u.on_stream.ended ≡ false → u.on_stream.reset ≡ false → Leads id u (data_upto n j ends size (y ∷ zs)) (with_content u (y ∷ zs) ends)) →
        Leads id t (cond b (piece j ends ys ∷ []) (piece j false (take size ys) ∷ data_upto n j ends size rest)) (with_content t ys ends)
    at true l rest r more = last ends (omega (arith, leb-true (length ys) size l))
    at false l [] r more = let back = length-drop size ys in let none : length (drop size ys) ≡ 0 = ap length r in absurd (omega (arith, back, none, leb-false (length ys) size l))
    at false l (y ∷ zs) r more =
        let front = length-take size ys in
        let back = length-drop size ys in
        let long = leb-false (length ys) size l in
        let same : length (drop size ys) ≡ length (y ∷ zs) = ap length r in
        let short : length (take size ys) ≤ t.frame = omega (arith, front) in
        let sum : t.sent + length (take size ys) + length (y ∷ zs) ≡ t.sent + length ys = omega (arith, front, back, same) in
        let whole : (t.on_stream.content ++ take size ys) ++ (y ∷ zs) ≡ t.on_stream.content ++ ys =
        append_assoc t.on_stream.content (take size ys) (y ∷ zs) ∙ ap (λ ws. t.on_stream.content ++ ws) (ap (λ vs. take size ys ++ vs) (sym r) ∙ take-append-drop size ys) in
        Leads-cons id t (with_content t (take size ys) false) _ (piece j false (take size ys)) _ (rw e (short, (tt, a), (b, c))) (rw (e, b) refl)
        (Leads-to id _ _ _ _ (more (with_content t (take size ys) false) y zs h s (omega (arith, back, g, same)) a refl c) (rw (sum, whole) refl))

-- on the stream itself octets lengthen the content, and end it where they should
pub data-own : (id j size : ℕ) (ends : Bool) (t : Tally) (xs : List ℕ) → eqb j id ≡ true → size ≤ t.frame → 1 ≤ size → 1 ≤ length xs →
    t.on_stream.headers ≡ 1 → t.on_stream.ended ≡ false → t.on_stream.reset ≡ false →
    Leads id t (data_frames j ends size xs) (with_content t xs ends)
unfolding data_frames
data-own id j size ends t [] e h s g a b c = absurd (omega arith)
data-own id j size ends t (x ∷ xs) e h s g a b c = data-here (length (x ∷ xs)) id j size ends t x xs e h s (omega arith) a b c
