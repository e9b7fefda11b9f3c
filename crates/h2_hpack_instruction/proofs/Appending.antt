-- What is where things are appended one after another, and what is kept of the octets before them.
use Rattle.std.proofs.Common.{◌≡◌, List, [], ℕ, ◌++◌, take, drop, Vec, Result, Ok, Err, if◌then◌else◌, ap, ◌∙◌, sym, append_assoc}
use Rattle.std.specs.Result.{OnOk, OnErr, is_ok}
use Rattle.std.specs.Vec.{vec_len}
use Rattle.std.proofs.Math.Seq.{take-append_seam}
use Rattle.std.proofs.lemmas.List.{append-nil, take-append-drop}
use Rattle.std.proofs.lemmas.Result.{on_ok_weaker}

-- the octets before, where one thing is appended
before-more : {Z : Type 0} (old : Vec ℕ Z) (a new : List ℕ) → new ≡ old.items ++ a → take (vec_len old) new ≡ old.items
before-more old a new e = ap (take (vec_len old)) e ∙ ap (λ n. take n (old.items ++ a)) old.ok.0 ∙ take-append_seam old.items a

-- and where what is after keeps these two
pub before-two : {Z : Type 0} (old mid : Vec ℕ Z) (a new : List ℕ) → mid.items ≡ old.items ++ a → take (vec_len mid) new ≡ mid.items → take (vec_len old) new ≡ old.items
before-two old mid a new e kept =
    let rest = drop (vec_len mid) new in
    before-more old (a ++ rest) new (sym (take-append-drop (vec_len mid) new) ∙ ap (λ (x : List ℕ). x ++ rest) (kept ∙ e) ∙ append_assoc old.items a rest)

-- a call appends, or leaves the octets as they were
pub before-call : {X E Z : Type 0} (r : Result X E) (old : Vec ℕ Z) (a new : List ℕ) → OnOk r (new ≡ old.items ++ a) → OnErr r (new ≡ old.items) → take (vec_len old) new ≡ old.items
before-call (Ok x) old a new ok err = before-more old a new ok
before-call (Err x) old a new ok err = before-more old [] new (err ∙ sym (append-nil old.items))

-- a call appends after what was appended
pub both : {X E : Type 0} (r : Result X E) (old a b mid new : List ℕ) → mid ≡ old ++ a → OnOk r (new ≡ mid ++ b) → OnOk r (new ≡ old ++ (a ++ b))
both r old a b mid new e = on_ok_weaker r (λ ok. ok ∙ ap (λ (x : List ℕ). x ++ b) e ∙ append_assoc old a b)

-- a slice is appended, or the octets are as they were
pub extended : {X E : Type 0} (r : Result X E) (mid b new : List ℕ) → new ≡ (if is_ok r then mid ++ b else mid) → OnOk r (new ≡ mid ++ b) × OnErr r (new ≡ mid)
extended (Ok x) mid b new e = (e, tt)
extended (Err x) mid b new e = (tt, e)
