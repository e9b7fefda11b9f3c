-- Texts of findings, one after another.
use Rattle.std.proofs.Common.{◌≡◌, ◌∙◌, ℕ, ◌+◌, ◌<◌, ◌≤◌, Bool, true, List, [], ◌∷◌, ◌++◌, length, drop, get_or, refl, sym, ap, subst, IfOk, Result, Ok, Err, tests}
use Rattle.std.proofs.lemmas.List.{append_assoc, append-nil, drop_all, drop_more}
use Rattle.h2_cmd_inject.specs.Results.{AppendsOne, AppendsSome, Each, IsVerdict, IsVerdictOf}

-- what all texts from a place on would give
abbrev pub Would : {X : Type 0} → (X → List ℕ → Type 0) → (all : List X) → (old out : List ℕ) → List X → Type 0
Would Is all old out xs = (rest : List ℕ) → Each Is xs rest → AppendsSome Is all old (out ++ rest)

-- before the first
pub each-init : {X : Type 0} (Is : X → List ℕ → Type 0) (all : List X) (old : List ℕ) → Would Is all old old all
each-init Is all old = λ rest each. (rest, each, refl)

-- one more was appended
pub would-next : {X : Type 0} (Is : X → List ℕ → Type 0) (all : List X) (x : X) (xs : List X) (old out new : List ℕ)
    → Would Is all old out (x ∷ xs) → AppendsOne (Is x) out new → Would Is all old new xs
would-next Is all x xs old out new before one = λ rest each.
    let whole = before (one.0 ++ rest) (one.0, rest, one.1, each, refl) in
    (whole.0, whole.1, ap (λ (k : List ℕ). k ++ rest) one.2 ∙ append_assoc out one.0 rest ∙ whole.2)

pub each-next : {X : Type 0} (Is : X → List ℕ → Type 0) (all : List X) (i : ℕ) (d : X) (old out new : List ℕ) → i < length all
    → Would Is all old out (drop i all) → AppendsOne (Is (get_or all i d)) out new → Would Is all old new (drop (i + 1) all)
each-next Is all i d old out new inside before one =
    would-next Is all (get_or all i d) (drop (i + 1) all) old out new (subst (Would Is all old out) (drop_more all i d inside) before) one

-- after the last
pub would-end : {X : Type 0} (Is : X → List ℕ → Type 0) (all : List X) (old out : List ℕ) → Would Is all old out [] → AppendsSome Is all old out
would-end Is all old out before =
    let whole = before [] refl in
    (whole.0, whole.1, sym (append-nil out) ∙ whole.2)

pub each-end : {X : Type 0} (Is : X → List ℕ → Type 0) (all : List X) (i : ℕ) (old out : List ℕ) → length all ≤ i
    → Would Is all old out (drop i all) → AppendsSome Is all old out
each-end Is all i old out end before = would-end Is all old out (subst (Would Is all old out) (drop_all i all end) before)

-- what follows of a value
pub ok-then : {T E : Type 0} {P Q : T → Type 0} (r : Result T E) → IfOk r P → ((x : T) → P x → Q x) → IfOk r Q
ok-then (Ok x) is follow = follow x is
ok-then (Err e) is follow = tt

-- a verdict that is shown was appended
pub verdict-put : (shown : Bool) (line : ℕ) (old new text : List ℕ) → shown ≡ true → IsVerdict line text → new ≡ old ++ text → AppendsOne (IsVerdictOf shown line) old new
verdict-put shown line old new text so is put = (text, subst (λ (b : Bool). IsVerdictOf b line text) (sym so) is, put)
