-- What is appended leaves what was there in front.
use Rattle.std.proofs.Common.{◌≡◌, ◌≤◌, ◌++◌, ◌∙◌, ℕ, List, length, take, Result, Ok, Err, OnErr, OnOk, ap, sym, arith}
use Rattle.std.proofs.Math.Seq.{take-append_seam, take-length}
use Rattle.std.proofs.lemmas.List.{length-take, take-take}

pub kept-same : (a b : List ℕ) → b ≡ a → take (length a) b ≡ a
kept-same a b e = ap (take (length a)) e ∙ take-length a

pub kept-more : (a b x : List ℕ) → b ≡ a ++ x → take (length a) b ≡ a
kept-more a b x e = ap (take (length a)) e ∙ take-append_seam a x

pub kept-then : (a b c : List ℕ) → take (length a) b ≡ a → take (length b) c ≡ b → take (length a) c ≡ a
kept-then a b c first second =
    let within : length a ≤ length b = omega (arith, ap length first, length-take (length a) b) in
    sym (take-take (length a) (length b) c within) ∙ ap (take (length a)) second ∙ first

-- by a call that appends, or else leaves all as it was
pub kept-either : {T E : Type 0} (r : Result T E) (a b x : List ℕ) → OnOk r (b ≡ a ++ x) → OnErr r (b ≡ a) → take (length a) b ≡ a
kept-either (Ok t) a b x ok err = kept-more a b x ok
kept-either (Err e) a b x ok err = kept-same a b err
