-- The frame at the front of octets.
use Rattle.std.proofs.Common.{◌≡◌, ℕ, ◌+◌, ◌-◌, ◌≤◌, List, length, take, drop, nat_lt, cond, true, false, Bool, Some, None, refl, ap, ◌∙◌, sym, arith, length-drop}
use Rattle.std.proofs.lemmas.Bool.Decides.{nat_tests}
use Rattle.std.proofs.lemmas.List.{drop-drop}
use Rattle.h2_spec.specs.Frames.Frame.{head_at, head_of}
use Rattle.h2_spec.specs.declared.frames.Head.{Head}
use Rattle.h2_explain_words.specs.Sent.{first_frame}

whole-head : (b : List ℕ) (h : Head) → Some h ≡ head_at b → 9 ≤ length b
unfolding head_at
whole-head b h e = by (nat_lt (length b) 9) refl e
  where
    by : (t : Bool) → nat_lt (length b) 9 ≡ t → Some h ≡ cond t None (Some (head_of b)) → 9 ≤ length b
    by true k e = absurd cc
    by false k e = grind (arith, nat_tests, k)

pub frame-found : (b rest : List ℕ) (h : Head) → Some h ≡ head_at b → rest ≡ drop 9 b → h.length ≤ length rest → Some (record { head = h; payload = take h.length rest; rest = drop h.length rest }) ≡ first_frame b
frame-found b rest h e r enough =
    let nine = whole-head b h e in
    let count : length rest ≡ length b - 9 = ap length r ∙ length-drop 9 b in
    let all : 9 + h.length ≤ length b = omega (arith, nine, count, enough) in
    let whole : nat_lt (length b) (9 + h.length) ≡ false = grind (arith, nat_tests, all) in
    rw (sym e, whole, r, drop-drop h.length 9 b) refl
