-- What a line of a case file says, from its first octets.
use Rattle.std.proofs.Common.{◌≡◌, ◌∙◌, ◌&&◌, ◌==◌, ℕ, Bool, true, false, true≢false, cond, List, [], ◌∷◌, Option, Some, None, is_some, take, refl, sym, ap, eqb-true, eq-eqb}
use Rattle.std.proofs.Math.Bool.{and-true}
use Rattle.std.specs.Prelude.{codes, nat_eq}
use Rattle.std.specs.Str.{bytes_eq}
use Rattle.h2_cmd_cases.specs.Files.{title_said}
use Rattle.h2_cmd_cases.specs.Lines.{CaseLine, Script, Title, Words, Sent, Shown, Cause, Reason, Explained, Command, Unspaced, begins, behind, expectation_said, line_said, said_behind}

swapped : (a b : ℕ) → nat_eq a b ≡ false → nat_eq b a ≡ false
swapped a b e = at (nat_eq b a) refl
  where
    at : (x : Bool) → nat_eq b a ≡ x → nat_eq b a ≡ false
    at true is = absurd (true≢false (sym (eq-eqb a b (sym (eqb-true b a is))) ∙ e))
    at false is = is

-- a line that does not begin with a semicolon is one of the script
pub script_is : (line : List ℕ) → bytes_eq (take 1 line) (codes ";") ≡ false → line_said line ≡ Script line
script_is [] e = refl
script_is (c ∷ cs) e =
    let one : nat_eq c 59 ≡ false = sym (and-true (nat_eq c 59)) ∙ e in
    rw (one, swapped c 59 one) refl

-- one with another mark has no title
untitled : (w s h c r e m : Option (List ℕ)) (b : Bool) (line : List ℕ)
    → title_said (said_behind w Words (said_behind s Sent (said_behind h Shown (said_behind c Cause (said_behind r Reason (said_behind e Explained (said_behind m Command (cond b (Unspaced line) (Script line))))))))) ≡ None
untitled (Some x) s h c r e m b line = refl
untitled None (Some x) h c r e m b line = refl
untitled None None (Some x) c r e m b line = refl
untitled None None None (Some x) r e m b line = refl
untitled None None None None (Some x) e m b line = refl
untitled None None None None None (Some x) m b line = refl
untitled None None None None None None (Some x) b line = refl
untitled None None None None None None None true line = refl
untitled None None None None None None None false line = refl

titled : (title : Option (List ℕ)) (other : CaseLine) → title_said other ≡ None → title_said (said_behind title Title other) ≡ title
titled (Some text) other none = refl
titled None other none = none

-- a title is what follows its mark
pub title_is : (line : List ℕ) → title_said (line_said line) ≡ behind (codes ";# ") line
title_is line = titled (behind (codes ";# ") line) _ (untitled (behind (codes ";@ ") line) (behind (codes ";< ") line) (behind (codes ";= ") line) (behind (codes ";! ") line) (behind (codes ";? ") line) (behind (codes ";> ") line) (behind (codes ";& ") line) _ line)

pub begins_is : (said : CaseLine) → begins said ≡ is_some (title_said said)
begins_is (Title text) = refl
begins_is (Unspaced text) = refl
begins_is (Script text) = refl
begins_is (Words text) = refl
begins_is (Sent text) = refl
begins_is (Shown text) = refl
begins_is (Cause text) = refl
begins_is (Reason text) = refl
begins_is (Explained text) = refl
begins_is (Command text) = refl
