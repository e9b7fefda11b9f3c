-- No command has as many octets as are kept of a line.
use Rattle.std.proofs.Common.{◌≡◌, ◌∙◌, ◌<◌, ◌≤◌, ℕ, Bool, true, false, List, Option, Some, None, cond, length, take, drop, nat_le, nat_lt, leb-true, leb-false, codes, refl, ap, sym, arith, option_map}
use Rattle.std.specs.Str.{bytes_eq}
use Rattle.std.proofs.lemmas.List.{take_all, length-take-le, length-drop}
use Rattle.std.proofs.lemmas.Slice.Eq.{bytes_eq-Decides}
use Rattle.h2_spec.specs.Texts.Script.{max_u32}
use Rattle.h2_spec.specs.Texts.Debug.{AtPosition, OnType, OnStream, OnSent}
use Rattle.h2_debug.specs.Commands.{Step, Back, Go, BreakOn, behind, break_of, command_of, longest, numbered, read_behind, word_of}

-- more than 10 digits are no number
number-long : {R : Type 0} (make : ℕ → R) (most : ℕ) (text : List ℕ) → 10 < length text → numbered make most text ≡ None
number-long make most text long =
    let some : nat_lt 0 (length text) ≡ true = grind (arith, long) in
    let few : nat_le (length text) 10 ≡ false = grind (arith, long) in
    rw (some, few) refl

-- a text that is none after a word, and none otherwise
read-none : {R : Type 0} (word text : List ℕ) (read : List ℕ → Option R) (other : Option R) → read (drop (length word) text) ≡ None → other ≡ None
    → read_behind (behind word text) read other ≡ None
read-none word text read other r o = go (bytes_eq (take (length word) text) word)
  where
    go : (b : Bool) → read_behind (cond b (Some (drop (length word) text)) None) read other ≡ None
    go true = r
    go false = o

break-long : (text : List ℕ) → 18 ≤ length text → break_of text ≡ None
break-long text long =
    read-none (codes "at ") text (numbered AtPosition max_u32) _ (number-long AtPosition max_u32 (drop 3 text) (omega (arith, length-drop 3 text)))
    (read-none (codes "type ") text (numbered OnType 255) _ (number-long OnType 255 (drop 5 text) (omega (arith, length-drop 5 text)))
    (read-none (codes "stream ") text (numbered OnStream max_u32) _ (number-long OnStream max_u32 (drop 7 text) (omega (arith, length-drop 7 text)))
    (read-none (codes "sent ") text (numbered OnSent 255) _ (number-long OnSent 255 (drop 5 text) (omega (arith, length-drop 5 text))) refl)))

-- texts of different lengths are not equal
unequal : (line word : List ℕ) → length word < length line → bytes_eq line word ≡ false
unequal line word long = go (bytes_eq line word) refl
  where
    go : (b : Bool) → bytes_eq line word ≡ b → bytes_eq line word ≡ false
    go false e = e
    go true e = absurd (omega (arith, ap length ((bytes_eq-Decides line word).0 e)))

word-long : (line : List ℕ) → 24 ≤ length line → word_of line ≡ None
word-long line long =
    let run : bytes_eq line (codes "run") ≡ false = unequal line (codes "run") (omega arith) in
    let clear : bytes_eq line (codes "clear") ≡ false = unequal line (codes "clear") (omega arith) in
    let show : bytes_eq line (codes "show") ≡ false = unequal line (codes "show") (omega arith) in
    let why : bytes_eq line (codes "why") ≡ false = unequal line (codes "why") (omega arith) in
    rw (run, clear, show, why) refl

command-long : (line : List ℕ) → longest ≤ length line → command_of line ≡ None
command-long line long =
    read-none (codes "step ") line (numbered Step max_u32) _ (number-long Step max_u32 (drop 5 line) (omega (arith, length-drop 5 line)))
    (read-none (codes "back ") line (numbered Back max_u32) _ (number-long Back max_u32 (drop 5 line) (omega (arith, length-drop 5 line)))
    (read-none (codes "go ") line (numbered Go max_u32) _ (number-long Go max_u32 (drop 3 line) (omega (arith, length-drop 3 line)))
    (read-none (codes "break ") line (λ (rest : List ℕ). option_map BreakOn (break_of rest)) _ (ap (option_map BreakOn) (break-long (drop 6 line) (omega (arith, length-drop 6 line)))) (word-long line long))))

-- a line and its first octets ask for the same
pub command-short : (line : List ℕ) → command_of (take longest line) ≡ command_of line
command-short line = go (nat_le longest (length line)) refl
  where
    go : (b : Bool) → nat_le longest (length line) ≡ b → command_of (take longest line) ≡ command_of line
    go true e =
        let long : longest ≤ length line = leb-true _ _ e in
        command-long (take longest line) (omega (arith, length-take-le longest line long)) ∙ sym (command-long line long)
    go false e = ap command_of (take_all longest line (omega (arith, leb-false _ _ e)))
