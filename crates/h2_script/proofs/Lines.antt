-- Lines in turn.
use Rattle.std.proofs.Common.{◌≡◌, ◌∙◌, ◌+◌, ◌<◌, ◌≤◌, ◌++◌, ◌==◌, ℕ, true, false, List, [], ◌∷◌, Option, Some, None, Result, Ok, Err, length, refl, sym, ap, append_assoc, append-nil, arith, subst}
use Rattle.std.specs.List.{position_or_len}
use Rattle.std.proofs.lemmas.List.{get_or-take, length-append, length-take-le}
use Rattle.std.proofs.lemmas.List.Sums.{fails_before_first, prefix_len-le-length}
use Rattle.std.proofs.lemmas.List.Splits.{slice_split_at, slice_split_none}
use Rattle.h2_spec.specs.Texts.Assemble.{before, line_then, lines_at, statement_at, with_front, words_at}
use Rattle.h2_spec.specs.Texts.Script.{Nothing, Statement, cut_at, lines_of, octets_of}
use Rattle.h2_spec.specs.declared.scripts.SyntaxKind.{SyntaxKind}
use Rattle.h2_spec.proofs.ReadingWords.{cut_back, cut_none}
use Rattle.h2_spec.proofs.ScriptTexts.{Lacks}
use Rattle.h2_script.specs.Readings.{AddsAt, Refuses, says_nothing, with_octets}
use Rattle.h2_script.specs.declared.fault.ScriptFault.{ScriptFault}
use Rattle.h2_script.specs.declared.fault.ScriptFault.TheVariants.{NoMemory, Syntax}

-- a line that is empty or a comment says nothing
pub statement_nothing : (line : List ℕ) → says_nothing line ≡ true → statement_at line ≡ Ok Nothing
unfolding statement_at
statement_nothing [] nothing = refl
statement_nothing (c ∷ cs) nothing = rw nothing refl

-- another line is read by its words
pub statement_words : (line : List ℕ) (words : Option (List ℕ × List ℕ)) → says_nothing line ≡ false → words ≡ cut_at 32 line → words_at line words ≡ statement_at line
unfolding statement_at
statement_words [] words some cut = absurd (cc)
statement_words (c ∷ cs) words some cut = ap (words_at (c ∷ cs)) cut ∙ rw some refl

before_lacks : (c : ℕ) (xs : List ℕ) → Lacks c (before c xs)
before_lacks c xs k d lt =
    let n = position_or_len (λ b. b == c) xs in
    let within : n ≤ length xs = prefix_len-le-length _ xs in
    let near : k < n = omega (arith, length-take-le n xs within) in
    rw (get_or-take n xs k d near) (fails_before_first (λ b. b == c) xs k d near)

pub lines_cut : (t line more : List ℕ) → Some (line, more) ≡ cut_at 10 t → (lines_of t ≡ line ∷ lines_of more) × (length more + 1 ≤ length t)
lines_cut t line more e =
    let cells = (cut_back 10 t line more (sym e)).0 in
    let size : length t ≡ length line + length (10 ∷ more) = ap length cells ∙ length-append line (10 ∷ more) in
    (ap lines_of cells ∙ slice_split_at (λ b. b == 10) line 10 more (subst (Lacks 10) (cut_back 10 t line more (sym e)).1 (before_lacks 10 t)) refl, omega arith)

pub lines_last : (t : List ℕ) → None ≡ cut_at 10 t → lines_of t ≡ t ∷ []
lines_last t e = slice_split_none (λ b. b == 10) t (subst (Lacks 10) (cut_none 10 t (sym e)) (before_lacks 10 t))

front_twice : (a b : List ℕ) (r : Result (List ℕ) (ℕ × SyntaxKind)) → with_front (a ++ b) r ≡ with_front a (with_front b r)
front_twice a b (Ok c) = ap (λ (x : List ℕ). Ok x) (append_assoc a b c)
front_twice a b (Err e) = refl

pub added : (n : ℕ) (old new line : List ℕ) (lines : List (List ℕ)) → with_octets old (statement_at line) ≡ Ok new
    → with_front new (lines_at (n + 1) lines) ≡ with_front old (lines_at n (line ∷ lines))
added n old new line lines h = go (statement_at line) refl h
  where
    go : (r : Result Statement SyntaxKind) → statement_at line ≡ r → with_octets old r ≡ Ok new → with_front new (lines_at (n + 1) lines) ≡ with_front old (line_then n r (lines_at (n + 1) lines))
    go (Ok s) e k = let same : old ++ octets_of s ≡ new = cc in ap (λ (x : List ℕ). with_front x (lines_at (n + 1) lines)) (sym same) ∙ front_twice old (octets_of s) (lines_at (n + 1) lines)
    go (Err kind) e k = absurd (cc)

-- the exit by a refused line
pub refused : (n : ℕ) (old new line : List ℕ) (lines : List (List ℕ)) (e : ScriptFault) (whole : Result (List ℕ) (ℕ × SyntaxKind))
    → AddsAt n old new (Err e) (statement_at line) → with_front old (lines_at n (line ∷ lines)) ≡ whole → Refuses e whole
refused n old new line lines NoMemory whole h is = tt
refused n old new line lines (Syntax k kind) whole h is = sym is ∙ rw (h.1, ← h.0) refl

pub ended : (n : ℕ) (old new line : List ℕ) → with_octets old (statement_at line) ≡ Ok new → with_front old (lines_at n (line ∷ [])) ≡ Ok new
ended n old new line h = sym (added n old new line [] h) ∙ ap (λ (x : List ℕ). Ok x) (append-nil new)
