-- What is given of an input, line after line.
use Rattle.std.proofs.Common.{◌≡◌, ◌∙◌, ◌+◌, ◌-◌, ◌<◌, ◌≤◌, ℕ, Bool, true, false, List, [], ◌∷◌, ◌++◌, Option, Some, None, length, take, nat_le, leb-true, leb-false, cond, refl, ap, sym, inl, inr, arith}
use Rattle.std.proofs.lemmas.List.{append_assoc, append-nil, length-append, take_all, take-append-le}
use Rattle.std.proofs.Math.Seq.{take-append-add}
use Rattle.std.specs.Io.KnownBytes.{Consumes, IsAtEnd, Keeps}
use Rattle.h2_debug.specs.Lines.{ended_lines, lines_of}
use Rattle.h2_debug.specs.Reading.{IsCut, IsPlain, TakesLast, TakesLine, most}
use Rattle.h2_debug.specs.Session.{IsGiven}
use Rattle.h2_debug.proofs.Lines.{ended-first, ended-none, lines-first, lines-last}

-- what is known before is known after
pub known : (before after : Option (List ℕ)) (octets xs : List ℕ) → before ≡ Some octets → Consumes before after xs → (more : List ℕ) × (after ≡ Some more) × (octets ≡ xs ++ more)
known None after octets xs e c = absurd (cc e)
known (Some a) None octets xs e c = absurd c
known (Some a) (Some b) octets xs e c = let same : a ≡ octets = cc in (b, refl, sym same ∙ c)

pub kept-known : (before after : Option (List ℕ)) (octets : List ℕ) → before ≡ Some octets → Keeps before after → after ≡ Some octets
kept-known None after octets e k = absurd (cc e)
kept-known (Some a) None octets e k = absurd k
kept-known (Some a) (Some b) octets e k = ap (λ (t : List ℕ). Some t) k ∙ e

pub none-left : (after : Option (List ℕ)) (more : List ℕ) → after ≡ Some more → IsAtEnd after → more ≡ []
none-left None more e n = absurd (cc e)
none-left (Some a) more e n = let same : a ≡ more = cc in sym same ∙ n

both-le : (a b c d : ℕ) (x : Bool) → nat_le a b ≡ x → (a ≤ b → c ≤ d) → (c ≤ d → a ≤ b) → nat_le c d ≡ x
both-le a b c d true e f g = grind (arith, leb-true, f (leb-true a b e))
both-le a b c d false e f g = go (nat_le c d) refl
  where
    go : (y : Bool) → nat_le c d ≡ y → y ≡ false
    go false h = refl
    go true h = let le : a ≤ b = g (leb-true c d h) in absurd (omega (arith, leb-false a b e, le))

-- one line more, where the input is not cut by a failure
line-within : (b : Bool) (line more lines-octets : List ℕ) (cut : ℕ) (lines : List (List ℕ)) → IsPlain line
    → lines ≡ cond b (lines_of more) (ended_lines (take cut more))
    → line ∷ lines ≡ cond b (lines_of ((line ++ 10 ∷ []) ++ more)) (ended_lines (take (length (line ++ 10 ∷ []) + cut) ((line ++ 10 ∷ []) ++ more)))
line-within true line more o cut lines p e = ap (λ (ls : List (List ℕ)). line ∷ ls) e ∙ sym (lines-first line more p)
line-within false line more o cut lines p e =
    ap (λ (ls : List (List ℕ)). line ∷ ls) e ∙ sym (ended-first line (take cut more) p)
    ∙ ap ended_lines (sym (take-append-add (line ++ 10 ∷ []) more cut))

pub line-given : (before after : Option (List ℕ)) (first last : ℕ) (line octets more : List ℕ) (failed : Bool) (rest : Option (List ℕ)) (lines : List (List ℕ)) (whole : Bool)
    → before ≡ Some octets → after ≡ Some more → TakesLine before after first last line → last ≤ most
    → IsGiven (most - last) more failed rest lines whole → IsGiven (most - first) octets failed rest (line ∷ lines) whole
line-given before after first last line octets more failed rest lines whole e f t le given = go failed given
  where
    split : octets ≡ (line ++ 10 ∷ []) ++ more
    split =
        let k = known before after octets (line ++ 10 ∷ []) e t.taken in
        let same : k.0 ≡ more = cc (sym k.1 ∙ f) in
        rw same at k.2

    go : (b : Bool) → IsGiven (most - last) more b rest lines whole → IsGiven (most - first) octets b rest (line ∷ lines) whole
    go true (read, left, is, cut, all, part) = (
      (line ++ 10 ∷ []) ++ read,
      left,
      is,
      split ∙ ap (λ (x : List ℕ). (line ++ 10 ∷ []) ++ x) cut ∙ sym (append_assoc (line ++ 10 ∷ []) read left),
      ap (λ (ls : List (List ℕ)). line ∷ ls) all ∙ sym (ended-first line read t.plain),
      part,
    )
    go false (all, is) =
        let long : length (line ++ 10 ∷ []) ≡ length line + 1 = length-append line (10 ∷ []) in
        let size : length octets ≡ length line + 1 + length more = omega (arith, ap length split, length-append (line ++ 10 ∷ []) more, long) in
        let limit : most - first ≡ length (line ++ 10 ∷ []) + (most - last) = omega (arith, t.passed, le, long) in
        let test : nat_le (length octets) (most - first) ≡ nat_le (length more) (most - last)
        = both-le (length more) (most - last) (length octets) (most - first) (nat_le (length more) (most - last)) refl (λ h. omega (arith, size, limit, long, h)) (λ h. omega (arith, size, limit, long, h)) in (
          all ∙ sym test,
          rw (test, limit, split) (line-within (nat_le (length more) (most - last)) line more [] (most - last) lines t.plain is),
        )

pub last-given : (before after : Option (List ℕ)) (first last : ℕ) (line octets : List ℕ) (rest : Option (List ℕ)) → before ≡ Some octets → TakesLast before after first last line
    → last ≤ most → 0 < length line → IsGiven (most - first) octets false rest (line ∷ []) true
last-given before after first last [] octets rest e t le some = absurd (omega (arith, some))
last-given before after first last (x ∷ xs) octets rest e t le some =
    let k = known before after octets (x ∷ xs) e t.taken.taken in
    let none : k.0 ≡ [] = none-left after k.0 k.1 t.whole in
    let all : octets ≡ x ∷ xs = k.2 ∙ ap (λ (y : List ℕ). (x ∷ xs) ++ y) none ∙ append-nil (x ∷ xs) in
    let size : length octets ≤ most - first = omega (arith, ap length all, t.taken.passed, le) in
    let test : nat_le (length octets) (most - first) ≡ true = grind (arith, size) in
    (sym test, rw (test, all) (sym (lines-last x xs t.taken.plain)))

pub end-given : (before after : Option (List ℕ)) (first last limit : ℕ) (octets : List ℕ) (rest : Option (List ℕ)) → before ≡ Some octets → TakesLast before after first last []
    → IsGiven limit octets false rest [] true
end-given before after first last limit octets rest e t =
    let k = known before after octets [] e t.taken.taken in
    let none : k.0 ≡ [] = none-left after k.0 k.1 t.whole in
    let all : octets ≡ [] = k.2 ∙ none in
    let test : nat_le (length octets) limit ≡ true = rw all (grind arith) in
    (sym test, rw (test, all) refl)

pub cut-given : (before after : Option (List ℕ)) (first : ℕ) (octets : List ℕ) (failed : Bool) → before ≡ Some octets → IsCut before after first failed
    → IsGiven (most - first) octets failed after [] false
cut-given before after first octets failed e (part, mid, cut) = elim cut.unread [
  | inl u ↦ let k = known before mid octets part e cut.taken in
      rw u.0 (part, k.0, kept-known mid after k.0 k.1 u.1, k.2, sym (ended-none part cut.plain), refl)
  | inr u ↦ let k = known before mid octets part e cut.taken in
      let some : 0 < length k.0 = u.2 k.0 k.1 in
      let limit : most - first ≡ length part = omega (arith, u.1) in
      let size : length octets ≡ length part + length k.0 = ap length k.2 ∙ length-append part k.0 in
      let test : nat_le (length octets) (most - first) ≡ false = grind (arith, size, limit, some) in
      let front : take (length part) octets ≡ part = rw k.2 (take-append-le (length part) part k.0 (omega arith) ∙ take_all (length part) part (omega arith)) in
      rw u.0 (sym test, rw (test, limit, front) (sym (ended-none part cut.plain)))
]
