-- A line that is taken octet by octet.
use Rattle.std.proofs.Common.{◌≡◌, ◌∙◌, ◌+◌, ◌<◌, ◌≤◌, ℕ, zero, suc, Bool, true, false, List, [], ◌∷◌, ◌++◌, Option, Some, None, length, take, nat_eq, nat_le, leb-true, leb-false, refl, ap, sym, append_assoc, arith}
use Rattle.std.proofs.lemmas.List.Folds.{list_any-append}
use Rattle.memchr.specs.Find.{Nowhere, Passes, is_byte}
use Rattle.std.proofs.lemmas.List.{append-nil, length-append, take_all, take-append-le, length-take-le}
use Rattle.std.specs.Io.KnownBytes.{Consumes, IsAtEnd}
use Rattle.h2_debug.specs.Commands.{longest}
use Rattle.h2_debug.specs.Reading.{IsPlain, IsTaken, IsUnread, IsCut, TakesLast, TakesLine}
use Rattle.h2_debug.proofs.Ahead.{takes-more}

-- nothing yet
pub taken-none : (before : Option (List ℕ)) (first : ℕ) → IsTaken before before first first []
taken-none None first = record { plain = refl; taken = tt; passed = omega arith }
taken-none (Some octets) first = record { plain = refl; taken = refl; passed = omega arith }

plain-first : (x : ℕ) (xs ys : List ℕ) (b : Bool) → nat_eq x 10 ≡ b → IsPlain (x ∷ xs) → (IsPlain xs → IsPlain ys) → IsPlain (x ∷ ys)
plain-first x xs ys true q p next = absurd (cc (rw q at p))
plain-first x xs ys false q p next = rw q (next (rw q at p))

plain-more : (line : List ℕ) (octet : ℕ) → IsPlain line → nat_eq octet 10 ≡ false → IsPlain (line ++ octet ∷ [])
plain-more [] octet p e = rw e refl
plain-more (x ∷ xs) octet p e = plain-first x xs (xs ++ octet ∷ []) (nat_eq x 10) refl p (λ q. plain-more xs octet q e)

pub taken-octet : (before mid after : Option (List ℕ)) (first last next : ℕ) (line : List ℕ) (octet : ℕ) → IsTaken before mid first last line → Consumes mid after (octet ∷ [])
    → next ≡ last + 1 → nat_eq octet 10 ≡ false → IsTaken before after first next (line ++ octet ∷ [])
taken-octet before mid after first last next line octet t c n e = record {
  plain = plain-more line octet t.plain e;
  taken = takes-more before mid after line (octet ∷ []) t.taken c;
  passed = omega (arith, t.passed, n, length-append line (octet ∷ []));
}

pub taken-line : (before mid after : Option (List ℕ)) (first last next : ℕ) (line : List ℕ) (octet : ℕ) → IsTaken before mid first last line → Consumes mid after (octet ∷ [])
    → next ≡ last + 1 → octet ≡ 10 → TakesLine before after first next line
taken-line before mid after first last next line octet t c n e = record {
  plain = t.plain;
  taken = takes-more before mid after line (10 ∷ []) t.taken (rw e at c);
  passed = omega (arith, t.passed, n);
}

pub taken-last : (before mid after : Option (List ℕ)) (first last next : ℕ) (line : List ℕ) → IsTaken before mid first last line → Consumes mid after [] → IsAtEnd after
    → next ≡ last → TakesLast before after first next line
taken-last before mid after first last next line t c e n = record {
  taken = record {
    plain = t.plain;
    taken = rw append-nil at (takes-more before mid after line [] t.taken c);
    passed = omega (arith, t.passed, n);
  };
  whole = e;
}

pub taken-cut : (before mid after : Option (List ℕ)) (first last : ℕ) (failed : Bool) (line : List ℕ) → IsTaken before mid first last line → IsUnread mid after last failed
    → IsCut before after first failed
taken-cut before mid after first last failed line t u = (
  line,
  mid,
  record { plain = t.plain; taken = t.taken; unread = rw t.passed at u },
)

-- the first octets of a line, kept where there is space
pub keeps-short : (octets : List ℕ) (octet : ℕ) → length octets < longest → octets ++ octet ∷ [] ≡ take longest (octets ++ octet ∷ [])
keeps-short octets octet h = sym (take_all longest (octets ++ octet ∷ []) (omega (arith, length-append octets (octet ∷ []))))

pub keeps-full : (octets : List ℕ) (octet : ℕ) → length octets ≡ longest → octets ≡ take longest (octets ++ octet ∷ [])
keeps-full octets octet h =
    let le : longest ≤ length octets = omega arith in
    sym (rw take-append-le (take_all longest octets (omega arith)))

pub ruleset takes_short = (keeps-short, keeps-full)

-- the same of more of them
pub keeps-more : (line : List ℕ) (octet : ℕ) → take longest (take longest line ++ octet ∷ []) ≡ take longest (line ++ octet ∷ [])
keeps-more line octet = go (nat_le longest (length line)) refl
  where
    go : (b : Bool) → nat_le longest (length line) ≡ b → take longest (take longest line ++ octet ∷ []) ≡ take longest (line ++ octet ∷ [])
    go true e =
        let long : longest ≤ length line = leb-true _ _ e in
        let same : length (take longest line) ≡ longest = length-take-le longest line long in
        sym (keeps-full (take longest line) octet same) ∙ sym (take-append-le longest line (octet ∷ []) long)
    go false e =
        let short : length line ≤ longest = omega (arith, leb-false _ _ e) in
        rw (take_all longest line short) refl

pub no-octets : (line octets : List ℕ) → octets ≡ take longest line → octets ≡ [] → line ≡ []
no-octets [] octets e n = refl
no-octets (x ∷ xs) octets e n = absurd (cc (sym n ∙ e))

pub some-octets : (line octets : List ℕ) → octets ≡ take longest line → 0 < length octets → 0 < length line
some-octets [] octets e n = absurd (omega (arith, ap length e))
some-octets (x ∷ xs) octets e n = omega arith

-- the octets before the first line feed
pub plain-front : (octets : List ℕ) (n : ℕ) → n ≤ length octets → Nowhere (Passes (is_byte 10) octets) 0 n → IsPlain (take n octets)
plain-front octets zero le none = refl
plain-front [] (suc n) le none = refl
plain-front (x ∷ xs) (suc n) le none = go (nat_eq x 10) refl (plain-front xs n (omega arith) (λ k low high. none (suc k) (omega arith) (omega arith)))
  where
    go : (b : Bool) → nat_eq x 10 ≡ b → IsPlain (take n xs) → IsPlain (x ∷ take n xs)
    go true e rest = absurd (none 0 (omega arith) (omega arith) e)
    go false e rest = rw e rest

pub plain-both : (xs ys : List ℕ) → IsPlain xs → IsPlain ys → IsPlain (xs ++ ys)
plain-both xs ys p q = rw (list_any-append (λ octet. nat_eq octet 10) xs ys) (rw (p, q) refl)

-- more octets of the line
pub taken-part : (before mid after : Option (List ℕ)) (first last next : ℕ) (line part : List ℕ) → IsTaken before mid first last line → Consumes mid after part
    → next ≡ last + length part → IsPlain part → IsTaken before after first next (line ++ part)
taken-part before mid after first last next line part t c n p = record {
  plain = plain-both line part t.plain p;
  taken = takes-more before mid after line part t.taken c;
  passed = omega (arith, t.passed, n, length-append line part);
}

-- its last octets, and its line feed
pub taken-end : (before mid after : Option (List ℕ)) (first last next : ℕ) (line part : List ℕ) → IsTaken before mid first last line → Consumes mid after (part ++ 10 ∷ [])
    → next ≡ last + length (part ++ 10 ∷ []) → IsPlain part → TakesLine before after first next (line ++ part)
taken-end before mid after first last next line part t c n p = record {
  plain = plain-both line part t.plain p;
  taken = rw (append_assoc line part (10 ∷ [])) (takes-more before mid after line (part ++ 10 ∷ []) t.taken c);
  passed = omega (arith, t.passed, n, length-append line part, length-append part (10 ∷ []));
}
