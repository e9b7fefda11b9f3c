-- Front all elements step by step, and from octets in pieces.
use Rattle.std.proofs.Common.{◌≡◌, ℕ, zero, suc, ◌<◌, ◌≤◌, List, [], ◌++◌, length, drop, refl, sym, ap, arith, length-drop}
use Rattle.std.proofs.lemmas.List.{drop-append-le}
use Rattle.h2_spec.specs.Frames.Parse.{Front, Stop, One, Parsed, after_one, parse_first, parse_upto, parse_all}

-- a thing takes at least one octet, and no more than there are
abbrev pub Uses : {S E : Type 0} → List ℕ → Front S E → Type 0
Uses b Stop = Unit {0}
Uses b (One e t used) = (0 < used) × (used ≤ length b)

-- a thing that is there is there with more octets after it
abbrev pub Stays : {S E : Type 0} → Front S E → Front S E → Type 0
Stays Stop y = Unit {0}
Stays (One e t used) y = y ≡ One e t used

-- what was taken, and then what is taken from the rest and more octets
abbrev pub joined : {S E : Type 0} → (S → List ℕ → Front S E) → Parsed S E → List ℕ → Parsed S E
joined next t c = let more = parse_all next t.state (t.rest ++ c) in record { elements = t.elements ++ more.elements; state = more.state; rest = more.rest }

module _ {S E : Type 0} (next : S → List ℕ → Front S E) (uses : (s : S) (b : List ℕ) → Uses b (next s b)) where
  at_end : (s : S) (b : List ℕ) (x : Front S E) (f : S → List ℕ → Parsed S E) → length b ≤ 0 → Uses b x → parse_first s b x f ≡ record { elements = []; state = s; rest = b }
  at_end s b Stop f h u = refl
  at_end s b (One e t used) f h u = absurd (omega arith)

  -- turns beyond the octets change nothing
  pub parse_upto-enough : (m n : ℕ) (s : S) (b : List ℕ) → length b ≤ m → length b ≤ n → parse_upto next m s b ≡ parse_upto next n s b
  parse_upto-enough zero zero s b h g = refl
  parse_upto-enough zero (suc n) s b h g = sym (at_end s b (next s b) (λ t rest. parse_upto next n t rest) h (uses s b))
  parse_upto-enough (suc m) zero s b h g = at_end s b (next s b) (λ t rest. parse_upto next m t rest) g (uses s b)
  parse_upto-enough (suc m) (suc n) s b h g = same (λ t c. parse_upto-enough m n t c) (next s b) (uses s b)
    where
      same : ((t : S) (c : List ℕ) → length c ≤ m → length c ≤ n → parse_upto next m t c ≡ parse_upto next n t c) →
          (x : Front S E) → Uses b x → parse_first s b x (λ t rest. parse_upto next m t rest) ≡ parse_first s b x (λ t rest. parse_upto next n t rest)
      same more Stop u = refl
      same more (One e t used) u =
          let shorter = length-drop used b in
          ap (after_one e) (more t (drop used b) (omega arith) (omega arith))

  -- all elements are the first, if there is one, and then all of the rest
  pub parse_all-step : (s : S) (b : List ℕ) → parse_all next s b ≡ parse_first s b (next s b) (λ t rest. parse_all next t rest)
  unfolding parse_all
  parse_all-step s b = go (length b) refl
    where
      follow : (n : ℕ) (x : Front S E) → length b ≤ suc n → Uses b x → parse_first s b x (λ t rest. parse_upto next n t rest) ≡ parse_first s b x (λ t rest. parse_upto next (length rest) t rest)
      follow n Stop h u = refl
      follow n (One e t used) h u =
          let shorter = length-drop used b in
          ap (after_one e) (parse_upto-enough n (length (drop used b)) t (drop used b) (omega arith) (omega arith))

      go : (n : ℕ) → length b ≡ n → parse_upto next n s b ≡ parse_first s b (next s b) (λ t rest. parse_upto next (length rest) t rest)
      go zero e = sym (at_end s b (next s b) _ (omega arith) (uses s b))
      go (suc n) e = follow n (next s b) (omega arith) (uses s b)

  module _ (stays : (s : S) (b c : List ℕ) → Stays (next s b) (next s (b ++ c))) where
    -- octets in two pieces are taken as their sum is
    pub parse_all-append : (n : ℕ) (s : S) (b c : List ℕ) → length b ≤ n → parse_all next s (b ++ c) ≡ joined next (parse_all next s b) c
    parse_all-append zero s b c h = at (next s b) (uses s b) refl
      where
        at : (x : Front S E) → Uses b x → next s b ≡ x → parse_all next s (b ++ c) ≡ joined next (parse_all next s b) c
        at Stop u e = rw (parse_all-step s b, e) refl
        at (One e t used) u g = absurd (omega arith)
    parse_all-append (suc n) s b c h = at (λ t d. parse_all-append n t d c) (next s b) (uses s b) (stays s b c) refl
      where
        at : ((t : S) (d : List ℕ) → length d ≤ n → parse_all next t (d ++ c) ≡ joined next (parse_all next t d) c) →
            (x : Front S E) → Uses b x → Stays x (next s (b ++ c)) → next s b ≡ x → parse_all next s (b ++ c) ≡ joined next (parse_all next s b) c
        at more Stop u y e = rw (parse_all-step s b, e) refl
        at more (One e t used) u y g =
            let shorter = length-drop used b in
            rw (parse_all-step s (b ++ c), y, parse_all-step s b, g, drop-append-le used b c u.1)
            (ap (after_one e) (more t (drop used b) (omega arith)))
