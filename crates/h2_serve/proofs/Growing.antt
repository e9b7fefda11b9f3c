-- Lists that grow at their end.
use Rattle.std.proofs.Common.{◌≡◌, ◌∙◌, ℕ, ◌+◌, ◌≤◌, length, List, [], ◌++◌, take, drop, Option, Some, None, refl, ap, sym, append_assoc}
use Rattle.std.proofs.lemmas.List.{append-nil, take-append-drop, take-append-le, take_all}
use Rattle.std.proofs.Math.Seq.{take-add}
use Rattle.h2_serve.specs.Wires.{Writes, grown}

pub grown-nil : {X : Type 0} → (known : Option (List X)) → grown known [] ≡ known
grown-nil None = refl
grown-nil (Some xs) = ap Some (append-nil xs)

pub grown-grown : {X : Type 0} → (known : Option (List X)) (a b : List X)
    → grown (grown known a) b ≡ grown known (a ++ b)
grown-grown None a b = refl
grown-grown (Some xs) a b = ap Some (append_assoc xs a b)

-- the next octets of a list are written
pub grown-take : (known : Option (List ℕ)) (xs : List ℕ) (i n : ℕ)
    → grown (grown known (take i xs)) (take n (drop i xs)) ≡ grown known (take (i + n) xs)
grown-take known xs i n = grown-grown known (take i xs) (take n (drop i xs)) ∙ ap (grown known) (sym (take-add i n xs))

pub ruleset growing = (grown-take, grown-nil)

-- nothing is written
pub writes-none : (known : Option (List ℕ)) (out : List ℕ) → Writes known out known out
writes-none known out = record { octets = []; known_is = sym (grown-nil known); whole = refl }

-- all octets are written
pub writes-all : (known : Option (List ℕ)) (out : List ℕ) (n : ℕ) (new : Option (List ℕ)) (rest : List ℕ) → new ≡ grown known (take n out) → length out ≤ n → rest ≡ [] → Writes known out new rest
writes-all known out n new rest e h f = record {
  octets = out;
  known_is = e ∙ ap (λ (xs : List ℕ). grown known xs) (take_all n out h);
  whole = ap (λ (xs : List ℕ). out ++ xs) f ∙ append-nil out;
}

-- the first octets are written, and the others are left
pub writes-first : (known : Option (List ℕ)) (out : List ℕ) (n : ℕ) (new : Option (List ℕ)) (rest : List ℕ) → new ≡ grown known (take n out) → rest ≡ drop n out → Writes known out new rest
writes-first known out n new rest e f = record {
  octets = take n out;
  known_is = e;
  whole = ap (λ (xs : List ℕ). take n out ++ xs) f ∙ take-append-drop n out;
}

-- the first of the octets that are left are written
pub writes-more : (known : Option (List ℕ)) (out : List ℕ) (mid : Option (List ℕ)) (left : List ℕ) (n : ℕ) (new : Option (List ℕ)) (rest : List ℕ)
    → Writes known out mid left → new ≡ grown mid (take n left) → rest ≡ drop n left → Writes known out new rest
writes-more known out mid left n new rest w e f = record {
  octets = w.octets ++ take n left;
  known_is = e ∙ ap (λ (k : Option (List ℕ)). grown k (take n left)) w.known_is ∙ grown-grown known w.octets (take n left);
  whole =
      ap (λ (xs : List ℕ). (w.octets ++ take n left) ++ xs) f
      ∙ append_assoc w.octets (take n left) (drop n left)
      ∙ ap (λ (xs : List ℕ). w.octets ++ xs) (take-append-drop n left)
      ∙ w.whole;
}

-- the first octets of those in front
pub front-take : (n : ℕ) (front all : List ℕ) → front ≡ take (length front) all → n ≤ length front → take n front ≡ take n all
front-take n front all e h =
    sym (take-append-le n front (drop (length front) all) h)
    ∙ ap (λ (xs : List ℕ). take n (xs ++ drop (length front) all)) e
    ∙ ap (take n) (take-append-drop (length front) all)

-- nothing is written, and the wire reports the same
pub writes-same : (known known' : Option (List ℕ)) (out : List ℕ) → known' ≡ known → Writes known out known' out
writes-same known known' out e = record { octets = []; known_is = e ∙ sym (grown-nil known); whole = refl }
