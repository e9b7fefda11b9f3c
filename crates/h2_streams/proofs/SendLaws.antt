-- Send windows apart from their records, and together again.
use Rattle.std.proofs.Common.{◌≡◌, ℕ, zero, suc, ◌+◌, ◌<◌, List, [], ◌∷◌, ◌++◌, length, take, map, ℤ, refl, ap, ◌∙◌, sym, arith, get_or}
use Rattle.std.proofs.lemmas.List.{length-map, map-append, take_more}
use Rattle.h2_spec.specs.declared.streams.Stream.{Stream}
use Rattle.h2_spec.specs.Change.{with_send}
use Rattle.h2_streams.specs.Sends.{send_of, with_sends, without_send}

-- one more of a mapped list
pub mapped-more : {X Y : Type 0} (f : X → Y) (xs : List X) (ys : List Y) (i : ℕ) (x : X) (y : Y) → ys ≡ map f (take i xs) → i < length xs → x ≡ get_or xs i x → y ≡ f x → ys ++ y ∷ [] ≡ map f (take (i + 1) xs)
mapped-more f xs ys i x y same inside at is =
    ap (λ s. s ++ y ∷ []) same ∙ ap (λ z. map f (take i xs) ++ z ∷ []) (is ∙ ap f at) ∙ sym (map-append f (take i xs) (get_or xs i x ∷ [])) ∙ ap (map f) (sym (take_more xs i x inside))

pub apart-joined : (xs : List Stream) → with_sends (map without_send xs) (map send_of xs) ≡ xs
apart-joined [] = refl
apart-joined (x ∷ xs) = ap (λ ys. x ∷ ys) (apart-joined xs)

pub apart-alike : (xs : List Stream) → length (map send_of xs) ≡ length (map without_send xs)
apart-alike xs = length-map xs send_of ∙ sym (length-map xs without_send)

pub length-joined : (xs : List Stream) (ws : List ℤ) → length ws ≡ length xs → length (with_sends xs ws) ≡ length xs
length-joined [] ws e = refl
length-joined (x ∷ xs) [] e = omega (arith, e)
length-joined (x ∷ xs) (w ∷ ws) e = let rest = length-joined xs ws (omega (arith, e)) in omega (arith, rest)

none-below : (i : ℕ) → i < 0 → ⊥
none-below i l = omega (arith, l)

none-long : (xs : List Stream) → 0 ≡ suc (length xs) → ⊥
none-long xs e = omega (arith, e)

joined-at : (xs : List Stream) (ws : List ℤ) (i : ℕ) (d : Stream) (e : ℤ) (f : Stream) → length ws ≡ length xs → i < length xs → get_or (with_sends xs ws) i f ≡ with_send (get_or xs i d) (get_or ws i e)
joined-at [] ws i d e f same l = absurd (none-below i l)
joined-at (x ∷ xs) [] i d e f same l = absurd (none-long xs same)
joined-at (x ∷ xs) (w ∷ ws) zero d e f same l = refl
joined-at (x ∷ xs) (w ∷ ws) (suc i) d e f same l = joined-at xs ws i d e f (omega (arith, same)) (omega (arith, l))

-- one more joined
pub joined-more : (xs : List Stream) (ws : List ℤ) (i : ℕ) (x : Stream) (w : ℤ) → length ws ≡ length xs → i < length xs → x ≡ get_or xs i x → w ≡ get_or ws i w
    → take (i + 1) (with_sends xs ws) ≡ take i (with_sends xs ws) ++ with_send x w ∷ []
joined-more xs ws i x w same l at-x at-w =
    let long = length-joined xs ws same in
    let last = joined-at xs ws i x w x same l ∙ ap (λ y. with_send y (get_or ws i w)) (sym at-x) ∙ ap (λ z. with_send x z) (sym at-w) in
    take_more (with_sends xs ws) i x (omega (arith, long, l)) ∙ ap (λ y. take i (with_sends xs ws) ++ y ∷ []) last
