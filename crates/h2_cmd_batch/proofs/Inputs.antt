-- What a reader gave, read after read.
use Rattle.std.proofs.Common.{◌≡◌, ◌∙◌, ◌<◌, ℕ, List, ◌++◌, Option, Some, None, length, arith, ap, sym}
use Rattle.std.proofs.lemmas.List.{append_assoc, append-nil, length-append}
use Rattle.std.specs.Io.KnownBytes.{Consumes, IsAtEnd}
use Rattle.h2_cmd_batch.specs.Input.{most}

pub read-more : (old mid new : Option (List ℕ)) (xs ys : List ℕ) → Consumes old mid xs → Consumes mid new ys → Consumes old new (xs ++ ys)
read-more None mid new xs ys x y = tt
read-more (Some a) None new xs ys x y = absurd x
read-more (Some a) (Some b) None xs ys x y = absurd y
read-more (Some a) (Some b) (Some c) xs ys x y = x ∙ ap (λ (t : List ℕ). xs ++ t) y ∙ sym (append_assoc xs ys c)

pub read-whole : (old new : Option (List ℕ)) (xs known : List ℕ) → Consumes old new xs → IsAtEnd new → old ≡ Some known → xs ≡ known
read-whole None new xs known x end e = cc
read-whole (Some a) None xs known x end e = absurd x
read-whole (Some a) (Some b) xs known x end e =
    let same : a ≡ known = cc in
    sym (append-nil xs) ∙ ap (λ (t : List ℕ). xs ++ t) (sym end) ∙ sym x ∙ same

pub read-long : (old new : Option (List ℕ)) (xs known : List ℕ) → Consumes old new xs → most < length xs → old ≡ Some known → most < length known
read-long None new xs known x long e = cc
read-long (Some a) None xs known x long e = absurd x
read-long (Some a) (Some b) xs known x long e =
    let same : a ≡ known = cc in
    omega (arith, long, ap length same, ap length x, length-append xs b)
