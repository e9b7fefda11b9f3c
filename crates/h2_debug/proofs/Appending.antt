-- What an output has after a text.
use Rattle.std.proofs.Common.{◌≡◌, ◌∙◌, ℕ, List, ◌++◌, Option, Some, None, ap, append_assoc}
use Rattle.std.specs.Io.KnownBytes.{Appends, Keeps}

-- a text, and nothing after it
pub kept : (old mid new : Option (List ℕ)) (xs : List ℕ) → Appends old mid xs → Keeps mid new → Appends old new xs
kept None mid new xs x y = tt
kept (Some a) None new xs x y = absurd x
kept (Some a) (Some b) None xs x y = absurd y
kept (Some a) (Some b) (Some c) xs x y = y ∙ x

-- what is known before is known after
pub appended : (before after : Option (List ℕ)) (held xs : List ℕ) → before ≡ Some held → Appends before after xs → after ≡ Some (held ++ xs)
appended None after held xs e x = absurd (cc e)
appended (Some a) None held xs e x = absurd x
appended (Some a) (Some b) held xs e x =
    let same : a ≡ held = cc in
    ap (λ (t : List ℕ). Some t) (x ∙ ap (λ (t : List ℕ). t ++ xs) same)

-- a text after another
pub appended-more : (before after : Option (List ℕ)) (held text xs : List ℕ) → before ≡ Some (held ++ text) → Appends before after xs → after ≡ Some (held ++ (text ++ xs))
appended-more before after held text xs e x = appended before after (held ++ text) xs e x ∙ ap (λ (t : List ℕ). Some t) (append_assoc held text xs)
