-- The texts of a connection that is served, each line after its number.
use Rattle.std.specs.Prelude.{◌≡◌, ◌≢◌, ℕ, ◌+◌, ◌<◌, ◌++◌, ◌==◌, length, slice_index, Bool, true, false, List, [], ◌∷◌, Option, None, codes, decimal}
use Rattle.std.specs.Io.KnownBytes.{Appends}
use Rattle.h2_spec.specs.Texts.Show.{joined}
use Rattle.h2_serve.specs.Faults.{failed_by}
use Rattle.h2_serve.specs.Serves.{Grew}
use Rattle.h2_serve.specs.declared.fault.TextFault.{TextFault}

-- what each line of a connection begins with: its number; in JSON its first member
unfoldable pub prefix_of : (json : Bool) → (number : ℕ) → List ℕ
prefix_of false number = joined (decimal number ∷ codes ": " ∷ [])
prefix_of true number = joined (codes "{\"connection\":" ∷ decimal number ∷ codes "," ∷ [])

-- an octet after the prefix where it begins a line; in JSON it is {, and the prefix takes its place
abbrev pub prefixed_octet : (prefix : List ℕ) → (json fresh : Bool) → ℕ → List ℕ
prefixed_octet prefix json false c = c ∷ []
prefixed_octet prefix false true c = prefix ++ c ∷ []
prefixed_octet prefix true true c = prefix

-- a text with the prefix before each of its lines; `fresh` is whether a line begins with it
abbrev pub prefixed : (prefix : List ℕ) → (json fresh : Bool) → List ℕ → List ℕ
prefixed prefix json fresh [] = []
prefixed prefix json fresh (c ∷ t) = prefixed_octet prefix json fresh c ++ prefixed prefix json (c == 10) t

-- octets that have a line feed at most at their end
abbrev pub IsLine : List ℕ → Type 0
IsLine xs = (k : ℕ) → k + 1 < length xs → slice_index xs k ≢ 10

-- whether a line begins after a text
abbrev pub fresh_after : Bool → List ℕ → Bool
fresh_after fresh [] = fresh
fresh_after fresh (c ∷ t) = fresh_after (c == 10) t

-- unless something was not printed, the output gained this text, its lines after the prefix
abbrev pub PrintsPrefixed : (prefix : List ℕ) → (json fresh : Bool) → (fault : Option TextFault) → (before : Option (List ℕ))
    → List ℕ → (fresh' : Bool) → (fault' : Option TextFault) → (after : Option (List ℕ)) → Type 0
PrintsPrefixed prefix json fresh fault before t fresh' fault' after =
    fault' ≡ None → (fault ≡ None) × (fresh' ≡ fresh_after fresh t) × Appends before after (prefixed prefix json fresh t)

-- unless the output failed, it gained some text; what failed earlier has failed
abbrev pub Grows : (fault fault' : Option TextFault) → (before after : Option (List ℕ)) → Type 0
Grows fault fault' before after = (failed_by fault ≡ true → failed_by fault' ≡ true) × (failed_by fault' ≡ false → Grew before after)

-- what is printed of what was gathered: nothing where memory for some of it was refused
abbrev pub gathered_text : (failed : Bool) → List ℕ → List ℕ
gathered_text true t = []
gathered_text false t = t
