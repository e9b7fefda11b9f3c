-- What is said one after another, with commas between, after octets that were written.
use Rattle.std.specs.Prelude.{ℕ, List, ◌++◌, Option, option_map, flat_map}
use Rattle.h2_spec.specs.Texts.Assemble.{each_at}

-- octets, and those of all that follows, at most this many
abbrev pub behind_each : {A : Type 0} → (List ℕ → Option (A × List ℕ)) → (A → List ℕ) → List ℕ → ℕ → List ℕ → Option (List ℕ)
behind_each next octets written most text = option_map (λ xs. written ++ flat_map octets xs) (each_at next most text)
