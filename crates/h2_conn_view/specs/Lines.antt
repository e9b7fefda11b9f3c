-- A line of the text of a state, by the numbers in it.
use Rattle.std.specs.Prelude.{ℕ, ℤ, List, [], ◌∷◌, codes, decimal}
use Rattle.std.specs.Fmt.{signed_decimal}
use Rattle.h2_spec.specs.Texts.Show.{joined}

-- the windows of the connection, and what is owed on it
unfoldable pub window_text : ℤ → ℕ → ℤ → List ℕ
window_text recv owed send = joined (codes "window recv " ∷ signed_decimal recv ∷ codes " owed " ∷ decimal owed ∷ codes " send " ∷ signed_decimal send ∷ codes "\n" ∷ [])
