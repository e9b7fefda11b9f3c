-- The sentence about a window that is below the credit.
use Rattle.std.specs.Prelude.{ℕ, Bool, ◌&&◌, List, [], ◌∷◌, codes, decimal, nat_lt}
use Rattle.h2_spec.specs.Texts.Show.{joined}
use Rattle.h2_spec.specs.State.{is_allowed}
use Rattle.h2_spec.specs.declared.connection.Config.{Config}

-- whether a stream's window can be spent before its octets are returned, where all limits and settings are in range (6.9)
abbrev pub is_advised : Config → Bool
is_advised config = nat_lt config.window config.credit && is_allowed config

-- the sentence
abbrev pub window_sentence : Config → List ℕ
window_sentence config =
    joined (codes "--window " ∷ decimal config.window ∷ codes " is below --credit " ∷ decimal config.credit ∷ codes ": a longer upload stops, since octets are returned only once "
    ∷ decimal config.credit ∷ codes " of them are owed.\n" ∷ [])
