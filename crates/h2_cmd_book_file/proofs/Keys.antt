-- Keys beside the known ones, in a table as the code has it.
use Rattle.std.proofs.Common.{◌≡◌, ℕ, Bool, List, [], ◌∷◌, ◌||◌, not, String, Global, string_bytes, refl, ap}
use Rattle.std.specs.List.{list_any}
use Rattle.std.specs.Map.{keys_of}
use Rattle.toml.specs.View.{members_view}
use Rattle.toml.specs.declared.value.Value.{Value}
use Rattle.h2_cmd_book_file.specs.AnswerTable.{has_other_key}

pub has_other_key-keys : (known : List ℕ → Bool) (es : List (String Global × Value)) → list_any (λ k. not (known (string_bytes k))) (keys_of es) ≡ has_other_key known (members_view es)
has_other_key-keys known [] = refl
has_other_key-keys known (e ∷ es) = ap (λ b. not (known (string_bytes e.0)) || b) (has_other_key-keys known es)
