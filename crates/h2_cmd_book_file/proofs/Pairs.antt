-- Arrays that are no pairs, as the code has them.
use Rattle.std.proofs.Common.{◌≡◌, ◌<◌, ◌≤◌, List, [], ◌∷◌, None, length, refl, arith}
use Rattle.toml.specs.View.{items_view}
use Rattle.toml.specs.declared.value.Value.{Value}
use Rattle.h2_cmd_book_file.specs.Contents.{fill_pair}
use Rattle.h2_cmd_book_file.specs.AnswerTable.{header_pair}

pub header_pair-short : (vs : List Value) → length vs < 2 → header_pair (items_view vs) ≡ None
header_pair-short [] h = refl
header_pair-short (v ∷ []) h = refl
header_pair-short (v ∷ w ∷ vs) h = absurd (omega arith)

pub header_pair-long : (vs : List Value) → 3 ≤ length vs → header_pair (items_view vs) ≡ None
header_pair-long [] h = refl
header_pair-long (v ∷ []) h = refl
header_pair-long (v ∷ w ∷ []) h = absurd (omega arith)
header_pair-long (v ∷ w ∷ x ∷ vs) h = refl

pub fill_pair-short : (vs : List Value) → length vs < 2 → fill_pair (items_view vs) ≡ None
fill_pair-short [] h = refl
fill_pair-short (v ∷ []) h = refl
fill_pair-short (v ∷ w ∷ vs) h = absurd (omega arith)

pub fill_pair-long : (vs : List Value) → 3 ≤ length vs → fill_pair (items_view vs) ≡ None
fill_pair-long [] h = refl
fill_pair-long (v ∷ []) h = refl
fill_pair-long (v ∷ w ∷ []) h = absurd (omega arith)
fill_pair-long (v ∷ w ∷ x ∷ vs) h = refl
