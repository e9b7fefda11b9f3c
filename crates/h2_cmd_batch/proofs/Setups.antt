-- What a case with words of its own is played with.
use Rattle.std.proofs.Common.{◌≡◌, ◌==◌, ℕ, false, List, [], ◌∷◌, length, refl}
use Rattle.h2_cmd_book_file.specs.Contents.{beside}
use Rattle.h2_cmd_batch.specs.CaseSetups.{book_place}

-- the path of a book that is not named, and of one that is
pub place_none : (file book : List ℕ) → length book ≡ 0 → [] ≡ book_place file book
place_none file [] e = refl
place_none file (o ∷ os) e = cc

pub place_some : (file book : List ℕ) → (length book == 0) ≡ false → beside file book ≡ book_place file book
place_some file [] e = cc
place_some file (o ∷ os) e = refl
