-- The file that is to have the results of cases.
use Rattle.std.specs.Prelude.{◌≡◌, ℕ, false, List, bytes_eq}
use Rattle.h2_cmd_book_file.specs.Entries.{Directory}

-- whatever failed: no other file was changed
abbrev pub ChangesAlone : (file : List ℕ) → Directory → Directory → Type 0
ChangesAlone file files files' = (path : List ℕ) → bytes_eq path file ≡ false → files' path ≡ files path
