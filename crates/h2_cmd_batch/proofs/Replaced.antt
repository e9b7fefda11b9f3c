-- The file that was replaced is the only one that was changed.
use Rattle.std.proofs.Common.{◌≡◌, ℕ, List, ap}
use Rattle.h2_cmd_book_file.specs.Entries.{Directory}
use Rattle.h2_cmd_book_file.specs.Files.{Replaces}
use Rattle.h2_cmd_batch.specs.Results.{ChangesAlone}

pub replaced-alone : (d d' : Directory) (file octets : List ℕ) → Replaces d file octets d' → ChangesAlone file d d'
replaced-alone d d' file octets is = λ path other. rw other at (is path)

pub none-changed : (d d' : Directory) (file : List ℕ) → d' ≡ d → ChangesAlone file d d'
none-changed d d' file same = λ path other. ap (λ (f : Directory). f path) same
