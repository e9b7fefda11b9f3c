-- What a read of a file reports, and what a write leaves.
use Rattle.std.specs.Prelude.{◌≡◌, ℕ, ◌<◌, ◌≤◌, List, [], ◌∷◌, length, bytes_eq, if◌then◌else◌, Option, Some, None, IsSomeAnd, Result, Ok, Err, Vec}
use Rattle.std.specs.Borrow.{Bor}
use Rattle.std.specs.declared.alloc.Global.{Global}
use Rattle.h2_cmd_book_file.specs.declared.files.FilesFault.{FilesFault}
use Rattle.h2_cmd_book_file.specs.declared.files.FilesFault.TheVariants.{Failed, TooLong, NoMemory}

-- what a read of at most that many octets reports, by what is at the path: the octets, or the one refusal; memory is
-- taken only for a file that is there and not too long
abbrev pub Reads : ℕ → Option (List ℕ) → Result (Vec ℕ Global) FilesFault → Type 0
Reads most file (Ok octets) = file ≡ Some octets.items
Reads most file (Err Failed) = file ≡ None
Reads most file (Err TooLong) = IsSomeAnd file (λ octets. most < length octets)
Reads most file (Err NoMemory) = IsSomeAnd file (λ octets. length octets ≤ most)

-- the octets of the first of some files that has this path
abbrev pub file_in : List (Bor (List ℕ) × Bor (List ℕ)) → List ℕ → Option (List ℕ)
file_in [] path = None
file_in (f ∷ fs) path = if bytes_eq f.0.now path then Some f.1.now else file_in fs path

-- what is at each path after octets were written to one of them
abbrev pub Replaces : (List ℕ → Option (List ℕ)) → List ℕ → List ℕ → (List ℕ → Option (List ℕ)) → Type 0
Replaces files path octets files' = (p : List ℕ) → files' p ≡ (if bytes_eq p path then Some octets else files p)
