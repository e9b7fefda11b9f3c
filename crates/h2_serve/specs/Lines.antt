-- The lines that a server prints.
use Rattle.std.specs.Prelude.{ℕ, ◌+◌, ◌++◌, List, [], ◌∷◌, codes, decimal, Result, Ok, Err}
use Rattle.h2_spec.specs.Texts.Show.{joined}
use Rattle.h2_serve.specs.Drives.{fault_number}
use Rattle.h2_serve.specs.declared.driving.drive_fault.DriveEnd.{DriveEnd}
use Rattle.h2_serve.specs.declared.driving.drive_fault.DriveEnd.TheVariants.{Input, Goaway}
use Rattle.h2_serve.specs.declared.driving.drive_fault.DriveFault.{DriveFault}

-- the port that is listened on
unfoldable pub listening_line : ℕ → List ℕ
listening_line port = joined (codes "listening " ∷ decimal port ∷ codes "\n" ∷ [])

-- the connection with this number was accepted
unfoldable pub open_line : ℕ → List ℕ
open_line number = joined (codes "connection " ∷ decimal number ∷ codes " open\n" ∷ [])

-- how the connection with this number ended
unfoldable pub end_line : ℕ → Result DriveEnd DriveFault → List ℕ
end_line number (Ok Input) = joined (codes "connection " ∷ decimal number ∷ codes " end input\n" ∷ [])
end_line number (Ok (Goaway code)) =
    joined (codes "connection " ∷ decimal number ∷ codes " end goaway " ∷ decimal code ∷ codes "\n" ∷ [])
end_line number (Err fault) =
    joined (codes "connection " ∷ decimal number ∷ codes " fault " ∷ decimal (fault_number fault) ∷ codes "\n" ∷ [])

-- how several connections ended, the first of which has this number
abbrev pub end_lines : ℕ → List (Result DriveEnd DriveFault) → List ℕ
end_lines number [] = []
end_lines number (end ∷ ends) = end_line number end ++ end_lines (number + 1) ends
