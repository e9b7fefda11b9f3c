-- A kept table's entries, in runs.
use Rattle.std.specs.Prelude.{List, [], ◌∷◌, ◌++◌}
use Rattle.h2_spec.specs.Hpack.Field.{Field}

-- the entries of runs, one run after another
abbrev pub entries_in : List (List Field) → List Field
entries_in [] = []
entries_in (run ∷ runs) = run ++ entries_in runs
