-- Records that are kept as what differs from a whole list: runs of its records, each with one more record after it, and
-- a last run.
use Rattle.std.specs.Prelude.{List, [], ◌∷◌, ◌++◌, take, drop}
use Rattle.h2_spec.specs.declared.streams.Stream.{Stream}
use Rattle.h2_streams.specs.declared.sharing.patch.Run.{Run}

-- the records of a run
abbrev pub run_of : List Stream → Run → List Stream
run_of base run = take run.length (drop run.from base)

-- a run, and the record after it
pub record Step : Type 0 where
  pub run : Run
  pub own : Stream

-- the records of steps
abbrev pub steps_of : List Stream → List Step → List Stream
steps_of base [] = []
steps_of base (step ∷ steps) = run_of base step.run ++ step.own ∷ steps_of base steps

-- the records of steps, and then those of a last run
abbrev pub patched : List Stream → List Step → Run → List Stream
patched base steps last = steps_of base steps ++ run_of base last
