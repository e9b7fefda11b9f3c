-- The records of streams of a state.
use Rattle.h2_spec.specs.State.{State}
use Rattle.h2_spec.specs.Stream.{Records}

-- the records of a state, with the last stream that was opened
abbrev pub records : State → Records
records s = record { streams = s.streams; last = s.core.last }
