-- Records in brief: of a stream that is not live only the identifier and the state are ever seen, and identifiers mostly
-- follow one another (RFC 9113, 5.1.1).
use Rattle.std.specs.Prelude.{◌≡◌, ℕ, suc, ◌*◌, ◌-◌, ◌<◌, false, List, [], ◌∷◌, nat_lt, if◌then◌else◌}
use Rattle.std.specs.List.{AllByRecursion}
use Rattle.h2_spec.specs.declared.streams.StreamState.{StreamState}
use Rattle.h2_spec.specs.declared.streams.Stream.{Stream}
use Rattle.h2_spec.specs.Stream.{is_live, not_live}
use Rattle.h2_streams.specs.declared.brief.runs.IdRun.{IdRun}

-- a record's identifier and state alone
abbrev pub brief : Stream → Stream
brief st = not_live st.id st.kind

-- the stream is live, or nothing is counted on it and no answer was picked
abbrev pub IsBrief : Stream → Type 0
IsBrief st = is_live st.kind ≡ false → st ≡ brief st

abbrev pub AreBrief : List Stream → Type 0
AreBrief streams = AllByRecursion IsBrief streams

-- the identifier at this place, from 0: it is in the first run that ends after it, where identifiers are two apart
abbrev pub id_at : List IdRun → ℕ → ℕ
id_at [] place = 0
id_at (run ∷ runs) place = if nat_lt place run.end then run.last - 2 * (run.end - suc place) else id_at runs place

-- the streams in these states, from this place on
abbrev pub briefs_from : ℕ → List IdRun → List StreamState → List Stream
briefs_from place runs [] = []
briefs_from place runs (kind ∷ kinds) = not_live (id_at runs place) kind ∷ briefs_from (suc place) runs kinds

-- each run ends after the one before it
abbrev pub AreEnds : ℕ → List IdRun → Type 0
AreEnds low [] = Unit {0}
AreEnds low (run ∷ runs) = (low < run.end) × AreEnds run.end runs

-- where the last run ends
abbrev pub end_of : ℕ → List IdRun → ℕ
end_of low [] = low
end_of low (run ∷ runs) = end_of run.end runs
