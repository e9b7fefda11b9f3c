-- The verdict on what a client does with the octets of a step (RFC 9113, 5.4).
use Rattle.std.specs.Prelude.{ℕ, ◌==◌, ◌&&◌, nat_le, Bool, true, false, List, [], ◌∷◌, if◌then◌else◌, Option, Some, None}
use Rattle.h2_spec.specs.Causes.Conforming.{allows, errors, only}
use Rattle.h2_spec.specs.declared.conforming.Codes.TheVariants as code
use Rattle.h2_spec.specs.declared.conforming.Conforming.{Conforming}
use Rattle.h2_spec.specs.declared.conforming.Least.TheVariants as least
use Rattle.h2_spec.specs.declared.conforming.Observed.{Observed}
use Rattle.h2_spec.specs.declared.conforming.Observed.TheVariants as seen
use Rattle.h2_spec.specs.declared.conforming.Permission.{Permission}
use Rattle.h2_spec.specs.declared.conforming.Permission.TheVariants as permission
use Rattle.h2_cmd_dialogue.specs.declared.verdict.ByLine.{ByLine}
use Rattle.h2_cmd_dialogue.specs.declared.verdict.Duty.{Duty}
use Rattle.h2_cmd_dialogue.specs.declared.verdict.Duty.TheVariants as duty
use Rattle.h2_cmd_dialogue.specs.declared.verdict.Judged.{Judged}
use Rattle.h2_cmd_dialogue.specs.declared.verdict.Judged.TheVariants.{Same, Allowed, Unsettled, Broken}
use Rattle.h2_cmd_dialogue.specs.declared.verdict.Taken.{Taken}
use Rattle.h2_cmd_dialogue.specs.declared.verdict.Taken.TheVariants as taken
use Rattle.h2_cmd_dialogue.specs.declared.verdict.Wanted.{Wanted}
use Rattle.h2_cmd_dialogue.specs.declared.verdict.Wanted.TheVariants as wanted
use Rattle.h2_cmd_dialogue.specs.declared.verdict.WantedLine.{WantedLine}

-- a reaction that is neither wanted nor allowed
abbrev pub missed : Duty → Judged
missed duty.Must = Broken
missed duty.Unsettled = Unsettled
missed duty.Should = Allowed
missed duty.May = Allowed

abbrev pub is_goes_on : Wanted → Bool
is_goes_on wanted.GoesOn = true
is_goes_on (wanted.Connection code) = false
is_goes_on (wanted.Stream stream code) = false

-- whether this is what is wanted
abbrev pub is_reaction : Wanted → Taken → Bool
is_reaction wanted.GoesOn taken.GoesOn = true
is_reaction wanted.GoesOn (taken.Connection other) = false
is_reaction wanted.GoesOn (taken.Stream reset other) = false
is_reaction wanted.GoesOn taken.Closed = false
is_reaction wanted.GoesOn taken.Silent = false
is_reaction (wanted.Connection code) taken.GoesOn = false
is_reaction (wanted.Connection code) (taken.Connection other) = code == other
is_reaction (wanted.Connection code) (taken.Stream reset other) = false
is_reaction (wanted.Connection code) taken.Closed = false
is_reaction (wanted.Connection code) taken.Silent = false
is_reaction (wanted.Stream stream code) taken.GoesOn = false
is_reaction (wanted.Stream stream code) (taken.Connection other) = false
is_reaction (wanted.Stream stream code) (taken.Stream reset other) = (stream == reset) && (code == other)
is_reaction (wanted.Stream stream code) taken.Closed = false
is_reaction (wanted.Stream stream code) taken.Silent = false

-- the row of the table: a connection error can have each code (5.4), and each stream error can be one of the connection (5.4.2)
abbrev pub row_of : Wanted → Conforming
row_of wanted.GoesOn = only least.Accept (errors code.Any code.None)
row_of (wanted.Connection c) = only least.Connection (errors code.Any code.None)
row_of (wanted.Stream stream c) = only least.Stream (errors code.Any (code.One c))

abbrev pub reset_seen : Wanted → (reset code : ℕ) → Observed
reset_seen wanted.GoesOn reset c = seen.Accept
reset_seen (wanted.Connection other) reset c = seen.Accept
reset_seen (wanted.Stream stream other) reset c = if stream == reset then seen.StreamError c else seen.Accept

-- what the table sees of a reaction; an error of another stream is none of this one
abbrev pub observed : Wanted → Taken → Observed
observed w taken.GoesOn = seen.Accept
observed w (taken.Connection c) = seen.ConnectionError c
observed w (taken.Stream reset c) = reset_seen w reset c
observed w taken.Closed = seen.Close
observed w taken.Silent = seen.Accept

-- what the RFC leaves open is so for a MUST
abbrev pub left_open : Duty → Judged
left_open duty.Must = Unsettled
left_open duty.Unsettled = Unsettled
left_open duty.Should = Allowed
left_open duty.May = Allowed

abbrev pub table_verdict : Duty → Permission → Judged
table_verdict d permission.Allowed = Allowed
table_verdict d permission.Open = left_open d
table_verdict d permission.NotAllowed = missed d

abbrev pub is_silent : Taken → Bool
is_silent taken.GoesOn = false
is_silent (taken.Connection c) = false
is_silent (taken.Stream reset c) = false
is_silent taken.Closed = false
is_silent taken.Silent = true

-- the verdict on a reaction: a PING has to be answered whatever else is wanted (6.7), and a client that has to go on may do
-- nothing else
abbrev pub judged : Duty → Wanted → Taken → Judged
judged d w t =
    if is_reaction w t then Same
    else if is_silent t then Broken
    else if is_goes_on w then missed d
    else table_verdict d (allows (row_of w) (observed w t))

-- ---- several lines, each of which is right

abbrev pub rank : Judged → ℕ
rank Same = 0
rank Allowed = 1
rank Unsettled = 2
rank Broken = 3

abbrev pub better : Option ByLine → ByLine → Option ByLine
better None other = Some other
better (Some one) other = if nat_le (rank one.judged) (rank other.judged) then Some one else Some other

-- the best verdict by lines
abbrev pub best_of : Taken → Option ByLine → List WantedLine → Option ByLine
best_of t best [] = best
best_of t best (l ∷ ls) = best_of t (better best (record { line = l; judged = judged l.duty l.wanted t })) ls
