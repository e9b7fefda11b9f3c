-- What a server may do where a rule applies, and whether what a peer sees it do is allowed.
use Rattle.std.specs.Prelude.{ℕ, Bool, true, false, not, List, codes, ◌==◌, ◌||◌, ◌&&◌, if◌then◌else◌}
use Rattle.h2_spec.specs.declared.conforming.Codes.{Codes}
use Rattle.h2_spec.specs.declared.conforming.Codes.TheVariants as code
use Rattle.h2_spec.specs.declared.conforming.Conforming.{Conforming}
use Rattle.h2_spec.specs.declared.conforming.Least.{Least}
use Rattle.h2_spec.specs.declared.conforming.Least.TheVariants as least
use Rattle.h2_spec.specs.declared.conforming.Observed.{Observed}
use Rattle.h2_spec.specs.declared.conforming.Observed.TheVariants.{ConnectionError, StreamError, Close, Answer, Ignore, Accept, Wait, Http1}
use Rattle.h2_spec.specs.declared.conforming.Permission.{Permission}
use Rattle.h2_spec.specs.declared.conforming.Permission.TheVariants.{Allowed, Open, NotAllowed}
use Rattle.h2_spec.specs.declared.conforming.Reactions.{Reactions}

-- the least that a server has to do, in words
abbrev pub least_words : Least → List ℕ
least_words least.Connection = codes "connection error"
least_words least.Stream = codes "stream error"
least_words least.Malformed = codes "malformed"
least_words least.None = codes "none"
least_words least.Ignore = codes "ignored"
least_words least.Accept = codes "accepted"

-- whether there may be an error
abbrev pub names_code : Codes → Bool
names_code code.None = false
names_code (code.One n) = true
names_code (code.Two n m) = true
names_code code.Any = true

-- whether a code is one of these
abbrev pub has_code : Codes → ℕ → Bool
has_code code.None k = false
has_code (code.One n) k = k == n
has_code (code.Two n m) k = (k == n) || (k == m)
has_code code.Any k = true

-- whether an error may have a code: PROTOCOL_ERROR and INTERNAL_ERROR can be used for each (5.4)
abbrev pub takes_code : Codes → ℕ → Bool
takes_code these k = has_code these k || (names_code these && ((k == 1) || (k == 2)))

-- whether a reaction conforms where these do: a stream error can be a connection error, and the connection can end
-- without GOAWAY where there may be an error (5.4.1)
abbrev pub conforms : Reactions → Observed → Bool
conforms these (ConnectionError k) = takes_code these.connection k || takes_code these.stream k
conforms these (StreamError k) = takes_code these.stream k
conforms these Close = these.close || (names_code these.connection || names_code these.stream)
conforms these Answer = these.answer
conforms these Ignore = these.ignore
conforms these Accept = these.accept
conforms these Wait = these.wait
conforms these Http1 = these.http1

-- whether a reaction is one of these, by its name
abbrev pub is_named : Reactions → Observed → Bool
is_named these (ConnectionError k) = has_code these.connection k
is_named these (StreamError k) = has_code these.stream k
is_named these Close = these.close
is_named these Answer = these.answer
is_named these Ignore = these.ignore
is_named these Accept = these.accept
is_named these Wait = these.wait
is_named these Http1 = these.http1

-- whether a reaction is an error with any code, where there may be one of its scope (5.4)
abbrev pub is_other_code : Reactions → Observed → Bool
is_other_code these (ConnectionError k) = names_code these.connection || names_code these.stream
is_other_code these (StreamError k) = names_code these.stream
is_other_code these Close = false
is_other_code these Answer = false
is_other_code these Ignore = false
is_other_code these Accept = false
is_other_code these Wait = false
is_other_code these Http1 = false

-- whether a reaction is a connection error with ENHANCE_YOUR_CALM, which what looks suspicious may get (10.5)
abbrev pub is_calm : Observed → Bool
is_calm (ConnectionError k) = k == 11
is_calm (StreamError k) = false
is_calm Close = false
is_calm Answer = false
is_calm Ignore = false
is_calm Accept = false
is_calm Wait = false
is_calm Http1 = false

-- whether it has to be no error
abbrev pub is_no_error : Least → Bool
is_no_error least.Connection = false
is_no_error least.Stream = false
is_no_error least.Malformed = false
is_no_error least.None = false
is_no_error least.Ignore = true
is_no_error least.Accept = true

-- whether a reaction is open, if it does not conform
abbrev pub is_open : Conforming → Observed → Bool
is_open row seen = is_named row.«open» seen || (is_calm seen || (not (is_no_error row.least) && is_other_code row.allowed seen))

-- whether a reaction is allowed
abbrev pub allows : Conforming → Observed → Permission
allows row seen = if conforms row.allowed seen then Allowed else if is_open row seen then Open else NotAllowed

-- ---- rows

abbrev pub no_reaction : Reactions
no_reaction = record { connection = code.None; stream = code.None; close = false; answer = false; ignore = false; accept = false; wait = false; http1 = false }

-- errors of the connection and of the stream with these codes
abbrev pub errors : (connection stream : Codes) → Reactions
errors connection stream = record no_reaction { connection = connection; stream = stream }

-- what a server may do, without and with what is open
abbrev pub only : Least → Reactions → Conforming
only l allowed = record { least = l; allowed = allowed; «open» = no_reaction }

abbrev pub besides : Least → (allowed unsettled : Reactions) → Conforming
besides l allowed unsettled = record { least = l; allowed = allowed; «open» = unsettled }
