-- What other servers may do where this one did something, as far as a reader does not know it from that.
use Rattle.std.specs.Prelude.{ℕ, Bool, true, false, not, ◌==◌, ◌||◌, ◌&&◌, if◌then◌else◌}
use Rattle.h2_spec.specs.Causes.Conforming.{has_code, is_named}
use Rattle.h2_spec.specs.declared.conforming.Observed.{Observed}
use Rattle.h2_spec.specs.declared.conforming.Observed.TheVariants.{ConnectionError, StreamError, Close, Answer, Ignore, Accept, Wait, Http1}
use Rattle.h2_spec.specs.declared.conforming.Reactions.{Reactions}

-- whether a code can be used for each error: PROTOCOL_ERROR and INTERNAL_ERROR (5.4)
abbrev pub is_generic : ℕ → Bool
is_generic code = (code == 1) || (code == 2)

-- whether an error with another code is known from an error with this one
abbrev pub is_error_beside : (code other : ℕ) → Bool
is_error_beside code other = (other == code) || is_generic other

-- what is known from a connection error, and from a stream error, which can be a connection error too (5.4.1)
abbrev pub known_by_connection : ℕ → Observed → Bool
known_by_connection code (ConnectionError other) = is_error_beside code other
known_by_connection code (StreamError other) = false
known_by_connection code Close = false
known_by_connection code Answer = false
known_by_connection code Ignore = false
known_by_connection code Accept = false
known_by_connection code Wait = false
known_by_connection code Http1 = false

abbrev pub known_by_stream : ℕ → Observed → Bool
known_by_stream code (ConnectionError other) = is_error_beside code other
known_by_stream code (StreamError other) = is_error_beside code other
known_by_stream code Close = false
known_by_stream code Answer = false
known_by_stream code Ignore = false
known_by_stream code Accept = false
known_by_stream code Wait = false
known_by_stream code Http1 = false

abbrev pub is_ignore : Observed → Bool
is_ignore Ignore = true
is_ignore (ConnectionError code) = false
is_ignore (StreamError code) = false
is_ignore Close = false
is_ignore Answer = false
is_ignore Accept = false
is_ignore Wait = false
is_ignore Http1 = false

abbrev pub is_accept : Observed → Bool
is_accept Accept = true
is_accept (ConnectionError code) = false
is_accept (StreamError code) = false
is_accept Close = false
is_accept Answer = false
is_accept Ignore = false
is_accept Wait = false
is_accept Http1 = false

-- whether another reaction is known from this server's own
abbrev pub is_known : (ours other : Observed) → Bool
is_known (ConnectionError code) other = known_by_connection code other
is_known (StreamError code) other = known_by_stream code other
is_known Ignore other = is_ignore other
is_known Accept other = is_accept other
is_known Close other = false
is_known Answer other = false
is_known Wait other = false
is_known Http1 other = false

-- whether a reaction is a connection error with a code that a stream error may have (5.4.1)
abbrev pub is_implied : Reactions → Observed → Bool
is_implied these (ConnectionError code) = has_code these.stream code
is_implied these (StreamError code) = false
is_implied these Close = false
is_implied these Answer = false
is_implied these Ignore = false
is_implied these Accept = false
is_implied these Wait = false
is_implied these Http1 = false

-- whether a reaction is named among these, and is known neither from the others nor from this server's own
abbrev pub is_listed : Observed → Reactions → Observed → Bool
is_listed ours these other = (is_named these other && not (is_implied these other)) && not (is_known ours other)

-- an error of the connection, which has ended, or of a stream
abbrev pub error_of : Bool → ℕ → Observed
error_of ended code = if ended then ConnectionError code else StreamError code
