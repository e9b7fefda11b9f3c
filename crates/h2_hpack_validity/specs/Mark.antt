-- What a field can be malformed for by itself, and which of the names that the rules of a request are about it has.
use Rattle.std.specs.Prelude.{ℕ, Bool, true, false, ◌==◌, List, length, codes, bytes_eq, if◌then◌else◌}
use Rattle.std.specs.List.{list_any}
use Rattle.h2_spec.specs.Hpack.Field.{Field}
use Rattle.h2_spec.specs.Requests.Request.{first_is, is_colon, has_bad_name, has_bad_value, has_bad_te, connection_names}
use Rattle.h2_hpack_validity.specs.declared.mark.KnownName.{KnownName}
use Rattle.h2_hpack_validity.specs.declared.mark.KnownName.TheVariants.{Method, Scheme, Path, Authority, OtherPseudo, ContentLength, Te, OfConnection, Other}
use Rattle.h2_hpack_validity.specs.declared.mark.FieldMark.{FieldMark}

-- which of them a name is that is none of the names themselves
abbrev pub unknown : List ℕ → KnownName
unknown name = if first_is is_colon name then OtherPseudo else Other

-- which of them a name is
unfoldable pub known_of : List ℕ → KnownName
known_of name =
    if bytes_eq name (codes ":method") then Method
    else if bytes_eq name (codes ":scheme") then Scheme
    else if bytes_eq name (codes ":path") then Path
    else if bytes_eq name (codes ":authority") then Authority
    else if bytes_eq name (codes "content-length") then ContentLength
    else if bytes_eq name (codes "te") then Te
    else if list_any (bytes_eq name) connection_names then OfConnection
    else unknown name

-- the mark of a field
unfoldable pub mark_of : Field → FieldMark
mark_of f = record { known = known_of f.name; bad_name = has_bad_name f; bad_value = has_bad_value f; bad_te = has_bad_te f }

-- a name that is this one, or none of them
abbrev pub one_name : List ℕ → KnownName → List ℕ → KnownName
one_name other known name = if bytes_eq name other then known else unknown name

-- the names of seven octets, and those of ten
abbrev pub of_seven : List ℕ → KnownName
of_seven name = if bytes_eq name (codes ":method") then Method else if bytes_eq name (codes ":scheme") then Scheme else one_name (codes "upgrade") OfConnection name

abbrev pub of_ten : List ℕ → KnownName
of_ten name = if bytes_eq name (codes ":authority") then Authority else if bytes_eq name (codes "connection") then OfConnection else one_name (codes "keep-alive") OfConnection name

-- the same by the length of the name first
unfoldable pub known_by_length : List ℕ → KnownName
known_by_length name =
    if length name == 2 then one_name (codes "te") Te name
    else if length name == 5 then one_name (codes ":path") Path name
    else if length name == 7 then of_seven name
    else if length name == 10 then of_ten name
    else if length name == 14 then one_name (codes "content-length") ContentLength name
    else if length name == 16 then one_name (codes "proxy-connection") OfConnection name
    else if length name == 17 then one_name (codes "transfer-encoding") OfConnection name
    else unknown name

-- ---- what is known of each

abbrev pub is_other : KnownName → Bool
is_other Method = false
is_other Scheme = false
is_other Path = false
is_other Authority = false
is_other OtherPseudo = true
is_other ContentLength = false
is_other Te = false
is_other OfConnection = false
is_other Other = true

abbrev pub begins_with_colon : KnownName → Bool
begins_with_colon Method = true
begins_with_colon Scheme = true
begins_with_colon Path = true
begins_with_colon Authority = true
begins_with_colon OtherPseudo = true
begins_with_colon ContentLength = false
begins_with_colon Te = false
begins_with_colon OfConnection = false
begins_with_colon Other = false

abbrev pub is_te : KnownName → Bool
is_te Method = false
is_te Scheme = false
is_te Path = false
is_te Authority = false
is_te OtherPseudo = false
is_te ContentLength = false
is_te Te = true
is_te OfConnection = false
is_te Other = false

abbrev pub is_connection : KnownName → Bool
is_connection Method = false
is_connection Scheme = false
is_connection Path = false
is_connection Authority = false
is_connection OtherPseudo = false
is_connection ContentLength = false
is_connection Te = false
is_connection OfConnection = true
is_connection Other = false
