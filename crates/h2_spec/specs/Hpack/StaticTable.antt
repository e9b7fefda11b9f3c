-- The static table, by index from 1 on (RFC 7541, Appendix A).
use Rattle.std.specs.Prelude.{ℕ, zero, suc, List, [], ◌∷◌, codes, slice_get, Option, None}
use Rattle.h2_spec.specs.Hpack.Field.{Field, field}

-- the entries in order, the first at index 1
unfoldable pub static_entries : List Field
static_entries =
    field (codes ":authority") (codes "") ∷
    field (codes ":method") (codes "GET") ∷
    field (codes ":method") (codes "POST") ∷
    field (codes ":path") (codes "/") ∷
    field (codes ":path") (codes "/index.html") ∷
    field (codes ":scheme") (codes "http") ∷
    field (codes ":scheme") (codes "https") ∷
    field (codes ":status") (codes "200") ∷
    field (codes ":status") (codes "204") ∷
    field (codes ":status") (codes "206") ∷
    field (codes ":status") (codes "304") ∷
    field (codes ":status") (codes "400") ∷
    field (codes ":status") (codes "404") ∷
    field (codes ":status") (codes "500") ∷
    field (codes "accept-charset") (codes "") ∷
    field (codes "accept-encoding") (codes "gzip, deflate") ∷
    field (codes "accept-language") (codes "") ∷
    field (codes "accept-ranges") (codes "") ∷
    field (codes "accept") (codes "") ∷
    field (codes "access-control-allow-origin") (codes "") ∷
    field (codes "age") (codes "") ∷
    field (codes "allow") (codes "") ∷
    field (codes "authorization") (codes "") ∷
    field (codes "cache-control") (codes "") ∷
    field (codes "content-disposition") (codes "") ∷
    field (codes "content-encoding") (codes "") ∷
    field (codes "content-language") (codes "") ∷
    field (codes "content-length") (codes "") ∷
    field (codes "content-location") (codes "") ∷
    field (codes "content-range") (codes "") ∷
    field (codes "content-type") (codes "") ∷
    field (codes "cookie") (codes "") ∷
    field (codes "date") (codes "") ∷
    field (codes "etag") (codes "") ∷
    field (codes "expect") (codes "") ∷
    field (codes "expires") (codes "") ∷
    field (codes "from") (codes "") ∷
    field (codes "host") (codes "") ∷
    field (codes "if-match") (codes "") ∷
    field (codes "if-modified-since") (codes "") ∷
    field (codes "if-none-match") (codes "") ∷
    field (codes "if-range") (codes "") ∷
    field (codes "if-unmodified-since") (codes "") ∷
    field (codes "last-modified") (codes "") ∷
    field (codes "link") (codes "") ∷
    field (codes "location") (codes "") ∷
    field (codes "max-forwards") (codes "") ∷
    field (codes "proxy-authenticate") (codes "") ∷
    field (codes "proxy-authorization") (codes "") ∷
    field (codes "range") (codes "") ∷
    field (codes "referer") (codes "") ∷
    field (codes "refresh") (codes "") ∷
    field (codes "retry-after") (codes "") ∷
    field (codes "server") (codes "") ∷
    field (codes "set-cookie") (codes "") ∷
    field (codes "strict-transport-security") (codes "") ∷
    field (codes "transfer-encoding") (codes "") ∷
    field (codes "user-agent") (codes "") ∷
    field (codes "vary") (codes "") ∷
    field (codes "via") (codes "") ∷
    field (codes "www-authenticate") (codes "") ∷ []

-- the entry at an index, from 1 to 61
unfoldable pub static_field : ℕ → Option Field
unfolding static_entries
static_field i = elim i [ zero ↦ None | suc place ↦ slice_get static_entries place ]
