-- Worked rows of requests and trailers (RFC 9113, 8.1 to 8.5): why they are malformed, and what requests ask for.
use Rattle.std.specs.Prelude.{◌≡◌, ℕ, Bool, true, false, List, [], ◌∷◌, map, refl, codes, Option, Some, None}
use Prim.Native.String.{String}
use Rattle.h2_spec.specs.Hpack.Field.{Field, field}
use Rattle.h2_spec.specs.Requests.Request.{Request, malformed, malformed_trailers, request_of}

abbrev pair : String → String → Field
pair name value = field (codes name) (codes value)

-- ---- requests

-- a GET of the root with these fields more
abbrev get : List Field → List Field
get fields = pair ":method" "GET" ∷ pair ":scheme" "http" ∷ pair ":path" "/" ∷ fields

abbrev requests : List (List Field × Option ℕ)
requests =
    -- 8.3.1: a method, a scheme and a path are enough
    (get [], None) ∷
    (get (pair ":authority" "www.example.com" ∷ pair "accept" "*/*" ∷ []), None) ∷
    -- 8.2.1: names
    (get (pair "A" "b" ∷ []), Some 1) ∷
    (get (pair "" "b" ∷ []), Some 1) ∷
    (get (pair "a b" "c" ∷ []), Some 1) ∷
    (get (pair "a:b" "c" ∷ []), Some 1) ∷
    (get (field (0x61 ∷ 0x7f ∷ []) (codes "c") ∷ []), Some 1) ∷
    -- 8.2.1: values
    (get (field (codes "a") (0x62 ∷ 0x00 ∷ 0x63 ∷ []) ∷ []), Some 2) ∷
    (get (field (codes "a") (0x61 ∷ 0x0a ∷ 0x62 ∷ []) ∷ []), Some 2) ∷
    (get (field (codes "a") (0x62 ∷ 0x0d ∷ 0x63 ∷ []) ∷ []), Some 2) ∷
    (get (pair "a" " b" ∷ []), Some 2) ∷
    (get (field (codes "a") (0x62 ∷ 0x09 ∷ []) ∷ []), Some 2) ∷
    (get (pair "a" "b c" ∷ pair "d" "" ∷ []), None) ∷
    -- 8.3: pseudo-fields come first, are known, and appear once
    (pair ":method" "GET" ∷ pair "a" "b" ∷ pair ":scheme" "http" ∷ pair ":path" "/" ∷ [], Some 3) ∷
    (get (pair ":status" "200" ∷ []), Some 4) ∷
    (get (pair ":path" "/" ∷ []), Some 5) ∷
    -- 8.3.1: what has to be there
    (pair ":scheme" "http" ∷ pair ":path" "/" ∷ [], Some 6) ∷
    (pair ":method" "GET" ∷ pair ":path" "/" ∷ [], Some 6) ∷
    (pair ":method" "GET" ∷ pair ":scheme" "http" ∷ [], Some 6) ∷
    (pair ":method" "GET" ∷ pair ":scheme" "http" ∷ pair ":path" "" ∷ [], Some 6) ∷
    -- 8.5: CONNECT
    (pair ":method" "CONNECT" ∷ pair ":authority" "a:1" ∷ [], None) ∷
    (pair ":method" "CONNECT" ∷ [], Some 6) ∷
    (pair ":method" "CONNECT" ∷ pair ":authority" "a:1" ∷ pair ":path" "/" ∷ [], Some 6) ∷
    (pair ":method" "CONNECT" ∷ pair ":authority" "a:1" ∷ pair ":scheme" "http" ∷ [], Some 6) ∷
    -- 8.2.2: fields of a connection
    (get (pair "connection" "close" ∷ []), Some 7) ∷
    (get (pair "proxy-connection" "close" ∷ []), Some 7) ∷
    (get (pair "keep-alive" "5" ∷ []), Some 7) ∷
    (get (pair "upgrade" "h2c" ∷ []), Some 7) ∷
    (get (pair "transfer-encoding" "chunked" ∷ []), Some 7) ∷
    (get (pair "te" "trailers" ∷ []), None) ∷
    (get (pair "te" "Trailers" ∷ []), None) ∷
    (get (pair "te" "gzip" ∷ []), Some 8) ∷
    -- 8.1.1: content-length
    (get (pair "content-length" "12" ∷ []), None) ∷
    (get (pair "content-length" "1x" ∷ []), Some 9) ∷
    (get (pair "content-length" "" ∷ []), Some 9) ∷
    (get (pair "content-length" "5" ∷ pair "content-length" "05" ∷ []), None) ∷
    (get (pair "content-length" "5" ∷ pair "content-length" "6" ∷ []), Some 9) ∷
    (get (pair "content-length" "1000000000000000000" ∷ []), Some 9) ∷
    -- the least reason is answered
    (get (pair "A" " b" ∷ []), Some 1) ∷
    (pair "A" " b" ∷ pair ":status" "200" ∷ pair "upgrade" "h2c" ∷ [], Some 1) ∷ []

requests_are_judged : map (λ (row : List Field × Option ℕ). malformed row.0) requests ≡ map (λ (row : List Field × Option ℕ). row.1) requests
unfolding malformed
requests_are_judged = refl

-- 8.1: trailers have no pseudo-field, and need none
abbrev trailers : List (List Field × Option ℕ)
trailers =
    ([], None) ∷
    (pair "a" "b" ∷ [], None) ∷
    (pair "A" "b" ∷ [], Some 1) ∷
    (pair "a" "b " ∷ [], Some 2) ∷
    (pair ":path" "/" ∷ [], Some 4) ∷
    (pair "keep-alive" "5" ∷ [], Some 7) ∷
    (pair "upgrade" "h2c" ∷ [], Some 7) ∷
    (pair "te" "gzip" ∷ [], Some 8) ∷
    -- 8.1.1 is about the fields of the request
    (pair "content-length" "1x" ∷ [], None) ∷ []

trailers_are_judged : map (λ (row : List Field × Option ℕ). malformed_trailers row.0) trailers ≡ map (λ (row : List Field × Option ℕ). row.1) trailers
unfolding malformed_trailers
trailers_are_judged = refl

abbrev asked : Bool → String → String → Option ℕ → Request
asked connect method path declared = record { connect = connect; method = codes method; path = codes path; declared = declared }

get_is_asked : request_of (get (pair "content-length" "12" ∷ [])) ≡ asked false "GET" "/" (Some 12)
unfolding request_of
get_is_asked = refl

connect_is_asked : request_of (pair ":method" "CONNECT" ∷ pair ":authority" "a:1" ∷ []) ≡ asked true "CONNECT" "" None
unfolding request_of
connect_is_asked = refl
