-- Which of the known names a name is: each fact of them is computed for each name, and follows for all others from the tests that they fail.
use Rattle.std.proofs.Common.{◌≡◌, ℕ, Bool, true, false, ◌&&◌, cond, List, length, codes, refl, sym, subst}
use Rattle.std.specs.Prelude.{◌==◌, bytes_eq}
use Rattle.std.proofs.lemmas.Slice.Eq.{bytes_eq-Decides}
use Rattle.h2_spec.specs.Hpack.Field.{Field, field}
use Rattle.h2_spec.specs.Requests.Request.{first_is, is_colon, is_pseudo, has_bad_name, is_of_connection}
use Rattle.h2_hpack_validity.specs.Mark.{known_of, known_by_length, unknown, is_other, begins_with_colon, is_te, is_connection}
use Rattle.h2_hpack_validity.specs.declared.mark.KnownName.{KnownName}
use Rattle.h2_hpack_validity.specs.declared.mark.KnownName.TheVariants.{OtherPseudo, Other}

-- a name that is none of the known ones
pub record IsUnknown (name : List ℕ) : Type 0 where
  pub method : bytes_eq name (codes ":method") ≡ false
  pub scheme : bytes_eq name (codes ":scheme") ≡ false
  pub path : bytes_eq name (codes ":path") ≡ false
  pub authority : bytes_eq name (codes ":authority") ≡ false
  pub content_length : bytes_eq name (codes "content-length") ≡ false
  pub te : bytes_eq name (codes "te") ≡ false
  pub connection : bytes_eq name (codes "connection") ≡ false
  pub proxy : bytes_eq name (codes "proxy-connection") ≡ false
  pub keep_alive : bytes_eq name (codes "keep-alive") ≡ false
  pub transfer : bytes_eq name (codes "transfer-encoding") ≡ false
  pub upgrade : bytes_eq name (codes "upgrade") ≡ false

-- what is so for each known name
pub record OfKnown (P : List ℕ → Type 0) : Type 0 where
  pub method : P (codes ":method")
  pub scheme : P (codes ":scheme")
  pub path : P (codes ":path")
  pub authority : P (codes ":authority")
  pub content_length : P (codes "content-length")
  pub te : P (codes "te")
  pub connection : P (codes "connection")
  pub proxy : P (codes "proxy-connection")
  pub keep_alive : P (codes "keep-alive")
  pub transfer : P (codes "transfer-encoding")
  pub upgrade : P (codes "upgrade")

-- is so for a name that is one of them
at-same : (P : List ℕ → Type 0) (name other : List ℕ) → bytes_eq name other ≡ true → P other → P name
at-same P name other e h =
    let same : other ≡ name = sym ((bytes_eq-Decides name other).0 e) in
    subst P same h

-- or for each name
pub by-name : (P : List ℕ → Type 0) (name : List ℕ) → OfKnown P → (IsUnknown name → P name) → P name
by-name P name h u = method (bytes_eq name (codes ":method")) refl
  where
    upgrade : (t : Bool) → bytes_eq name (codes "upgrade") ≡ t → (bytes_eq name (codes "upgrade") ≡ false → IsUnknown name) → P name
    upgrade true e k = at-same P name (codes "upgrade") e h.upgrade
    upgrade false e k = u (k e)

    transfer : (t : Bool) → bytes_eq name (codes "transfer-encoding") ≡ t → (bytes_eq name (codes "transfer-encoding") ≡ false → bytes_eq name (codes "upgrade") ≡ false → IsUnknown name) → P name
    transfer true e k = at-same P name (codes "transfer-encoding") e h.transfer
    transfer false e k = upgrade (bytes_eq name (codes "upgrade")) refl (k e)

    keep_alive : (t : Bool) → bytes_eq name (codes "keep-alive") ≡ t → (bytes_eq name (codes "keep-alive") ≡ false → bytes_eq name (codes "transfer-encoding") ≡ false → bytes_eq name (codes "upgrade") ≡ false → IsUnknown name) → P name
    keep_alive true e k = at-same P name (codes "keep-alive") e h.keep_alive
    keep_alive false e k = transfer (bytes_eq name (codes "transfer-encoding")) refl (k e)

    proxy : (t : Bool) → bytes_eq name (codes "proxy-connection") ≡ t → (bytes_eq name (codes "proxy-connection") ≡ false → bytes_eq name (codes "keep-alive") ≡ false → bytes_eq name (codes "transfer-encoding") ≡ false → bytes_eq name (codes "upgrade") ≡ false → IsUnknown name) → P name
    proxy true e k = at-same P name (codes "proxy-connection") e h.proxy
    proxy false e k = keep_alive (bytes_eq name (codes "keep-alive")) refl (k e)

    connection : (t : Bool) → bytes_eq name (codes "connection") ≡ t → (bytes_eq name (codes "connection") ≡ false → bytes_eq name (codes "proxy-connection") ≡ false → bytes_eq name (codes "keep-alive") ≡ false → bytes_eq name (codes "transfer-encoding") ≡ false → bytes_eq name (codes "upgrade") ≡ false → IsUnknown name) → P name
    connection true e k = at-same P name (codes "connection") e h.connection
    connection false e k = proxy (bytes_eq name (codes "proxy-connection")) refl (k e)

    te : (t : Bool) → bytes_eq name (codes "te") ≡ t → bytes_eq name (codes ":method") ≡ false → bytes_eq name (codes ":scheme") ≡ false → bytes_eq name (codes ":path") ≡ false → bytes_eq name (codes ":authority") ≡ false → bytes_eq name (codes "content-length") ≡ false → P name
    te true e m s p a l = at-same P name (codes "te") e h.te
    te false e m s p a l = connection (bytes_eq name (codes "connection")) refl (λ c x k t g. record { method = m; scheme = s; path = p; authority = a; content_length = l; te = e; connection = c; proxy = x; keep_alive = k; transfer = t; upgrade = g })

    content_length : (t : Bool) → bytes_eq name (codes "content-length") ≡ t → bytes_eq name (codes ":method") ≡ false → bytes_eq name (codes ":scheme") ≡ false → bytes_eq name (codes ":path") ≡ false → bytes_eq name (codes ":authority") ≡ false → P name
    content_length true e m s p a = at-same P name (codes "content-length") e h.content_length
    content_length false e m s p a = te (bytes_eq name (codes "te")) refl m s p a e

    authority : (t : Bool) → bytes_eq name (codes ":authority") ≡ t → bytes_eq name (codes ":method") ≡ false → bytes_eq name (codes ":scheme") ≡ false → bytes_eq name (codes ":path") ≡ false → P name
    authority true e m s p = at-same P name (codes ":authority") e h.authority
    authority false e m s p = content_length (bytes_eq name (codes "content-length")) refl m s p e

    path : (t : Bool) → bytes_eq name (codes ":path") ≡ t → bytes_eq name (codes ":method") ≡ false → bytes_eq name (codes ":scheme") ≡ false → P name
    path true e m s = at-same P name (codes ":path") e h.path
    path false e m s = authority (bytes_eq name (codes ":authority")) refl m s e

    scheme : (t : Bool) → bytes_eq name (codes ":scheme") ≡ t → bytes_eq name (codes ":method") ≡ false → P name
    scheme true e m = at-same P name (codes ":scheme") e h.scheme
    scheme false e m = path (bytes_eq name (codes ":path")) refl m e

    method : (t : Bool) → bytes_eq name (codes ":method") ≡ t → P name
    method true e = at-same P name (codes ":method") e h.method
    method false e = scheme (bytes_eq name (codes ":scheme")) refl e

-- an unknown name
pub unknown-is : (name : List ℕ) → IsUnknown name → known_of name ≡ unknown name
unfolding known_of
unknown-is name u = rw (u.method, u.scheme, u.path, u.authority, u.content_length, u.te, u.connection, u.proxy, u.keep_alive, u.transfer, u.upgrade) refl

both : (t : Bool) (k : KnownName) → cond t k k ≡ k
both true k = refl
both false k = refl

-- the length of a name first
pub length-first : (name : List ℕ) → known_by_length name ≡ known_of name
unfolding known_of known_by_length
length-first name = by-name (λ n. known_by_length n ≡ known_of n) name (record { method = refl; scheme = refl; path = refl; authority = refl; content_length = refl; te = refl; connection = refl; proxy = refl; keep_alive = refl; transfer = refl; upgrade = refl })
    (λ u. rw (u.method, u.scheme, u.path, u.authority, u.content_length, u.te, u.connection, u.proxy, u.keep_alive, u.transfer, u.upgrade)
    (let k = unknown name in rw (both (length name == 17) k, both (length name == 16) k, both (length name == 14) k, both (length name == 10) k, both (length name == 7) k, both (length name == 5) k, both (length name == 2) k) refl))

-- ---- what the mark of a field is

-- by whether an unknown name begins with a colon
pub by-colon : (P : KnownName → Bool → Type 0) (name : List ℕ) → IsUnknown name → P OtherPseudo true → P Other false → P (known_of name) (first_is is_colon name)
by-colon P name u colon none = subst (λ k. P k (first_is is_colon name)) (sym (unknown-is name u)) (at (first_is is_colon name))
  where
    at : (t : Bool) → P (cond t OtherPseudo Other) t
    at true = colon
    at false = none

pub name-marked : (name value : List ℕ) → (is_other (known_of name) && has_bad_name (field name value)) ≡ has_bad_name (field name value)
unfolding known_of
name-marked name value = by-name (λ n. (is_other (known_of n) && has_bad_name (field n value)) ≡ has_bad_name (field n value)) name (record { method = refl; scheme = refl; path = refl; authority = refl; content_length = refl; te = refl; connection = refl; proxy = refl; keep_alive = refl; transfer = refl; upgrade = refl })
    (λ u. by-colon (λ k b. (is_other k && has_bad_name (field name value)) ≡ has_bad_name (field name value)) name u refl refl)

pub te-marked : (name : List ℕ) (bad : Bool) → (is_te (known_of name) && bad) ≡ (bytes_eq name (codes "te") && bad)
unfolding known_of
te-marked name bad = by-name (λ n. (is_te (known_of n) && bad) ≡ (bytes_eq n (codes "te") && bad)) name (record { method = refl; scheme = refl; path = refl; authority = refl; content_length = refl; te = refl; connection = refl; proxy = refl; keep_alive = refl; transfer = refl; upgrade = refl })
    (λ u. by-colon (λ k b. (is_te k && bad) ≡ (bytes_eq name (codes "te") && bad)) name u (rw u.te refl) (rw u.te refl))

pub connection-marked : (f : Field) → is_connection (known_of f.name) ≡ is_of_connection f
unfolding known_of
connection-marked f = by-name (λ n. is_connection (known_of n) ≡ is_of_connection (field n f.value)) f.name (record { method = refl; scheme = refl; path = refl; authority = refl; content_length = refl; te = refl; connection = refl; proxy = refl; keep_alive = refl; transfer = refl; upgrade = refl })
    (λ u. by-colon (λ k b. is_connection k ≡ is_of_connection f) f.name u (rw (u.connection, u.proxy, u.keep_alive, u.transfer, u.upgrade) refl) (rw (u.connection, u.proxy, u.keep_alive, u.transfer, u.upgrade) refl))

pub pseudo-marked : (f : Field) → begins_with_colon (known_of f.name) ≡ is_pseudo f
unfolding known_of
pseudo-marked f = by-name (λ n. begins_with_colon (known_of n) ≡ is_pseudo (field n f.value)) f.name (record { method = refl; scheme = refl; path = refl; authority = refl; content_length = refl; te = refl; connection = refl; proxy = refl; keep_alive = refl; transfer = refl; upgrade = refl })
    (λ u. by-colon (λ k b. begins_with_colon k ≡ b) f.name u refl refl)
