-- Why fields make no request or no trailers, each reason stated of the places of fields in their list (RFC 9113, 8.1.1,
-- 8.2, 8.3 and 8.5). `malformed` and `malformed_trailers` of Request compute the least of them: a law of `h2_spec_laws`.
use Rattle.std.specs.Prelude.{◌≡◌, ◌≢◌, ℕ, ◌<◌, ◌≤◌, List, [], codes, slice_get, Option, Some, None, IsTrue, IsFalse, IsSome}
use Rattle.h2_spec.specs.Hpack.Field.{Field}
use Rattle.h2_spec.specs.Requests.Request.{is_pseudo, has_bad_name, has_bad_value, is_unknown_pseudo, is_of_connection, has_bad_te, is_content_length, is_digits, decimal_value, value_named, is_connect}

-- a field of which P holds is at some place of the list
pub record SomeField (P : Field → Type 0) (fields : List Field) : Type 0 where
  pub place : ℕ
  pub field : Field
  pub found : slice_get fields place ≡ Some field
  pub holds : P field

-- two fields that are so related are in the list, the one before the other
pub record SomeTwo (R : Field → Field → Type 0) (fields : List Field) : Type 0 where
  pub earlier : ℕ
  pub later : ℕ
  pub order : earlier < later
  pub former : Field
  pub latter : Field
  pub former_found : slice_get fields earlier ≡ Some former
  pub latter_found : slice_get fields later ≡ Some latter
  pub holds : R former latter

-- the reasons against a request, by number
pub data IsReason (fields : List Field) : ℕ → Type 0 where
  -- 8.2.1: a name is empty, has an octet 00-20, 41-5a or 7f-ff, or a colon that isn't its first octet
  bad_name : SomeField (λ f. IsTrue (has_bad_name f)) fields → IsReason fields 1
  -- 8.2.1: a value has an octet 00, 0a or 0d, or begins or ends with a blank
  bad_value : SomeField (λ f. IsTrue (has_bad_value f)) fields → IsReason fields 2
  -- 8.3: a pseudo-field follows a regular field
  late_pseudo : SomeTwo (λ f g. IsFalse (is_pseudo f) × IsTrue (is_pseudo g)) fields → IsReason fields 3
  -- 8.3: a pseudo-field is none of a request's
  unknown_pseudo : SomeField (λ f. IsTrue (is_unknown_pseudo f)) fields → IsReason fields 4
  -- 8.3: a pseudo-field occurs twice
  double_pseudo : SomeTwo (λ f g. IsTrue (is_pseudo f) × (g.name ≡ f.name)) fields → IsReason fields 5
  -- 8.3.1: there is no method
  no_method : value_named (codes ":method") fields ≡ None → IsReason fields 6
  -- 8.5: CONNECT has no authority, or a scheme, or a path
  connect_without_authority : IsTrue (is_connect fields) → value_named (codes ":authority") fields ≡ None → IsReason fields 6
  connect_with_scheme : IsTrue (is_connect fields) → IsSome (value_named (codes ":scheme") fields) → IsReason fields 6
  connect_with_path : IsTrue (is_connect fields) → IsSome (value_named (codes ":path") fields) → IsReason fields 6
  -- 8.3.1: another method has no scheme, no path, or an empty path
  no_scheme : IsFalse (is_connect fields) → value_named (codes ":scheme") fields ≡ None → IsReason fields 6
  no_path : IsFalse (is_connect fields) → value_named (codes ":path") fields ≡ None → IsReason fields 6
  empty_path : IsFalse (is_connect fields) → value_named (codes ":path") fields ≡ Some [] → IsReason fields 6
  -- 8.2.2: a field is one of an HTTP/1.1 connection
  connection_field : SomeField (λ f. IsTrue (is_of_connection f)) fields → IsReason fields 7
  -- 8.2.2: a te field isn't trailers
  bad_te : SomeField (λ f. IsTrue (has_bad_te f)) fields → IsReason fields 8
  -- 8.1.1: a content-length isn't 1 to 18 digits
  bad_length : SomeField (λ f. IsTrue (is_content_length f) × IsFalse (is_digits f.value)) fields → IsReason fields 9
  -- 8.1.1: two content-lengths are different numbers
  two_lengths : SomeTwo (λ f g. IsTrue (is_content_length f) × IsTrue (is_content_length g) × (decimal_value g.value ≢ decimal_value f.value)) fields → IsReason fields 9

-- the reasons against trailers, by the same numbers (8.1)
pub data IsTrailersReason (fields : List Field) : ℕ → Type 0 where
  bad_trailer_name : SomeField (λ f. IsTrue (has_bad_name f)) fields → IsTrailersReason fields 1
  bad_trailer_value : SomeField (λ f. IsTrue (has_bad_value f)) fields → IsTrailersReason fields 2
  -- 8.1: trailers have no pseudo-field
  trailer_pseudo : SomeField (λ f. IsTrue (is_pseudo f)) fields → IsTrailersReason fields 4
  trailer_of_connection : SomeField (λ f. IsTrue (is_of_connection f)) fields → IsTrailersReason fields 7
  bad_trailer_te : SomeField (λ f. IsTrue (has_bad_te f)) fields → IsTrailersReason fields 8

-- what an answer of a check says: this is the least reason, or there is none
abbrev pub IsLeast : (ℕ → Type 0) → Option ℕ → Type 0
IsLeast Reason None = (q : ℕ) → ¬ (Reason q)
IsLeast Reason (Some r) = Reason r × ((q : ℕ) → Reason q → r ≤ q)

-- the first field of a name has this value
pub record IsFirstNamed (name : List ℕ) (fields : List Field) (value : List ℕ) : Type 0 where
  pub place : ℕ
  pub field : Field
  pub found : slice_get fields place ≡ Some field
  pub named : field.name ≡ name
  pub has : field.value ≡ value
  pub first : (i : ℕ) (f : Field) → i < place → slice_get fields i ≡ Some f → f.name ≢ name

-- the value of the first field of a name, or none where no field has it
abbrev pub IsValueNamed : List ℕ → List Field → Option (List ℕ) → Type 0
IsValueNamed name fields None = (i : ℕ) (f : Field) → slice_get fields i ≡ Some f → f.name ≢ name
IsValueNamed name fields (Some value) = IsFirstNamed name fields value
