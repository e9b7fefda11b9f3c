-- The static table, by index (RFC 7541, Appendix A).
use Rattle.std.specs.Prelude.{◌≡◌, ℕ, List, [], ◌∷◌, Option, Some, None, map, refl, codes}
use Prim.Native.String.{String}
use Rattle.h2_spec.specs.Hpack.StaticTable.{static_field}
use Rattle.h2_spec.specs.Hpack.Field.{Field, field}

abbrev entry : String → String → Option Field
entry name value = Some (field (codes name) (codes value))

abbrev entries : List (ℕ × Option Field)
entries =
    (0, None) ∷
    (1, entry ":authority" "") ∷
    (2, entry ":method" "GET") ∷
    (5, entry ":path" "/index.html") ∷
    (8, entry ":status" "200") ∷
    (16, entry "accept-encoding" "gzip, deflate") ∷
    (28, entry "content-length" "") ∷
    (57, entry "transfer-encoding" "") ∷
    (61, entry "www-authenticate" "") ∷
    (62, None) ∷ []

static_table_is_numbered_from_1 : map (λ (row : ℕ × Option Field). static_field row.0) entries ≡ map (λ (row : ℕ × Option Field). row.1) entries
unfolding static_field
static_table_is_numbered_from_1 = refl
