-- The dynamic table: entries that come and go (RFC 7541, 4.1 to 4.4).
use Rattle.std.specs.Prelude.{◌≡◌, ℕ, List, [], ◌∷◌, replicate, refl, codes}
use Prim.Native.String.{String}
use Rattle.h2_spec.specs.Hpack.Field.{Field, field}
use Rattle.h2_spec.specs.Hpack.DynamicTable.{Table, insert, resize, total_size}

abbrev entry : String → String → Field
entry name value = field (codes name) (codes value)

-- an empty table
abbrev empty : ℕ → Table
empty max = record { entries = []; max = max }

-- a table after these entries, the first one first
with_entries : ℕ → List Field → Table
unfolding insert
with_entries max [] = empty max
with_entries max (e ∷ es) = go (insert (empty max) e) es
  where
    go : Table → List Field → Table
    go t [] = t
    go t (f ∷ fs) = go (insert t f) fs

-- each of these counts 34 octets
entries_count_32_octets_more : total_size (with_entries 100 (entry "a" "b" ∷ entry "c" "d" ∷ [])).entries ≡ 68
unfolding with_entries
entries_count_32_octets_more = refl

-- a third entry of 34 octets does not fit into 100
oldest_entry_is_evicted : (with_entries 100 (entry "a" "b" ∷ entry "c" "d" ∷ entry "e" "f" ∷ [])).entries ≡ entry "e" "f" ∷ entry "c" "d" ∷ []
unfolding with_entries
oldest_entry_is_evicted = refl

smaller_maximum_evicts_the_oldest_entry : resize (with_entries 100 (entry "c" "d" ∷ entry "e" "f" ∷ [])) 40 ≡ record { entries = entry "e" "f" ∷ []; max = 40 }
unfolding with_entries resize
smaller_maximum_evicts_the_oldest_entry = refl

-- one entry takes the place of another
entry_replaces_another : with_entries 40 (entry "c" "d" ∷ entry "e" "f" ∷ []) ≡ record { entries = entry "e" "f" ∷ []; max = 40 }
unfolding with_entries
entry_replaces_another = refl

sixth_entry_evicts_the_first_of_five : with_entries 200 (entry "h" "b" ∷ entry "c" "b" ∷ entry "d" "b" ∷ entry "e" "b" ∷ entry "f" "b" ∷ entry "g" "b" ∷ [])
    ≡ record { entries = entry "g" "b" ∷ entry "f" "b" ∷ entry "e" "b" ∷ entry "d" "b" ∷ entry "c" "b" ∷ []; max = 200 }
unfolding with_entries
sixth_entry_evicts_the_first_of_five = refl

-- a field without a name, whose value has this many octets
abbrev long : ℕ → Field
long n = field [] (replicate n 0x78)

-- 4,064 octets and 32 more are the whole table
entry_of_the_maximum_is_the_only_one : total_size (with_entries 4096 (entry "a" "b" ∷ long 4064 ∷ [])).entries ≡ 4096
unfolding with_entries
entry_of_the_maximum_is_the_only_one = refl

entry_above_the_maximum_empties_the_table : (with_entries 4096 (entry "a" "b" ∷ long 4065 ∷ [])).entries ≡ []
unfolding with_entries
entry_above_the_maximum_empties_the_table = refl
