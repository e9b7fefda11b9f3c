-- The examples of RFC 7541, Appendix C.2 to C.6, and blocks at the edge of the table: of each block its fields and what
-- they count, and the entries after it, the newest first, and what they count.
use Rattle.std.specs.Prelude.{◌≡◌, ℕ, List, [], ◌∷◌, false, refl, codes}
use Prim.Native.String.{String}
use Rattle.h2_spec.specs.Hpack.Field.{Field, field}
use Rattle.h2_spec.specs.Hpack.DynamicTable.{Table, total_size}
use Rattle.h2_spec.specs.Hpack.Block.{Decoded, Outcome, Unfinished, decoded, list_size, start}
use Rattle.h2_spec_examples.proofs.Hex.{hex}

abbrev fields : List (String × String) → List Field
fields [] = []
fields (p ∷ ps) = field (codes p.0) (codes p.1) ∷ fields ps

-- how a block ends, and what it leaves
abbrev Left : Type 0
Left = Outcome × List Field × ℕ × List Field × ℕ

abbrev left : Decoded → Left
left d = (d.outcome, d.progress.fields, list_size d.progress.fields, d.progress.table.entries, total_size d.progress.table.entries)

-- what is wanted of a block that is whole
abbrev leaves : List (String × String) → ℕ → List (String × String) → ℕ → Left
leaves given count entries size = (Unfinished [], fields given, count, fields entries, size)

-- blocks one after another, on a table of this limit that is empty at first
in_turn : ℕ → Table → List String → List Left
unfolding decoded
in_turn limit table [] = []
in_turn limit table (block ∷ blocks) = let d = decoded limit (start table false) (hex (codes block)) in left d ∷ in_turn limit d.progress.table blocks

on_empty : ℕ → List String → List Left
unfolding in_turn
on_empty limit blocks = in_turn limit (record { entries = []; max = limit }) blocks

-- ---- C.2: one field

literal_with_indexing : on_empty 4096 ("400a637573746f6d2d6b65790d637573746f6d2d686561646572" ∷ []) ≡
    leaves (("custom-key", "custom-header") ∷ []) 55 (("custom-key", "custom-header") ∷ []) 55 ∷ []
unfolding on_empty
literal_with_indexing = refl

literal_without_indexing : on_empty 4096 ("040c2f73616d706c652f70617468" ∷ []) ≡ leaves ((":path", "/sample/path") ∷ []) 49 [] 0 ∷ []
unfolding on_empty
literal_without_indexing = refl

literal_never_indexed : on_empty 4096 ("100870617373776f726406736563726574" ∷ []) ≡ leaves (("password", "secret") ∷ []) 46 [] 0 ∷ []
unfolding on_empty
literal_never_indexed = refl

indexed_field : on_empty 4096 ("82" ∷ []) ≡ leaves ((":method", "GET") ∷ []) 42 [] 0 ∷ []
unfolding on_empty
indexed_field = refl

-- ---- C.3 and C.4: three requests on one table of 4096 octets

abbrev requests : List Left
requests =
    leaves ((":method", "GET") ∷ (":scheme", "http") ∷ (":path", "/") ∷ (":authority", "www.example.com") ∷ []) 180
    ((":authority", "www.example.com") ∷ []) 57 ∷
    leaves ((":method", "GET") ∷ (":scheme", "http") ∷ (":path", "/") ∷ (":authority", "www.example.com") ∷ ("cache-control", "no-cache") ∷ []) 233
    (("cache-control", "no-cache") ∷ (":authority", "www.example.com") ∷ []) 110 ∷
    leaves ((":method", "GET") ∷ (":scheme", "https") ∷ (":path", "/index.html") ∷ (":authority", "www.example.com") ∷ ("custom-key", "custom-value") ∷ []) 245
    (("custom-key", "custom-value") ∷ ("cache-control", "no-cache") ∷ (":authority", "www.example.com") ∷ []) 164 ∷ []

requests_without_huffman : on_empty 4096 (
    "828684410f7777772e6578616d706c652e636f6d" ∷
    "828684be58086e6f2d6361636865" ∷
    "828785bf400a637573746f6d2d6b65790c637573746f6d2d76616c7565" ∷ []) ≡ requests
unfolding on_empty
requests_without_huffman = refl

requests_with_huffman : on_empty 4096 (
    "828684418cf1e3c2e5f23a6ba0ab90f4ff" ∷
    "828684be5886a8eb10649cbf" ∷
    "828785bf408825a849e95ba97d7f8925a849e95bb8e8b4bf" ∷ []) ≡ requests
unfolding on_empty
requests_with_huffman = refl

-- ---- C.5 and C.6: three responses on one table of 256 octets

abbrev responses : List Left
responses =
    leaves ((":status", "302") ∷ ("cache-control", "private") ∷ ("date", "Mon, 21 Oct 2013 20:13:21 GMT") ∷ ("location", "https://www.example.com") ∷ []) 222
    (("location", "https://www.example.com") ∷ ("date", "Mon, 21 Oct 2013 20:13:21 GMT") ∷ ("cache-control", "private") ∷ (":status", "302") ∷ []) 222 ∷
    leaves ((":status", "307") ∷ ("cache-control", "private") ∷ ("date", "Mon, 21 Oct 2013 20:13:21 GMT") ∷ ("location", "https://www.example.com") ∷ []) 222
    ((":status", "307") ∷ ("location", "https://www.example.com") ∷ ("date", "Mon, 21 Oct 2013 20:13:21 GMT") ∷ ("cache-control", "private") ∷ []) 222 ∷
    leaves ((":status", "200") ∷ ("cache-control", "private") ∷ ("date", "Mon, 21 Oct 2013 20:13:22 GMT") ∷ ("location", "https://www.example.com") ∷ ("content-encoding", "gzip") ∷
    ("set-cookie", "foo=ASDJKHQKBZXOQWEOPIUAXQWEOIU; max-age=3600; version=1") ∷ []) 372
    (("set-cookie", "foo=ASDJKHQKBZXOQWEOPIUAXQWEOIU; max-age=3600; version=1") ∷ ("content-encoding", "gzip") ∷ ("date", "Mon, 21 Oct 2013 20:13:22 GMT") ∷ []) 215 ∷ []

responses_without_huffman : on_empty 256 (
    "4803333032580770726976617465611d4d6f6e2c203231204f637420323031332032303a31333a323120474d546e1768747470733a2f2f7777772e6578616d706c652e636f6d" ∷
    "4803333037c1c0bf" ∷
    "88c1611d4d6f6e2c203231204f637420323031332032303a31333a323220474d54c05a04677a69707738666f6f3d4153444a4b48514b425a584f5157454f50495541585157454f49553b206d61782d6167653d333630303b2076657273696f6e3d31" ∷ []) ≡ responses
unfolding on_empty
responses_without_huffman = refl

responses_with_huffman : on_empty 256 (
    "488264025885aec3771a4b6196d07abe941054d444a8200595040b8166e082a62d1bff6e919d29ad171863c78f0b97c8e9ae82ae43d3" ∷
    "4883640effc1c0bf" ∷
    "88c16196d07abe941054d444a8200595040b8166e084a62d1bffc05a839bd9ab77ad94e7821dd7f2e6c7b335dfdfcd5b3960d5af27087f3672c1ab270fb5291f9587316065c003ed4ee5b1063d5007" ∷ []) ≡ responses
unfolding on_empty
responses_with_huffman = refl

-- ---- at the edge of the table (RFC 7541, 4.2 to 4.4)

size_update_to_the_limit_is_taken : on_empty 4096 ("3fe11f828684" ∷ []) ≡ leaves ((":method", "GET") ∷ (":scheme", "http") ∷ (":path", "/") ∷ []) 123 [] 0 ∷ []
unfolding on_empty
size_update_to_the_limit_is_taken = refl

-- two entries; a size update to 34 octets, which leaves the newest; one to 0 and one to the limit
size_updates_evict_entries : on_empty 4096 ("40016101624001630164" ∷ "3f03be" ∷ "203fe11f40016501668286" ∷ []) ≡
    leaves (("a", "b") ∷ ("c", "d") ∷ []) 68 (("c", "d") ∷ ("a", "b") ∷ []) 68 ∷
    leaves (("c", "d") ∷ []) 34 (("c", "d") ∷ []) 34 ∷
    leaves (("e", "f") ∷ (":method", "GET") ∷ (":scheme", "http") ∷ []) 119 (("e", "f") ∷ []) 34 ∷ []
unfolding on_empty
size_updates_evict_entries = refl

-- an insertion that evicts the entry of its own name keeps the name
evicted_name_is_used : on_empty 60 ("40026161026262" ∷ "7e146363636363636363636363636363636363636363" ∷ []) ≡
    leaves (("aa", "bb") ∷ []) 36 (("aa", "bb") ∷ []) 36 ∷
    leaves (("aa", "cccccccccccccccccccc") ∷ []) 54 (("aa", "cccccccccccccccccccc") ∷ []) 54 ∷ []
unfolding on_empty
evicted_name_is_used = refl

entry_above_the_maximum_is_a_field_all_the_same : on_empty 60 ("40026161026262" ∷ "7e1e636363636363636363636363636363636363636363636363636363636363" ∷ []) ≡
    leaves (("aa", "bb") ∷ []) 36 (("aa", "bb") ∷ []) 36 ∷
    leaves (("aa", "cccccccccccccccccccccccccccccc") ∷ []) 64 [] 0 ∷ []
unfolding on_empty
entry_above_the_maximum_is_a_field_all_the_same = refl
