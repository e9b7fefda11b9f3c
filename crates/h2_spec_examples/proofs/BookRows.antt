-- Worked rows of the book of answers: the entries that it refuses, the answers that requests pick, their octets, and the
-- words of an answer.
use Rattle.std.specs.Prelude.{◌≡◌, ℕ, true, false, List, [], ◌∷◌, map, refl, codes, replicate, Option, Some, None}
use Prim.Native.String.{String}
use Rattle.h2_spec.specs.declared.streams.Pick.{Pick}
use Rattle.h2_spec.specs.declared.streams.Pick.TheVariants.{Listed, NotFound, Connect}
use Rattle.h2_spec.specs.Hpack.Field.{Field, field}
use Rattle.h2_spec.specs.Frames.Frame.{frame_octets}
use Rattle.h2_spec.specs.Requests.Request.{Request}
use Rattle.h2_spec.specs.Requests.Answer.{Answer, Entry, answer, pick_of, picked, response_block}
use Rattle.h2_spec.specs.Change.{response}
use Rattle.h2_spec.specs.SendPending.{piece}
use Rattle.h2_spec.specs.Requests.Book.{entry_fault}
use Rattle.h2_spec.specs.Requests.AnswerWords.{entry_of}
use Rattle.h2_spec_examples.proofs.Hex.{hex}

abbrev pair : String → String → Field
pair name value = field (codes name) (codes value)

-- ---- entries

abbrev to_get : ℕ → List Field → List ℕ → Entry
to_get status fields body = record { method = codes "GET"; path = codes "/"; answer = answer status fields body }

-- an entry whose answer is early
abbrev early : Entry → Entry
early e = record e { answer = record e.answer { early = true } }

abbrev to_head : List ℕ → Entry
to_head body = record { method = codes "HEAD"; path = codes "/"; answer = answer 200 [] body }

-- a field whose literal is this many octets and nine more
abbrev long_field : ℕ → Field
long_field n = field (codes "a") (replicate n 0x62)

-- entries of an empty book
abbrev entries : List (Entry × Option ℕ)
entries =
    (to_get 200 [] (codes "hi"), None) ∷
    (to_get 199 [] [], Some 12) ∷
    (to_get 600 (pair "A" "b" ∷ []) [], Some 12) ∷
    (to_get 200 (pair "A" "b" ∷ []) [], Some 13) ∷
    (to_get 200 (pair "a" "b " ∷ []) [], Some 13) ∷
    (to_get 200 (pair "connection" "close" ∷ []) [], Some 13) ∷
    (to_get 200 (pair ":status" "200" ∷ []) [], Some 13) ∷
    (to_get 200 (pair "content-length" "2" ∷ []) (codes "hi"), Some 13) ∷
    (to_get 204 [] (codes "hi"), Some 14) ∷
    (to_get 205 [] (codes "hi"), Some 14) ∷
    (to_get 304 [] (codes "hi"), Some 14) ∷
    (to_head (codes "hi"), Some 14) ∷
    (to_head [], None) ∷
    -- 16383 octets: a status, a literal's first octet, a name, a length in three octets, and 16376 octets
    (to_get 200 (long_field 16376 ∷ []) [], None) ∷
    (to_get 200 (long_field 16377 ∷ []) [], Some 15) ∷ []

entries_are_judged : map (λ (row : Entry × Option ℕ). entry_fault [] row.0) entries ≡ map (λ (row : Entry × Option ℕ). row.1) entries
unfolding entry_fault
entries_are_judged = refl

full_book : entry_fault (replicate 1000 (to_get 200 [] [])) (to_get 200 [] []) ≡ Some 15
unfolding entry_fault
full_book = refl

last_place : entry_fault (replicate 999 (to_get 200 [] [])) (to_get 200 [] []) ≡ None
unfolding entry_fault
last_place = refl

-- ---- what requests pick (8.3.2 and 8.5)

-- a book of one answer, which is early
abbrev book : List Entry
book = early (to_get 200 (pair "a" "b" ∷ []) (codes "hi")) ∷ []

abbrev asked : String → String → Request
asked method path = record { connect = false; method = codes method; path = codes path; declared = Some 12 }

requests_pick_answers : pick_of book (asked "GET" "/") ∷ pick_of book (asked "POST" "/") ∷ pick_of book (asked "GET" "/a") ∷ pick_of book (record (asked "CONNECT" "") { connect = true }) ∷ []
    ≡ Listed 0 ∷ NotFound ∷ NotFound ∷ Connect ∷ []
unfolding pick_of
requests_pick_answers = refl

-- RFC 9110, 15.5.5 and 15.6.2
picks_are_answered : map (λ (pick : Pick). picked book pick) (Listed 0 ∷ NotFound ∷ Connect ∷ [])
    ≡ record (answer 200 (pair "a" "b" ∷ []) (codes "hi")) { early = true } ∷ answer 404 [] [] ∷ answer 501 [] [] ∷ []
picks_are_answered = refl

-- the HEADERS of each answer and its body as one DATA, both on stream 0 (4.1, 6.1 and 6.2; RFC 7541, 6.1 and 6.2.2)
headers_and_body : Answer → List ℕ × List ℕ
unfolding frame_octets response_block
headers_and_body a = (frame_octets (response false 0 a), frame_octets (piece 0 true a.body))

abbrev both : String → String → List ℕ × List ℕ
both headers body = (hex (codes headers), hex (codes body))

answers_are_written : map (λ (pick : Pick). headers_and_body (picked book pick)) (Listed 0 ∷ NotFound ∷ Connect ∷ [])
    ≡ both "000006010400000000880001610162" "0000020001000000006869" ∷ both "0000010105000000008d" "000000000100000000" ∷ both "0000050105000000000803353031" "000000000100000000" ∷ []
unfolding headers_and_body
answers_are_written = refl

-- ---- field blocks of responses

indexed_status : response_block false 200 [] ≡ 0x88 ∷ []
unfolding response_block
indexed_status = refl

behind_a_size_update : response_block true 200 [] ≡ 0x20 ∷ 0x88 ∷ []
unfolding response_block
behind_a_size_update = refl

literal_status : response_block false 501 [] ≡ 0x08 ∷ 0x03 ∷ codes "501"
unfolding response_block
literal_status = refl

literal_field : response_block false 302 (pair "a" "b" ∷ []) ≡ 0x08 ∷ 0x03 ∷ 0x33 ∷ 0x30 ∷ 0x32 ∷ 0x00 ∷ 0x01 ∷ 0x61 ∷ 0x01 ∷ 0x62 ∷ []
unfolding response_block
literal_field = refl

-- ---- the words of an answer

abbrev texts : List (List ℕ × Option Entry)
texts =
    (codes "GET|/|200|6869", Some (to_get 200 [] (codes "hi"))) ∷
    (codes "GET|/|200|", Some (to_get 200 [] [])) ∷
    (codes "GET|/|200||a=b=c|d=", Some (to_get 200 (pair "a" "b=c" ∷ pair "d" "" ∷ []) [])) ∷
    (codes "GET|/|000|", Some (to_get 0 [] [])) ∷
    (codes "GET|/|200", None) ∷
    (codes "GET|/|20|", None) ∷
    (codes "GET|/|2x0|", None) ∷
    (codes "GET|/|200|686", None) ∷
    (codes "GET|/|200|6g", None) ∷
    (codes "GET|/|200||", None) ∷
    (codes "GET|/|200||late", None) ∷
    (codes "GET|/|200||early", Some (early (to_get 200 [] []))) ∷
    (codes "GET|/|200||a=b|early", Some (early (to_get 200 (pair "a" "b" ∷ []) []))) ∷
    (codes "GET|/|200|6869|early|a=b", Some (early (to_get 200 (pair "a" "b" ∷ []) (codes "hi")))) ∷
    (codes "GET|/|200||early=1", Some (to_get 200 (pair "early" "1" ∷ []) [])) ∷
    (codes "GET|/|200||early|early", None) ∷
    (codes "GET|/|200||early|a=b|early", None) ∷
    (codes "GET|/|200||Early", None) ∷
    (codes "GET|/|200||early|late", None) ∷
    (codes "GET|/|200|early", None) ∷
    (codes "", None) ∷ []

texts_are_read : map (λ (row : List ℕ × Option Entry). entry_of row.0) texts ≡ map (λ (row : List ℕ × Option Entry). row.1) texts
unfolding entry_of
texts_are_read = refl
