-- Instructions of field blocks, both ways (RFC 7541, 6).
use Rattle.std.specs.Prelude.{◌≡◌, List, [], ◌∷◌, ◌++◌, length, map, replicate, Some, None, true, false, refl, codes}
use Prim.Native.String.{String}
use Rattle.h2_spec.specs.Hpack.Huffman.{spell_huffman}
use Rattle.h2_spec.specs.Hpack.Instruction.{Instruction, TextStr, Indexed, Update, Literal, IncrementalIndexing, WithoutIndexing, NeverIndexed, Ref, Named, instruction_at, shape_of, spell}
use Rattle.h2_spec.specs.Read.{Whole, More, TooLong}
use Rattle.h2_spec_examples.proofs.Hex.{hex}

-- a string as it is, and a Huffman string
abbrev plain : String → TextStr
plain text = record { huffman = false; text = codes text }

abbrev coded : String → TextStr
coded text = record { huffman = true; text = codes text }

-- octets that spell an instruction, what they mean, and the shortest spelling
abbrev spellings : List (String × Instruction × String)
spellings =
    ("82", Indexed 2, "82") ∷
    ("ff8000", Indexed 127, "ff00") ∷
    ("3fe11f", Update 4096, "3fe11f") ∷
    -- RFC 7541, C.2.1 to C.2.3
    ("400a637573746f6d2d6b65790d637573746f6d2d686561646572", Literal IncrementalIndexing (Named (plain "custom-key")) (plain "custom-header"), "400a637573746f6d2d6b65790d637573746f6d2d686561646572") ∷
    ("040c2f73616d706c652f70617468", Literal WithoutIndexing (Ref 4) (plain "/sample/path"), "040c2f73616d706c652f70617468") ∷
    ("100870617373776f726406736563726574", Literal NeverIndexed (Named (plain "password")) (plain "secret"), "100870617373776f726406736563726574") ∷
    -- RFC 7541, C.3.1, C.4.1 and C.4.3
    ("410f7777772e6578616d706c652e636f6d", Literal IncrementalIndexing (Ref 1) (plain "www.example.com"), "410f7777772e6578616d706c652e636f6d") ∷
    ("418cf1e3c2e5f23a6ba0ab90f4ff", Literal IncrementalIndexing (Ref 1) (coded "www.example.com"), "418cf1e3c2e5f23a6ba0ab90f4ff") ∷
    ("408825a849e95ba97d7f8925a849e95bb8e8b4bf", Literal IncrementalIndexing (Named (coded "custom-key")) (coded "custom-value"), "408825a849e95ba97d7f8925a849e95bb8e8b4bf") ∷ []

-- each with an octet after it
instructions_are_read : map (λ (row : String × Instruction × String). instruction_at (hex (codes row.0) ++ 0x82 ∷ [])) spellings ≡ map (λ (row : String × Instruction × String). Whole (Some row.1) (length (hex (codes row.0)))) spellings
unfolding instruction_at
instructions_are_read = refl

instructions_are_written : map (λ (row : String × Instruction × String). spell (shape_of row.1)) spellings ≡ map (λ (row : String × Instruction × String). hex (codes row.2)) spellings
unfolding spell spell_huffman
instructions_are_written = refl

abbrev beginnings : List String
beginnings = "" ∷ "ff80808080" ∷ "41" ∷ "4182" ∷ "4182ff" ∷ "3fe1" ∷ []

beginnings_are_no_instructions : map (λ (octets : String). instruction_at (hex (codes octets))) beginnings ≡ replicate 6 More
unfolding instruction_at
beginnings_are_no_instructions = refl

-- an index, and the length of a value
integers_of_instructions_are_too_long : map (λ (octets : String). instruction_at (hex (codes octets))) ("ff8080808080" ∷ "417fff8080808080" ∷ []) ≡ TooLong ∷ TooLong ∷ []
unfolding instruction_at
integers_of_instructions_are_too_long = refl

-- sixteen bits of padding, and the code of EOS
values_are_no_huffman_strings : map (λ (octets : String). instruction_at (hex (codes octets))) ("4182ffff" ∷ "4184ffffffff" ∷ []) ≡ Whole None 4 ∷ Whole None 6 ∷ []
unfolding instruction_at
values_are_no_huffman_strings = refl
