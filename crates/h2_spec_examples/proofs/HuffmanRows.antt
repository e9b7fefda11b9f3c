-- Huffman strings, both ways, and strings that are none (RFC 7541, 5.2).
use Rattle.std.specs.Prelude.{◌≡◌, ℕ, List, [], ◌∷◌, map, refl, codes}
use Prim.Native.String.{String}
use Rattle.h2_spec.specs.Hpack.Huffman.{spell_huffman, huffman_text, Text, Eos, Padding}
use Rattle.h2_spec_examples.proofs.Hex.{hex}

-- texts and their Huffman strings
abbrev texts : List (List ℕ × String)
texts =
    -- RFC 7541, C.4 and C.6
    (codes "www.example.com", "f1e3c2e5f23a6ba0ab90f4ff") ∷
    (codes "no-cache", "a8eb10649cbf") ∷
    (codes "302", "6402") ∷
    (codes "private", "aec3771a4b") ∷
    (codes "Mon, 21 Oct 2013 20:13:21 GMT", "d07abe941054d444a8200595040b8166e082a62d1bff") ∷
    -- octets with long codes (RFC 7541, Appendix B)
    (0x01 ∷ [], "ffffb1") ∷
    (0xff ∷ [], "fffffbbf") ∷
    (0xf9 ∷ [], "ffffffef") ∷
    (0x0a ∷ [], "fffffff3") ∷
    -- three ones are padding
    (codes "0", "07") ∷
    ([], "") ∷ []

texts_are_spelled : map (λ (row : List ℕ × String). spell_huffman row.0) texts ≡ map (λ (row : List ℕ × String). hex (codes row.1)) texts
unfolding spell_huffman
texts_are_spelled = refl

texts_are_read : map (λ (row : List ℕ × String). huffman_text (hex (codes row.1))) texts ≡ map (λ (row : List ℕ × String). Text row.0) texts
unfolding huffman_text
texts_are_read = refl

eight_ones_are_no_padding : huffman_text (0xff ∷ []) ≡ Padding
unfolding huffman_text
eight_ones_are_no_padding = refl

zeros_are_no_padding : huffman_text (0x00 ∷ []) ≡ Padding
unfolding huffman_text
zeros_are_no_padding = refl

end_of_string_is_refused : huffman_text (0xff ∷ 0xff ∷ 0xff ∷ 0xff ∷ []) ≡ Eos
unfolding huffman_text
end_of_string_is_refused = refl

end_of_string_behind_a_text_is_refused : huffman_text (0x07 ∷ 0xff ∷ 0xff ∷ 0xff ∷ 0xff ∷ []) ≡ Eos
unfolding huffman_text
end_of_string_behind_a_text_is_refused = refl
