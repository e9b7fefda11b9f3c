-- Strings of instructions: a flag, a length, and octets (RFC 7541, 5.2).
use Rattle.std.specs.Prelude.{◌≡◌, [], ◌∷◌, Bool, true, false, Option, Some, refl, codes}
use Prim.Native.String.{String}
use Rattle.h2_spec.specs.Hpack.Huffman.{huffman_text}
use Rattle.h2_spec.specs.Hpack.Instruction.{TextStr, string_at, text_str}
use Rattle.h2_spec.specs.Read.{Read, Whole, More, TooLong, read_map}
use Rattle.h2_spec_examples.proofs.Hex.{hex}

-- the string at the front of octets, by its text
text_at : String → Read (Option TextStr)
unfolding string_at huffman_text
text_at octets = read_map text_str (string_at (hex (codes octets)))

abbrev string : Bool → String → Option TextStr
string huffman text = Some (record { huffman = huffman; text = codes text })

-- RFC 7541, C.6.1
huffman_string_is_read : text_at "826402" ≡ Whole (string true "302") 3
unfolding text_at
huffman_string_is_read = refl

-- what follows a string is no part of it
plain_string_is_read : text_at "0333303272657374" ≡ Whole (string false "302") 4
unfolding text_at
plain_string_is_read = refl

empty_string_is_read : text_at "00" ≡ Whole (string false "") 1
unfolding text_at
empty_string_is_read = refl

-- as it is, whatever its octets represent
octets_of_a_string_are_found : string_at (hex (codes "826402")) ≡ Whole (record { huffman = true; octets = 0x64 ∷ 0x02 ∷ [] }) 3
unfolding string_at
octets_of_a_string_are_found = refl

octet_of_a_string_is_missing : text_at "8264" ≡ More
unfolding text_at
octet_of_a_string_is_missing = refl

length_of_a_string_is_too_long : text_at "7f8080808080" ≡ TooLong
unfolding text_at
length_of_a_string_is_too_long = refl
