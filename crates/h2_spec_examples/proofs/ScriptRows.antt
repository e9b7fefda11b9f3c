-- Worked scripts, both ways; the octets are written out from RFC 9113 and RFC 7541.
use Rattle.std.specs.Prelude.{◌≡◌, ℕ, List, [], ◌∷◌, map, refl, codes, Result, Ok, Err}
use Rattle.std.specs.Fmt.{digits}
use Rattle.hex.specs.Hex.{encode_with, decode_pairs}
use Prim.Native.String.{String}
use Rattle.h2_spec.specs.Texts.Assemble.{assembled}
use Rattle.h2_spec.specs.Texts.Written.{written}
use Rattle.h2_spec.specs.declared.scripts.SyntaxKind.{SyntaxKind}
use Rattle.h2_spec.specs.declared.scripts.SyntaxKind.TheVariants as kind
use Rattle.h2_spec_examples.proofs.Hex.{hex}

abbrev Row : Type 0
Row = String × String

-- ---- both ways

-- octets, and the one script that is written for them, which is read as them again
abbrev scripts : List Row
scripts =
    ("", "") ∷
    -- an integer spelled long, and the beginning of a head
    ("00000400080000000102610000000003010500000001ff80000000000001", "DATA 08 1 x02610000\nHEADERS 05 1 xff8000\nRAW 0000000001\n") ∷
    -- the request of RFC 7541, C.3.1
    (
      "505249202a20485454502f322e300d0a0d0a534d0d0a0d0a000000040000000000000014010500000001828684410f7777772e6578616d706c652e636f6d",
      "PREFACE\nSETTINGS 00 0 -\nHEADERS 05 1 hi2,i6,i4,a1=\"www.example.com\"\n",
    ) ∷
    -- an unknown type
    ("000001ff000000000001", "Tff 00 0 x01\n") ∷
    -- settings, none of them, and one cut short
    ("00000c040000000000000300000064000600010000", "SETTINGS 00 0 s3=100,6=65536\n") ∷
    ("000000040000000000", "SETTINGS 00 0 -\n") ∷
    ("0000050400000000000003000000", "SETTINGS 00 0 x0003000000\n") ∷
    -- the reserved bit of a head, and that of an increment
    ("00000408008000000100000005", "WINDOW_UPDATE 00 1R w5\n") ∷
    ("00000408000000000180000005", "WINDOW_UPDATE 00 1 x80000005\n") ∷
    ("00000403000000000100000008", "RST_STREAM 00 1 c8\n") ∷
    -- a size update, a literal that is never indexed, and a Huffman string
    ("00000c0104000000013fe11f100161016201826402", "HEADERS 04 1 hu4096,v\"a\"=\"b\",n1='302'\n") ∷
    ("000000000000000001", "DATA 00 1 -\n") ∷
    ("000001000f00000001ab", "DATA 0f 1 xab\n") ∷
    -- an octet that is escaped
    ("00000b0904000000010007782d71756f74650122", "CONTINUATION 04 1 hn\"x-quote\"=\"\\22\"\n") ∷
    -- no field blocks: the beginning of an instruction, padding, and a string that is no Huffman string
    ("00000301040000000101ff81", "HEADERS 04 1 x01ff81\n") ∷
    ("000002010c000000010082", "HEADERS 0c 1 x0082\n") ∷
    ("0000030104000000010181ff", "HEADERS 04 1 x0181ff\n") ∷ []

octets_are_written : map (λ (row : Row). written (hex (codes row.0))) scripts ≡ map (λ (row : Row). codes row.1) scripts
unfolding written digits encode_with
octets_are_written = refl

scripts_are_read_back : map (λ (row : Row). assembled (codes row.1)) scripts ≡ map (λ (row : Row). let read : Result (List ℕ) (ℕ × SyntaxKind) = Ok (hex (codes row.0)) in read) scripts
unfolding assembled decode_pairs
scripts_are_read_back = refl

-- ---- scripts that are not written so

abbrev forms : List Row
forms =
    ("; a comment\n\n", "") ∷
    ("PREFACE", "505249202a20485454502f322e300d0a0d0a534d0d0a0d0a") ∷
    ("RAW 0000000001", "0000000001") ∷
    ("Tff 00 0 x01", "000001ff000000000001") ∷
    -- capital digits, and leading zeros
    ("DATA 0F 01 xAB", "000001000f00000001ab") ∷
    ("CONTINUATION 04 1 hn\"\\22,=\"='\\5c'\n;\n", "0000090904000000010003222c3d83fffe1f") ∷ []

scripts_are_read : map (λ (row : Row). assembled (codes row.0)) forms ≡ map (λ (row : Row). let read : Result (List ℕ) (ℕ × SyntaxKind) = Ok (hex (codes row.1)) in read) forms
unfolding assembled decode_pairs
scripts_are_read = refl

-- ---- bad lines: the first one, and the least fault in it

abbrev bad_lines : List (String × ℕ × SyntaxKind)
bad_lines =
    ("SETTINGS 00 0", 1, kind.Parts) ∷
    ("PREFACE ", 1, kind.Parts) ∷
    ("RAW ", 1, kind.Parts) ∷
    ("; a comment\nFOO 00 0 -\n", 2, kind.Name) ∷
    ("PING 0g 0 -", 1, kind.Flags) ∷
    ("DATA 0g x x0", 1, kind.Flags) ∷
    ("PING 00 2147483648 -", 1, kind.Stream) ∷
    ("PING 00 0 q", 1, kind.Payload) ∷
    ("RAW 0", 1, kind.Payload) ∷
    ("HEADERS 00 1 hi1,", 1, kind.Payload) ∷ []

bad_lines_are_reported : map (λ (row : String × ℕ × SyntaxKind). assembled (codes row.0)) bad_lines ≡ map (λ (row : String × ℕ × SyntaxKind). let read : Result (List ℕ) (ℕ × SyntaxKind) = Err (row.1, row.2) in read) bad_lines
unfolding assembled decode_pairs
bad_lines_are_reported = refl
