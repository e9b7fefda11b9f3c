-- The states of the reader of Huffman strings: the bits since the last whole code.
use Rattle.std.specs.Prelude.{◌≡◌, ℕ, ◌<◌, ◌≤◌, ◌%◌, Bool, List, [], ◌∷◌, ◌++◌, take, slice_index_or, nat_lt, if◌then◌else◌, Option, Some, None}
use Rattle.h2_prim.specs.declared.fault.HuffFault.{HuffFault}
use Rattle.h2_prim.specs.declared.fault.HuffFault.TheVariants as fault
use Rattle.h2_spec.specs.Hpack.HuffmanCode.{code}
use Rattle.h2_spec.specs.Hpack.Huffman.{HuffRead, Text, Eos, Padding, IsText, codes}

-- where each state is: within the code of a symbol, after that many bits of it; first the states of no ones to seven
-- ones, and last that of the whole code of the end of a string
unfoldable pub places : List (ℕ × ℕ)
places =
    (48, 0) ∷ (61, 1) ∷ (69, 2) ∷ (85, 3) ∷ (119, 4) ∷ (38, 5) ∷ (88, 6) ∷ (33, 7) ∷ (48, 1) ∷ (48, 2) ∷ (115, 2) ∷
    (61, 2) ∷ (48, 3) ∷ (99, 3) ∷ (115, 3) ∷ (47, 3) ∷ (61, 3) ∷ (108, 3) ∷ (69, 3) ∷ (48, 4) ∷ (50, 4) ∷ (99, 4) ∷
    (105, 4) ∷ (115, 4) ∷ (32, 4) ∷ (47, 4) ∷ (54, 4) ∷ (61, 4) ∷ (100, 4) ∷ (108, 4) ∷ (114, 4) ∷ (69, 4) ∷
    (77, 4) ∷ (85, 4) ∷ (32, 5) ∷ (45, 5) ∷ (47, 5) ∷ (52, 5) ∷ (54, 5) ∷ (56, 5) ∷ (61, 5) ∷ (95, 5) ∷ (100, 5) ∷
    (103, 5) ∷ (108, 5) ∷ (110, 5) ∷ (114, 5) ∷ (58, 5) ∷ (69, 5) ∷ (73, 5) ∷ (77, 5) ∷ (81, 5) ∷ (85, 5) ∷
    (106, 5) ∷ (119, 5) ∷ (58, 6) ∷ (67, 6) ∷ (69, 6) ∷ (71, 6) ∷ (73, 6) ∷ (75, 6) ∷ (77, 6) ∷ (79, 6) ∷ (81, 6) ∷
    (83, 6) ∷ (85, 6) ∷ (87, 6) ∷ (106, 6) ∷ (113, 6) ∷ (119, 6) ∷ (121, 6) ∷ (38, 6) ∷ (38, 7) ∷ (44, 7) ∷ (88, 7) ∷
    (33, 8) ∷ (63, 8) ∷ (33, 9) ∷ (40, 9) ∷ (63, 9) ∷ (124, 9) ∷ (39, 10) ∷ (124, 10) ∷ (0, 10) ∷ (35, 11) ∷
    (0, 11) ∷ (93, 11) ∷ (0, 12) ∷ (64, 12) ∷ (93, 12) ∷ (94, 12) ∷ (94, 13) ∷ (60, 13) ∷ (60, 14) ∷ (123, 14) ∷
    (92, 15) ∷ (92, 16) ∷ (176, 16) ∷ (92, 17) ∷ (131, 17) ∷ (176, 17) ∷ (178, 17) ∷ (92, 18) ∷ (208, 18) ∷
    (131, 18) ∷ (224, 18) ∷ (176, 18) ∷ (230, 18) ∷ (178, 18) ∷ (147, 18) ∷ (128, 19) ∷ (131, 19) ∷ (184, 19) ∷
    (224, 19) ∷ (153, 19) ∷ (176, 19) ∷ (216, 19) ∷ (230, 19) ∷ (154, 19) ∷ (178, 19) ∷ (198, 19) ∷ (147, 19) ∷
    (188, 19) ∷ (153, 20) ∷ (167, 20) ∷ (176, 20) ∷ (179, 20) ∷ (216, 20) ∷ (227, 20) ∷ (230, 20) ∷ (133, 20) ∷
    (154, 20) ∷ (164, 20) ∷ (178, 20) ∷ (187, 20) ∷ (198, 20) ∷ (1, 20) ∷ (147, 20) ∷ (165, 20) ∷ (188, 20) ∷
    (171, 20) ∷ (129, 21) ∷ (133, 21) ∷ (136, 21) ∷ (154, 21) ∷ (160, 21) ∷ (164, 21) ∷ (170, 21) ∷ (178, 21) ∷
    (185, 21) ∷ (187, 21) ∷ (190, 21) ∷ (198, 21) ∷ (232, 21) ∷ (1, 21) ∷ (139, 21) ∷ (147, 21) ∷ (152, 21) ∷
    (165, 21) ∷ (175, 21) ∷ (188, 21) ∷ (239, 21) ∷ (171, 21) ∷ (192, 21) ∷ (1, 22) ∷ (137, 22) ∷ (139, 22) ∷
    (141, 22) ∷ (147, 22) ∷ (150, 22) ∷ (152, 22) ∷ (157, 22) ∷ (165, 22) ∷ (168, 22) ∷ (175, 22) ∷ (182, 22) ∷
    (188, 22) ∷ (197, 22) ∷ (239, 22) ∷ (144, 22) ∷ (171, 22) ∷ (236, 22) ∷ (192, 22) ∷ (211, 22) ∷ (9, 23) ∷
    (144, 23) ∷ (148, 23) ∷ (171, 23) ∷ (215, 23) ∷ (236, 23) ∷ (199, 23) ∷ (192, 23) ∷ (218, 23) ∷ (211, 23) ∷
    (254, 23) ∷ (199, 24) ∷ (234, 24) ∷ (192, 24) ∷ (202, 24) ∷ (218, 24) ∷ (242, 24) ∷ (211, 24) ∷ (245, 24) ∷
    (254, 24) ∷ (19, 24) ∷ (192, 25) ∷ (200, 25) ∷ (202, 25) ∷ (210, 25) ∷ (218, 25) ∷ (238, 25) ∷ (242, 25) ∷
    (255, 25) ∷ (211, 25) ∷ (222, 25) ∷ (245, 25) ∷ (250, 25) ∷ (254, 25) ∷ (8, 25) ∷ (19, 25) ∷ (28, 25) ∷
    (203, 26) ∷ (211, 26) ∷ (214, 26) ∷ (222, 26) ∷ (241, 26) ∷ (245, 26) ∷ (247, 26) ∷ (250, 26) ∷ (252, 26) ∷
    (254, 26) ∷ (4, 26) ∷ (8, 26) ∷ (15, 26) ∷ (19, 26) ∷ (24, 26) ∷ (28, 26) ∷ (127, 26) ∷ (2, 27) ∷ (4, 27) ∷
    (6, 27) ∷ (8, 27) ∷ (12, 27) ∷ (15, 27) ∷ (17, 27) ∷ (19, 27) ∷ (21, 27) ∷ (24, 27) ∷ (26, 27) ∷ (28, 27) ∷
    (30, 27) ∷ (127, 27) ∷ (249, 27) ∷ (10, 28) ∷ (10, 29) ∷ (22, 29) ∷ (256, 30) ∷ []

-- the bits that a state represents: the front of a code
unfoldable pub path_of : ℕ → List Bool
path_of s = let place = slice_index_or places s (0, 0) in take place.1 (code place.0)

-- bits are the codes of a text and then a state's; any bits may follow the end of a string
pub record Represents (bs : List Bool) (text : List ℕ) (state : ℕ) : Type 0 where
  pub octets : IsText text
  pub rest : List Bool
  pub ended : state < 256 → rest ≡ []
  pub read : bs ≡ codes text ++ (path_of state ++ rest)

-- the place of the first of a state's 16 moves
abbrev pub IsRow : ℕ → Type 0
IsRow row = (row % 16 ≡ 0) × (row ≤ 4096)

-- the octet that a move makes whole, 256 less than its number; a number below 256 says that it makes none
abbrev pub emitted : ℕ → List ℕ
emitted symbol = if nat_lt symbol 256 then [] else symbol % 256 ∷ []

-- what a move says: the state's bits, those that followed the end of a string, and four more lead to the next state
abbrev pub Leads : ℕ → List Bool → ℕ → ℕ → Type 0
Leads state nibble symbol next = (rest : List Bool) → (state < 256 → rest ≡ []) → Represents (path_of state ++ (rest ++ nibble)) (emitted symbol) next

-- what a string is refused for, if it is, says what it is
abbrev pub Prints : HuffRead → List ℕ → Option HuffFault → Type 0
Prints r text None = r ≡ Text text
Prints r text (Some fault.Eos) = r ≡ Eos
Prints r text (Some fault.Padding) = r ≡ Padding
Prints r text (Some fault.NoMemory) = ⊥
