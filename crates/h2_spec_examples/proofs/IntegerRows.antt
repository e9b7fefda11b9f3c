-- Integers as RFC 7541, Appendix C.1, has them, and where they end (5.1).
use Rattle.std.specs.Prelude.{◌≡◌, [], ◌∷◌, refl}
use Rattle.h2_spec.specs.Hpack.Integer.{int_at, spell_int}
use Rattle.h2_spec.specs.Read.{Whole, More, TooLong}

ten_is_read : int_at 5 (0x0a ∷ []) ≡ Whole 10 1
unfolding int_at
ten_is_read = refl

-- the bits above the prefix are no part of the integer
ten_beside_other_bits_is_read : int_at 5 (0xea ∷ 0xff ∷ []) ≡ Whole 10 1
unfolding int_at
ten_beside_other_bits_is_read = refl

ten_is_spelled : spell_int 5 0 10 ≡ 0x0a ∷ []
unfolding spell_int
ten_is_spelled = refl

three_octets_are_read : int_at 5 (0x1f ∷ 0x9a ∷ 0x0a ∷ []) ≡ Whole 1337 3
unfolding int_at
three_octets_are_read = refl

three_octets_are_spelled : spell_int 5 0 1337 ≡ 0x1f ∷ 0x9a ∷ 0x0a ∷ []
unfolding spell_int
three_octets_are_spelled = refl

-- in a size update, whose first octet begins with 001 (6.3)
bits_above_the_prefix_are_spelled : spell_int 5 0x20 1337 ≡ 0x3f ∷ 0x9a ∷ 0x0a ∷ []
unfolding spell_int
bits_above_the_prefix_are_spelled = refl

-- a prefix that is full is followed by an octet, even if that is 0
full_prefix_is_spelled : spell_int 7 0x80 127 ≡ 0xff ∷ 0x00 ∷ []
unfolding spell_int
full_prefix_is_spelled = refl

largest_value_is_spelled : spell_int 4 0 4294967295 ≡ 0x0f ∷ 0xf0 ∷ 0xff ∷ 0xff ∷ 0xff ∷ 0x0f ∷ []
unfolding spell_int
largest_value_is_spelled = refl

whole_octet_is_read : int_at 8 (0x2a ∷ []) ≡ Whole 42 1
unfolding int_at
whole_octet_is_read = refl

longer_spelling_is_read : int_at 5 (0x1f ∷ 0x9a ∷ 0x8a ∷ 0x80 ∷ 0x00 ∷ []) ≡ Whole 1337 5
unfolding int_at
longer_spelling_is_read = refl

last_octet_is_missing : int_at 5 (0x1f ∷ 0x9a ∷ []) ≡ More
unfolding int_at
last_octet_is_missing = refl

four_continuations_are_unfinished : int_at 5 (0x1f ∷ 0x80 ∷ 0x80 ∷ 0x80 ∷ 0x80 ∷ []) ≡ More
unfolding int_at
four_continuations_are_unfinished = refl

five_continuations_are_too_long : int_at 5 (0x1f ∷ 0x80 ∷ 0x80 ∷ 0x80 ∷ 0x80 ∷ 0x80 ∷ []) ≡ TooLong
unfolding int_at
five_continuations_are_too_long = refl
