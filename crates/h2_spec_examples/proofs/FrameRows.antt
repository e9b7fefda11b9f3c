-- Items that octets begin with, and heads (RFC 9113, 3.4, 4.1 and 4.2), with frames of at most 16384 octets.
use Rattle.std.specs.Prelude.{◌≡◌, [], ◌∷◌, refl, codes, true, false, Some, None}
use Prim.Native.String.{String}
use Rattle.h2_spec.specs.Frames.Frame.{Next, NoItem, Got, Preface, BadPreface, WholeFrame, Oversize, next, head_at, frame, frame_octets}
use Rattle.h2_spec_examples.proofs.Hex.{hex}

first : String → Next
unfolding next
first octets = next true 16384 (hex (codes octets))

then : String → Next
unfolding next
then octets = next false 16384 (hex (codes octets))

-- ---- the preface (3.4)

no_octets_are_no_item : first "" ≡ NoItem
unfolding first
no_octets_are_no_item = refl

preface_without_its_last_octet : first "505249202a20485454502f322e300d0a0d0a534d0d0a0d" ≡ NoItem
unfolding first
preface_without_its_last_octet = refl

whole_preface : first "505249202a20485454502f322e300d0a0d0a534d0d0a0d0a" ≡ Got Preface 24
unfolding first
whole_preface = refl

preface_with_another_last_octet : first "505249202a20485454502f322e300d0a0d0a534d0d0a0d0b" ≡ Got BadPreface 24
unfolding first
preface_with_another_last_octet = refl

-- GET / HTTP/1.1: what follows the octet that differs is no part of the item
another_first_octet : first "474554202f20485454502f312e31" ≡ Got BadPreface 1
unfolding first
another_first_octet = refl

-- ---- frames (4.1 and 4.2)

ping_is_a_whole_frame : then "0000080600000000000102030405060708" ≡ Got (WholeFrame (record { length = 8; kind = 6; flags = 0; reserved = false; stream = 0 }) (1 ∷ 2 ∷ 3 ∷ 4 ∷ 5 ∷ 6 ∷ 7 ∷ 8 ∷ [])) 17
unfolding then
ping_is_a_whole_frame = refl

one_octet_above_the_limit : then "004001000000000001" ≡ Got (Oversize (record { length = 16385; kind = 0; flags = 0; reserved = false; stream = 1 })) 9
unfolding then
one_octet_above_the_limit = refl

head_at_the_limit_alone : then "0040000a0000000000" ≡ NoItem
unfolding then
head_at_the_limit_alone = refl

reserved_bit_is_no_part_of_the_stream : then "0000000901ffffffff" ≡ Got (WholeFrame (record { length = 0; kind = 9; flags = 1; reserved = true; stream = 2147483647 }) []) 9
unfolding then
reserved_bit_is_no_part_of_the_stream = refl

eight_octets_are_no_head : head_at (hex (codes "0000080600000000")) ≡ None
unfolding head_at
eight_octets_are_no_head = refl

-- what follows a head is no part of it
head_of_a_ping : head_at (hex (codes "0000080600000000000102030405060708")) ≡ Some (record { length = 8; kind = 6; flags = 0; reserved = false; stream = 0 })
unfolding head_at
head_of_a_ping = refl

largest_values_of_a_head : head_at (hex (codes "004000ff09ffffffff")) ≡ Some (record { length = 16384; kind = 255; flags = 9; reserved = true; stream = 2147483647 })
unfolding head_at
largest_values_of_a_head = refl

ping_is_written : frame_octets (frame 6 0 0 (1 ∷ 2 ∷ 3 ∷ 4 ∷ 5 ∷ 6 ∷ 7 ∷ 8 ∷ [])) ≡ hex (codes "0000080600000000000102030405060708")
unfolding frame_octets
ping_is_written = refl
