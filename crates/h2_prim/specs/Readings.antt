-- The answers of this crate as those of the definitions.
use Rattle.std.specs.Prelude.{◌≡◌, ℕ, ◌<◌, ◌≤◌, ◌^◌, Bool, List}
use Rattle.h2_prim.specs.declared.integer.IntRead.{IntRead}
use Rattle.h2_prim.specs.declared.integer.IntRead.TheVariants as int
use Rattle.h2_prim.specs.declared.fault.HuffFault.{HuffFault}
use Rattle.h2_prim.specs.declared.fault.HuffFault.TheVariants.{NoMemory, Eos, Padding}
use Rattle.h2_prim.specs.declared.string.StrAt.{StrAt}
use Rattle.h2_prim.specs.declared.string.StrAt.TheVariants as at
use Rattle.h2_prim.specs.declared.string.StrRead.{StrRead}
use Rattle.h2_prim.specs.declared.string.StrRead.TheVariants as read
use Rattle.h2_spec.specs.Hpack.Instruction.{Str, TextStr}
use Rattle.h2_spec.specs.Read.{Read, Whole, More, TooLong}

abbrev pub int_read : IntRead → Read ℕ
int_read (int.Whole value used) = Whole value used
int_read int.More = More
int_read int.TooLong = TooLong

-- a number of five groups at most
abbrev pub IsSmall : IntRead → Type 0
IsSmall (int.Whole value used) = (value < 2 ^ 36) × (used ≤ 5)
IsSmall int.More = Unit {0}
IsSmall int.TooLong = Unit {0}

-- the number of a fault
abbrev pub number_of : HuffFault → ℕ
number_of NoMemory = 0
number_of Eos = 1
number_of Padding = 2

-- a string with its octets
abbrev pub str : Bool → List ℕ → Str
str huffman octets = record { huffman = huffman; octets = octets }

abbrev pub str_at : StrAt → Read Str
str_at (at.Whole huffman octets used) = Whole (str huffman octets.now) used
str_at at.More = More
str_at at.TooLong = TooLong

-- a string by its text
abbrev pub str_read : {A : Type 0} → StrRead A → Read TextStr
str_read (read.Whole text huffman used) = Whole (record { huffman = huffman; text = text.items }) used
str_read read.More = More
str_read read.TooLong = TooLong

-- a whole thing that is this one
abbrev pub IsWhole : {A : Type 0} → A → Read A → Type 0
IsWhole a (Whole b used) = b ≡ a
IsWhole a More = ⊥
IsWhole a TooLong = ⊥
