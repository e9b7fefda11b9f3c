-- The octets that the writer of Huffman strings has appended, and the bits that it still holds.
use Rattle.std.specs.Prelude.{◌≡◌, ℕ, Bool, List, ◌++◌}
use Rattle.h2_spec.specs.Hpack.HuffmanCode.{bits_of}
use Rattle.h2_spec.specs.Hpack.Huffman.{bits, IsText}

-- the octets begin with those before, and what was added to them and a number of that many bits are these bits
pub record Written (before out : List ℕ) (count number : ℕ) (bs : List Bool) : Type 0 where
  pub added : List ℕ
  pub octets : IsText added
  pub grown : out ≡ before ++ added
  pub same : bits added ++ bits_of count number ≡ bs
