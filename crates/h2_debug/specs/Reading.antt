-- An input that is taken octet by octet, and line by line.
use Rattle.std.specs.Prelude.{◌≡◌, ◌⊎◌, ◌<◌, ◌+◌, ◌++◌, ◌==◌, ℕ, Bool, true, false, List, [], ◌∷◌, length, Option, Some}
use Rattle.std.specs.List.{list_any}
use Rattle.std.specs.Io.KnownBytes.{Consumes, IsAtEnd, Keeps, prepend_known}
pub use Rattle.h2_io.specs.Limit.{most}

-- the octets that were read and not yet taken, and how many were taken
pub record Reading : Type 0 where
  pub held : List ℕ
  pub passed : ℕ

-- what is still to be taken, where the device reports what it has left
abbrev pub ahead : Reading → Option (List ℕ) → Option (List ℕ)
ahead r remaining = prepend_known r.held remaining

-- why nothing can be taken: a read failed, and what was to come is what the device has left; or the most octets were
-- taken, and there is another one
abbrev pub IsUnread : Option (List ℕ) → Option (List ℕ) → ℕ → Bool → Type 0
IsUnread before after passed failed = ((failed ≡ true) × Keeps before after)
    ⊎ ((failed ≡ false) × (passed ≡ most) × ((octets : List ℕ) → before ≡ Some octets → 0 < length octets))

-- no line feed
abbrev pub IsPlain : List ℕ → Type 0
IsPlain line = list_any (λ octet. octet == 10) line ≡ false

-- these octets of a line were taken, from one count of octets to another
pub record IsTaken (before after : Option (List ℕ)) (first last : ℕ) (line : List ℕ) : Type 0 where
  pub plain : IsPlain line
  pub taken : Consumes before after line
  pub passed : last ≡ first + length line

-- the line feed that ends a line
abbrev pub feed_if : Bool → List ℕ
feed_if true = 10 ∷ []
feed_if false = []

-- what is held of a line was taken, with the line feed that ends it, and put after what was before
pub record TakesPart (before after : Reading) (line longer : List ℕ) (ended : Bool) : Type 0 where
  pub part : List ℕ
  pub plain : IsPlain part
  pub longer_is : longer ≡ line ++ part
  pub held : before.held ≡ (part ++ feed_if ended) ++ after.held
  pub passed : after.passed ≡ before.passed + length (part ++ feed_if ended)
  pub some : 0 < length (part ++ feed_if ended)

-- a line was taken and its line feed, or the last line, which has none
pub record TakesLine (before after : Option (List ℕ)) (first last : ℕ) (line : List ℕ) : Type 0 where
  pub plain : IsPlain line
  pub taken : Consumes before after (line ++ 10 ∷ [])
  pub passed : last ≡ first + length line + 1

pub record TakesLast (before after : Option (List ℕ)) (first last : ℕ) (line : List ℕ) : Type 0 where
  pub taken : IsTaken before after first last line
  pub whole : IsAtEnd after

-- part of a line was taken, and nothing can be taken after it
pub record CutsLine (before after : Option (List ℕ)) (first : ℕ) (failed : Bool) (part : List ℕ) (mid : Option (List ℕ)) : Type 0 where
  pub plain : IsPlain part
  pub taken : Consumes before mid part
  pub unread : IsUnread mid after (first + length part) failed

abbrev pub IsCut : Option (List ℕ) → Option (List ℕ) → ℕ → Bool → Type 0
IsCut before after first failed = (part : List ℕ) × (mid : Option (List ℕ)) × CutsLine before after first failed part mid
