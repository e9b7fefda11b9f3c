-- What a call that writes results in.
use Rattle.std.specs.Prelude.{◌≡◌, ℕ, List, ◌++◌, OnErr, OnOk, Result, length, take}

-- octets are written after what was in out; or, where memory is refused, none
pub record Writes {T E : Type 0} (octets out : List ℕ) (result : Result T E) (out' : List ℕ) : Type 0 where
  pub ok : OnOk result (out' ≡ out ++ octets)
  pub err : OnErr result (out' ≡ out)

-- octets are written after what was in out; or, where memory is refused, a part of them
pub record WritesInPart {T E : Type 0} (octets out : List ℕ) (result : Result T E) (out' : List ℕ) : Type 0 where
  pub ok : OnOk result (out' ≡ out ++ octets)
  pub kept : take (length out) out' ≡ out
