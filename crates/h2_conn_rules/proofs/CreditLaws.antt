-- What is given back, and what is still owed then.
use Rattle.std.proofs.Common.{◌≡◌, ◌+◌, ◌-ℤ◌, ◌+ℤ◌, pos, ℕ, Bool, true, false, cond, Option, Some, None, nat_le, ap, refl}
use Rattle.h2_spec.specs.declared.connection.ConnectionState.{ConnectionState}
use Rattle.h2_spec.specs.declared.reactions.ConnectionFrame.TheVariants.{Credit}
use Rattle.h2_spec.specs.Change.{only_counts}
use Rattle.h2_spec.specs.Data.{counted, owed_as, owed_on_connection}
use Rattle.h2_spec.specs.Window.{given_back, still_owed}

-- where octets are given back, they are all that are owed
pub all-owed : (threshold owed credit : ℕ) → given_back threshold owed ≡ Some credit → (owed ≡ credit) × (still_owed threshold owed ≡ 0)
all-owed threshold owed credit h = at (nat_le threshold owed) h
  where
    same : Some owed ≡ Some credit → owed ≡ credit
    same e = cc

    at : (t : Bool) → cond t (Some owed) None ≡ Some credit → (owed ≡ credit) × (cond t 0 owed ≡ 0)
    at true e = (same e, refl)
    at false e = absurd (cc)

-- where none are, all are still owed
pub still-owed : (threshold owed : ℕ) → given_back threshold owed ≡ None → still_owed threshold owed ≡ owed
still-owed threshold owed h = at (nat_le threshold owed) h
  where
    at : (t : Bool) → ◌≡◌ {A = Option ℕ} (cond t (Some owed) None) None → cond t 0 owed ≡ owed
    at true e = absurd (cc)
    at false e = refl

-- octets that are counted are given back with those that were owed, or owed with them
pub counted-returns : (threshold : ℕ) (core : ConnectionState) (count credit : ℕ) → given_back threshold (core.owed + count) ≡ Some credit
    → counted threshold core count ≡ record (only_counts (record core { recv = (core.recv -ℤ pos count) +ℤ pos credit; owed = 0 })) { connection_frame = Credit credit }
unfolding counted owed_on_connection
counted-returns threshold core count credit h = ap (λ (o : Option ℕ). owed_as o (record core { recv = core.recv -ℤ pos count }) (core.owed + count)) h

pub counted-owes : (threshold : ℕ) (core : ConnectionState) (count : ℕ) → given_back threshold (core.owed + count) ≡ None
    → counted threshold core count ≡ only_counts (record core { recv = core.recv -ℤ pos count; owed = core.owed + count })
unfolding counted owed_on_connection
counted-owes threshold core count h = ap (λ (o : Option ℕ). owed_as o (record core { recv = core.recv -ℤ pos count }) (core.owed + count)) h
