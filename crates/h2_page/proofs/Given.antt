-- What was put where the page reads it.
use Rattle.std.proofs.Common.{ℕ, List, [], Result, Err, inl, inr, subst, sym}
use Rattle.h2_page.specs.declared.fault.CallEnd.{CallEnd}
use Rattle.h2_page.specs.declared.fault.WebFault.{WebFault}
use Rattle.h2_page.specs.declared.fault.WebFault.TheVariants.{NoRoom}
use Rattle.h2_page.specs.Web.{Gives, Puts}

-- a call that would give such octets gives them, or none where they have no space
pub given : (P : List ℕ → Result (Unit {0}) WebFault → Type 0) (text : List ℕ) (ended : Result (Unit {0}) WebFault) (put : List ℕ) (end : CallEnd) → P [] (Err NoRoom) → P text ended → Puts text ended put end → Gives P put end
given P text ended put end room is (inl x) = (ended, x.1, subst (λ (t : List ℕ). P t ended) (sym x.0) is)
given P text ended put end room is (inr x) = (Err NoRoom, x.1, subst (λ (t : List ℕ). P t (Err NoRoom)) (sym x.0) room)
