-- The answer of a check is the least reason, where it is what computes it.
use Rattle.std.proofs.Common.{◌≡◌, ℕ, Option, Some, None, Result, Ok, Err, subst}
use Rattle.std.specs.Prelude.{IfErr, OnOk}
use Rattle.h2_spec.specs.Requests.Reasons.{IsLeast}
use Rattle.h2_request_well_formed.specs.ReasonNumber.{reason_number}
use Rattle.h2_request_well_formed.specs.declared.reason.Malformed.{Malformed}

pub none_where : {X : Type 0} → (Reason : ℕ → Type 0) (answer : Option ℕ) (r : Result X Malformed) → IsLeast Reason answer → OnOk r (answer ≡ None) → OnOk r (IsLeast Reason None)
none_where Reason answer (Ok x) least e = subst (IsLeast Reason) e least
none_where Reason answer (Err m) least e = tt

pub least_where : {X : Type 0} → (Reason : ℕ → Type 0) (answer : Option ℕ) (r : Result X Malformed) → IsLeast Reason answer → IfErr r (λ m. answer ≡ Some (reason_number m.0))
    → IfErr r (λ m. IsLeast Reason (Some (reason_number m.0)))
least_where Reason answer (Ok x) least e = tt
least_where Reason answer (Err m) least e = subst (IsLeast Reason) e least
