use Rattle.std.proofs.Common.{◌≤◌, ◌*◌, ◌/◌, ◌++◌, ℕ, take, length, ap, ◌∙◌, sym, subst, arith}
use Rattle.std.proofs.lemmas.Result.{IfOk-from_err}
use Rattle.std.proofs.lemmas.List.{take-append-drop}
use Rattle.h2_hpack_instruction.specs.Resume.{IsRest}
use Rattle.h2_fields.proofs.rest.Rest.keep.Goals as goal

whole_chunks : (n : ℕ) → n / 1024 * 1024 ≤ n
whole_chunks n = omega arith

pub shared_chunks-requires : goal.shared_chunks-requires
shared_chunks-requires g c = whole_chunks (length c.as_slice-octets.result.now)

pub returns-in_err-chunks : goal.returns-in_err-chunks
returns-in_err-chunks g c = record { same = IfOk-from_err c.from_residual.result _ c.from_residual.ensures.0 }

pub octets_from-requires : goal.octets_from-requires
octets_from-requires g c = whole_chunks (length c.as_slice-octets.result.now)

pub returns-in_err-last : goal.returns-in_err-last
returns-in_err-last g c = record { same = IfOk-from_err c.from_residual-in_err-last.result _ c.from_residual-in_err-last.ensures.0 }

pub invariant_of-result : goal.invariant_of-result
invariant_of-result g c =
    let octets = c.as_slice-octets.result.now in
    let at = length octets / 1024 * 1024 in
    let whole = ap (λ b. b ++ c.in_ok-last.last.items) c.in_ok-chunks.ensures ∙ ap (λ b. take at octets ++ b) (c.in_ok-last.ensures.items ∙ c.octets_from.ensures) ∙ take-append-drop at octets ∙ c.as_slice-octets.ensures.value in
    subst (λ b. IsRest b c.self.inside.point) (sym whole) c.self.invariant

pub returns : goal.returns
returns g c =
    let octets = c.as_slice-octets.result.now in
    let at = length octets / 1024 * 1024 in
    record { same = ap (λ b. b ++ c.in_ok-last.last.items) c.in_ok-chunks.ensures ∙ ap (λ b. take at octets ++ b) (c.in_ok-last.ensures.items ∙ c.octets_from.ensures) ∙ take-append-drop at octets ∙ c.as_slice-octets.ensures.value ∙ c.self.view_is }
