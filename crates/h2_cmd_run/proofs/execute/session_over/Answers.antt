use Rattle.std.proofs.Common.{◌≡◌, ◌⊎◌, ℕ, Bool, true, false, List, Option, Some, None, ap, inl, inr, subst, sym}
use Rattle.h2_spec.specs.Requests.Answer.{Entry}
use Rattle.h2_spec.specs.State.{is_allowed}
use Rattle.h2_spec.specs.declared.connection.Config.{Config}
use Rattle.h2_debug.specs.Session as session
use Rattle.h2_cmd_batch.specs.Input.{input_fault}
use Rattle.h2_cmd_batch.specs.Printed.{failed}
use Rattle.h2_cmd_batch.specs.declared.fault.BenchFault.{BenchFault}
use Rattle.h2_cmd_batch.specs.declared.fault.BenchFault.TheVariants.{NoMemory}
use Rattle.h2_cmd_run.specs.ProgramEnd.{IsSessionGiven, in_session}
use Rattle.h2_cmd_run.proofs.execute.session_over.Goals as goal

-- no octets are given, so memory was refused or that fault is what is printed
none-given : (allowed : Bool) (given : Option (List ℕ)) (fault : BenchFault) → fault ≡ input_fault given allowed → (fault ≡ NoMemory)
    ⊎ ((book : List Entry) (config : Config) (octets : List ℕ) (input_failed : Bool) (left : Option (List ℕ)) → IsSessionGiven allowed given book config octets input_failed left (in_session (failed fault)))
none-given allowed None fault is = inr (λ book config octets input_failed left. ap (λ (f : BenchFault). in_session (failed f)) is)
none-given false (Some peer) fault is = inr (λ book config octets input_failed left. ap (λ (f : BenchFault). in_session (failed f)) is)
none-given true (Some peer) fault is = inl is

-- octets are given
some-given : (allowed : Bool) (given : Option (List ℕ)) (peer : List ℕ) (book : List Entry) (config : Config) (octets : List ℕ) (input_failed : Bool) (left : Option (List ℕ)) (t : session.Printed)
    → given ≡ Some peer → allowed ≡ true → session.IsSessionOver peer book config octets input_failed left t → IsSessionGiven allowed given book config octets input_failed left t
some-given allowed given peer book config octets input_failed left t is limits such =
    subst (λ (g : Option (List ℕ)). IsSessionGiven allowed g book config octets input_failed left t) (sym is)
    (subst (λ (b : Bool). IsSessionGiven b (Some peer) book config octets input_failed left t) (sym limits) such)

pub returns-in-Ok-clause-printed : goal.returns-in-Ok-clause-printed
returns-in-Ok-clause-printed g c = λ well. inr (λ octets held knows is.
    let x = c.debug_session_over.ensures.printed well octets held knows is in
    (x.0, some-given _ _ c.in-Ok.octets.items _ _ _ _ _ x.0 c.in-Ok.ensures.ok c.in-Ok.ensures.allowed x.1, x.2))

pub returns-in-Err-clause-printed : goal.returns-in-Err-clause-printed
returns-in-Err-clause-printed g c = λ well. elim (none-given (is_allowed c.args.config) _ c.in-Err.fault c.in-Err.ensures.err) [
  | inl memory ↦ inl (λ held is. (failed c.in-Err.fault, ap (λ (f : BenchFault). failed f) memory, c.print_fault.ensures.printed well held is), c.requires.reader)
  | inr bad ↦ inr (λ octets held knows is. (in_session (failed c.in-Err.fault), bad _ _ _ _ _, c.print_fault.ensures.printed well held is))
]
