-- What was parsed is what the words ask for.
use Rattle.std.proofs.Common.{◌≡◌, ◌∙◌, ◌⊎◌, ℕ, Bool, false, List, Option, Some, None, Result, Ok, Err, IfOk, IfErr, ap, inl, inr, refl, sym}
use Rattle.h2_cmd_args.specs.Grammar.{Asked}
use Rattle.h2_cmd_args.specs.Plans.{Refuses, asked_in, planned}
use Rattle.h2_cmd_args.specs.declared.command.Plan.{Plan}
use Rattle.h2_cmd_args.specs.declared.command.Refusal.{Refusal}
use Rattle.h2_cmd_args.specs.declared.command.Refusal.TheVariants.{Words, NoMemory}
use Rattle.h2_cmd_batch.specs.Printing.{Printed}
use Rattle.h2_cmd_batch.specs.CommandEnd.{PrintsSome}
use Rattle.h2_cmd_run.specs.ProgramEnd.{PrintsRefusal, printed_for}

-- unless memory was refused for the words
pub parsed : (asked : Option Asked) (r : Result Plan Refusal) → IfOk r (λ plan. asked ≡ Some (planned plan)) → IfErr r (Refuses asked) → (asked_in r ≡ asked) ⊎ (r ≡ Err NoMemory)
parsed asked (Ok plan) ok err = inl (sym ok)
parsed asked (Err (Words text)) ok err = inl (sym err)
parsed asked (Err NoMemory) ok err = inr refl

-- an answer of one kind is one of another
pub prints-other : (P Q : Printed → Type 0) (before after : Option (List ℕ)) (status : ℕ) → ((t : Printed) → P t → Q t) → PrintsSome P before after status → PrintsSome Q before after status
prints-other P Q before after status other prints = λ held known. let x = prints held known in (x.0, other x.0 x.1, x.2)

-- what no words do that ask for nothing, these don't do once they are parsed
pub none-asked : (test : Option Asked → Bool) → test None ≡ false → (asked : Option Asked) (r : Result Plan Refusal) → IfOk r (λ plan. asked ≡ Some (planned plan)) → IfErr r (Refuses asked)
    → test asked ≡ false → test (asked_in r) ≡ false
none-asked test none asked r ok err not = elim (parsed asked r ok err) [
  | inl same ↦ ap test same ∙ not
  | inr memory ↦ rw memory none
]

-- words that ask for nothing are refused
pub prints-refusal : (asked : Option Asked) (r : Result Plan Refusal) (well : Type 0) (before after : Option (List ℕ)) (status : ℕ) → IfOk r (λ plan. asked ≡ Some (planned plan)) → asked ≡ None
    → IfErr r (λ refusal. well → PrintsSome (λ t. t ≡ printed_for refusal) before after status) → well → PrintsRefusal before after status
prints-refusal asked (Ok plan) well before after status ok none refused w = absurd (cc (sym ok ∙ none))
prints-refusal asked (Err (Words text)) well before after status ok none refused w = prints-other _ _ before after status (λ t e. inr (rw e refl)) (refused w)
prints-refusal asked (Err NoMemory) well before after status ok none refused w = prints-other _ _ before after status (λ t e. inl e) (refused w)
