-- `spend` at a call: what it is handed, and what its caller has of it afterwards. Assumes `Logic`.
--     Spend, spend_at     its contract, and the choice of its ghost values for a `&` to the cell at `place`
--     spend_goes          a `&` to the cell and a token of its lifetime are all that it asks for
--     spend_gives         it returns some flag, and gives the token back
use Rattle.std.proofs.Common.{◌≡◌, ℕ, Bool, List, [], ◌∷◌, refl, ap}
use seplogic.Ra.Ura.{Ura}
use mir.Val.{Val, vbool, vptr}
use base.Logic.{SProp, ent, ex, sep, guard, id⊢}
use base.Fml.{Lft, Share, ftrue, fsep, flft}
use prog.Memory.{Memory}
use prog.Routine.{Routine}
use types.Logic.{Logic, sem}
use contract.Monad.{Fun}
use types.Kit.{‵, raw, ◌⊛◌, some, later, ◌$◌, ◌∵◌, !, qed, move, keep, use1, split, join, pick, fjoin, feq_i, feq_l, check, show, await, updating, done}
use types.Kit.{now as at_once}
use denote.RattleType.{RattleType}
use denote.Memory.{hidden_shr}
use denote.Builtin.{bool}
use denote.Steps.{nothing, only}
use denote.Triple.Statement.{Contract}
use denote.Triple.Spec.{triple_of}
use Rattle.std.specs.contracts.cell.Cell as cell
use Rattle.h2_test_failures.specs.contracts.countdown.Countdown as countdown
use Rattle.h2_test_failures.specs.contracts.refusing.spend as spend

abbrev pub Counting : RattleType
Counting = cell.the_row countdown.the_row

module _ {M : Type 1} {𝓤 : Ura M} (𝓛 : Logic 𝓤) (at_mem : Memory → SProp 𝓤) (run : Routine → Fun 𝓤) where
  open 𝓛 use {H, A}

  abbrev pub Spend : Contract 𝓤
  Spend = triple_of 𝓛 spend.signature (spend.spec 𝓛 at_mem run)

  module _ (κ : Lft) (q : Share) (place : ℕ × ℕ) where
    abbrev pub spend_at : Spend.Ghost
    spend_at = (((κ, tt), (q, tt), tt, (record { ref_ptr = place; now = record { value = tt } }, tt), (vptr place.0 place.1 ∷ [], tt)), tt)

    pub spend_goes : ent 𝓤 (sep 𝓤 (sem 𝓛 (hidden_shr Counting κ (record { value = tt }) place.0 place.1)) (A.lft κ q)) (Spend.pre spend_at)
    spend_goes =
        qed 𝓛 (‵ (hidden_shr Counting κ (record { value = tt }) place.0 place.1) ∷ ‵ (flft κ q) ∷ []) ∵
        feq_i ! (List Val) (vptr place.0 place.1 ∷ []) (vptr place.0 place.1 ∷ []) refl $ fjoin ! $ nothing ! $ move ! (1 ∷ []) $ fjoin ! $
        nothing ! $ move ! (2 ∷ []) $ join ! $ join ! $ nothing ! $ move ! (1 ∷ []) $ done !

    pub spend_gives : (v : Val) → ent 𝓤 (Spend.post spend_at v) (H.⇛ (ex 𝓤 (λ (refused : Bool). guard 𝓤 (v ≡ vbool refused) (A.lft κ q))))
    spend_gives v =
        qed 𝓛 (raw (Spend.post spend_at v) ∷ []) ∵ updating ! $
        use1 𝓛 (later (some (λ (r : Bool). ((‵ (flft κ q) ⊛ ‵ ftrue) ⊛ ‵ (bool.own_val r (v ∷ []))) ⊛ some (λ (ws : Unit {0} × Unit {0}). ‵ (fsep ftrue ftrue) ⊛ ‵ ftrue)))) (id⊢ 𝓤 _) $
        await ! tt $ pick ! (λ r. split ! $ split ! $ move ! (1 ∷ []) $ feq_l ! (λ e. split ! $ at_once ! $
        show ! (λ (refused : Bool). guard 𝓤 (v ≡ vbool refused) (A.lft κ q)) r $ check ! (ap only e) $ keep ! (0 ∷ []) $ done !))
