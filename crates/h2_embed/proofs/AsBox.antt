-- A hold and its parts own what a box at the same types owns; an empty hold owns nothing.
use Rattle.std.specs.Prelude.{◌≡◌, List, [], ◌∷◌, Bool, true, false, Option, Some, None, is_some, ℕ}
use mathlib.Core.Path.{refl, sym, subst}
use lib.Dec.{T}
use seplogic.Ra.Ura.{Ura}
use mir.Syntax.{impl, tnil, dnil}
use mir.Val.{Val, vnull, vstruct, vcons, vnil}
use types.Logic.{Logic}
use types.Kit.{Item, Goal, Step, step, ‵, ◌$◌, move, fjoin, fpack, feq_i}
use denote.RattleType.{RattleType, Valss}
use denote.Builtin.{RawPtr}
use denote.RawPtr.{null_ptr}
use denote.Signature.{Slot, plain}
use denote.Steps.{nothing}
use denote.Struct.Struct.{within}
use denote.Struct.Owning.{shape, to}
use Rattle.std_alloc.proofs.BoxSteps.Form.{Bx}
use Rattle.std_heap.specs.contracts.Global as Heap
use Rattle.std_heap.specs.contracts.GlobalAllocator.TheImpl.{ghosts, dict}
use Rattle.std_heap.proofs.Global.TheLaws as heap
use Rattle.h2_embed.specs.contracts.kept.KeptConnection as Kept
use Rattle.h2_embed.proofs.kept.KeptConnection.TheLaws as kept
use Rattle.h2_embed.specs.contracts.parts.Parts as Parts
use Rattle.h2_embed.specs.contracts.hold.Hold as Hold

abbrev pub E : Bx
E = record { row = Kept.the_row; laws = kept.the_row_laws; al = record { row = Heap.the_row; laws = heap.the_row_laws; g = ghosts; d = dict; drops = impl [] tnil dnil } }

abbrev pub FromParts : Slot 0
FromParts = plain (λ _. Parts.the_row Kept.the_row Heap.the_row ghosts)

abbrev pub FromHold : Slot 0
FromHold = plain (λ _. Hold.the_row)

abbrev pub FromAlloc : Slot 0
FromAlloc = plain (λ _. Heap.the_row)

abbrev pub Z : RattleType
Z = Heap.the_row

abbrev pub both : Val → Val → Val
both v w = vstruct (vcons v (vcons w vnil))

-- what is there
pub some_of : {X : Type 0} (k : Option X) → is_some k ≡ true → (x : X) × (k ≡ Some x)
some_of (Some x) e = (x, refl)
some_of None e = absurd (subst T (sym e) tt)

module _ {M : Type 1} {𝓤 : Ura M} {𝓛 : Logic 𝓤} {K : Type 0} {Γ : List (Item 𝓤)} {G : Goal 𝓤 𝓛.H} where
  pub none_in : K → (h : Val) (a : Z.Denot)
      → Step K 𝓛 (‵ (Hold.the_row.own_val (record { ptr = null_ptr; alloc = a; kept = None }) (both vnull h ∷ [])) ∷ Γ) G (‵ (Z.own_val a (h ∷ [])) ∷ Γ) G
  none_in t h a = step (λ s. let v : Val = both vnull h in
      nothing t $ move t (1 ∷ []) $ nothing t $ move t (1 ∷ 0 ∷ []) $ fjoin t $ feq_i t (List Val) (vnull ∷ []) (vnull ∷ []) refl $ fjoin t $ feq_i t (List Val) (v ∷ []) (v ∷ []) refl $ fjoin t $
      fpack t (Valss (RawPtr ∷ Z ∷ [])) (within (shape Hold.the_type) (to Hold.the_type (record { ptr = null_ptr; alloc = a; kept = None })) (v ∷ [])) (vnull ∷ [], (h ∷ [], tt)) $ fjoin t $ s)
