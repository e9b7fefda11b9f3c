-- The text about a connection that is kept goes on from call to call.
use Rattle.std.proofs.Common.{◌≡◌, ℕ, ◌+◌, ◌<◌, ◌≤◌, ◌^◌, ◌++◌, List, [], length, Option, Some, IfSome, IsSomeAnd, Result, IfOk, false, refl, sym, ap, subst, ◌∙◌, append_assoc, arith, inl}
use Rattle.std.proofs.lemmas.Result.{IfOk-weaker}
use Rattle.h2_spec.specs.State.{State}
use Rattle.h2_spec.specs.Texts.Show.{show}
use Rattle.h2_spec.specs.Texts.View.{view}
use Rattle.h2_conn.specs.Connection.{Connection, going}
use Rattle.h2_explain.specs.Explaining as explaining
use Rattle.h2_explain.specs.Explaining.{EndsAs, HasGained, HasRoom, IsBeginning, IsExplaining, IsNew, SaysOf, total}
use Rattle.h2_explain.specs.Explains.{IsExplanation}
use Rattle.h2_explain.specs.declared.run.Form.{Form}
use Rattle.h2_explain.specs.declared.run_explainer.RunExplainer.{RunExplainer}
use Rattle.h2_explain.proofs.Steps.{new-begins, new-explains}
use Rattle.h2_embed.specs.Embed.{PutsText}
use Rattle.h2_embed.specs.Kept.{Feeds, FeedsTo, GoesOn, Hands, IsReady, Says}
use Rattle.h2_embed.specs.declared.fault.RunEnd.{RunEnd}
use Rattle.h2_embed.specs.declared.kept.KeptConnection.{KeptConnection}

-- what `Stands` says of an explanation and a connection in this state
abbrev Explaining : {A : Type 0} → Form → State → (octets text : List ℕ) → RunExplainer A → State → Type 0
Explaining form s octets text e now = (e.form ≡ form) × IsExplaining s octets (going now []) e × IsBeginning s octets e text

-- ---- a new one

pub stands-new : {A : Type 0} (form : Form) (s now : State) (e : RunExplainer A) (pending : List ℕ) → now ≡ s → IsNew form e → pending ≡ []
    → (e.form ≡ form) × IsExplaining s [] (going now []) e × IsBeginning s [] e pending
stands-new form s now e pending is new empty = (
  new.form_is,
  subst (λ (t : State). IsExplaining s [] (going t []) e) (sym is) (new-explains form s e new),
  subst (λ (t : List ℕ). IsBeginning s [] e t) (sym empty) (new-begins form s e new),
)

pub ready-new : {A : Type 0} (form : Form) (e : RunExplainer A) → IsNew form e → (e.items ≤ e.offset) × (total e ≡ 0) × (0 < 2 ^ 63)
ready-new form e new = (
  omega (arith, new.items_are, new.offset_is),
  omega (arith, new.offset_is, ap (λ (xs : List ℕ). length xs) new.held_is, new.late_is),
  omega arith,
)

-- ---- octets

pub ready-on : {A : Type 0} (e e' : RunExplainer A) (came came' more : ℕ) → total e ≡ came → HasGained e more e' → came' ≡ came + more → came' < 2 ^ 63
    → (e'.items ≤ e'.offset) × (total e' ≡ came') × (came' < 2 ^ 63)
ready-on e e' came came' more was gained add small = (gained.0, omega (arith, gained.1, was, add), small)

pub goes-on : {A : Type 0} (held : Option State) (now now' : State) (e e' : RunExplainer A) (pending begun items octets : List ℕ) → held ≡ Some now → begun ≡ pending
    → e'.form ≡ e.form → explaining.GoesOn (going now []) e octets (going now' []) e' → SaysOf (going now []) e octets e' (Some begun) (Some items)
    → (form : Form) (s : State) (b given : List ℕ)
    → IsSomeAnd held (λ t. (e.form ≡ form) × IsExplaining s b (going t []) e × IsBeginning s b e (given ++ pending))
    → (e'.form ≡ form) × IsExplaining s (b ++ octets) (going now' []) e' × IsBeginning s (b ++ octets) e' (given ++ items)
goes-on held now now' e e' pending begun items octets is begins same goes says form s b given stands =
    let x = subst (λ (h : Option State). IsSomeAnd h (Explaining form s b (given ++ pending) e)) is stands in
    let gained = says s b (given ++ pending) x.1 x.2 begun refl in
    let gains : items ≡ begun ++ gained.0 = cc gained.1 in (
      same ∙ x.0,
      goes s b x.1,
      subst (λ (t : List ℕ). IsBeginning s (b ++ octets) e' t)
          (append_assoc given pending gained.0 ∙ ap (λ (t : List ℕ). given ++ t) (ap (λ (t : List ℕ). t ++ gained.0) (sym begins) ∙ sym gains)) gained.2,
    )

-- ---- what is given

moved : {A : Type 0} (form : Form) (s : State) (b text : List ℕ) (held held' : Option State) (e e' : RunExplainer A) → held' ≡ held → e' ≡ e
    → IsSomeAnd held (Explaining form s b text e) → IsSomeAnd held' (Explaining form s b text e')
moved {A = A} form s b text held held' e e' same alike x =
    subst (λ (h : Option State). IsSomeAnd h (Explaining form s b text e')) (sym same)
    (subst (λ (f : RunExplainer A). IsSomeAnd held (Explaining form s b text f)) (sym alike) x)

pub feeds-to : (k fed k' : KeptConnection) (octets put : List ℕ) (room : ℕ) (end : RunEnd) → GoesOn k octets fed → Hands fed room put k' end
    → FeedsTo k octets room put (Some k') end
feeds-to k fed k' octets put room end goes hands = inl (
  k',
  refl,
  (
      λ form s b given x.
      subst (λ (t : List ℕ). IsSomeAnd k'.conn (Explaining form s (b ++ octets) t k'.explanation))
      (ap (λ (t : List ℕ). given ++ t) hands.2 ∙ sym (append_assoc given put k'.pending.items))
      (moved form s (b ++ octets) (given ++ fed.pending.items) fed.conn k'.conn fed.explanation k'.explanation hands.0 hands.1 (goes form s b given x))
      ),
  subst (λ (t : List ℕ). PutsText t room put end) hands.2 hands.3,
)

-- ---- the end

pub end-is : {A : Type 0} (held : Option State) (now : State) (e : RunExplainer A) (pending items : List ℕ) → held ≡ Some now → EndsAs false (going now []) e (Some []) (Some items)
    → (form : Form) (s : State) (b given : List ℕ)
    → IsSomeAnd held (λ t. (e.form ≡ form) × IsExplaining s b (going t []) e × IsBeginning s b e (given ++ pending))
    → IsExplanation form false s b ((given ++ pending) ++ items)
end-is held now e pending items is ends form s b given stands =
    let x = subst (λ (h : Option State). IsSomeAnd h (Explaining form s b (given ++ pending) e)) is stands in
    let gained = ends s b (given ++ pending) x.1 x.2 [] refl in
    let gains : items ≡ gained.0 = cc gained.1 in
    subst (λ (f : Form). IsExplanation f false s b ((given ++ pending) ++ items)) x.0
    (subst (λ (t : List ℕ). IsExplanation e.form false s b ((given ++ pending) ++ t)) (sym gains) gained.2)

pub ends-with : {A X T : Type 0} (items : X → List ℕ) (held : Option State) (now : State) (e : RunExplainer A) (pending : List ℕ) (r : Result X T) → held ≡ Some now
    → IfOk r (λ text. EndsAs false (going now []) e (Some []) (Some (items text)))
    → IfOk r (λ text. (form : Form) (s : State) (b given : List ℕ) → IsSomeAnd held (λ t. (e.form ≡ form) × IsExplaining s b (going t []) e × IsBeginning s b e (given ++ pending))
    → IsExplanation form false s b ((given ++ pending) ++ items text))
ends-with items held now e pending r is ends = IfOk-weaker r _ _ (λ text h. end-is held now e pending (items text) is h) ends

-- what is shown of the state
pub shows : {X T : Type 0} (octets : X → List ℕ) (held : Option State) (now : State) (r : Result X T) → held ≡ Some now
    → IfOk r (λ text. octets text ≡ show (view now)) → IfOk r (λ text. IsSomeAnd held (λ t. octets text ≡ show (view t)))
shows octets held now r is shown = IfOk-weaker r _ _ (λ text same. subst (λ (h : Option State). IsSomeAnd h (λ t. octets text ≡ show (view t))) (sym is) same) shown

-- ---- what is held

pub ready-held : (held : Option KeptConnection) (k : KeptConnection) → Some k ≡ held → IfSome held (λ kept. IsReady kept) → IsReady k
ready-held held k is ready = subst (λ (h : Option KeptConnection). IfSome h (λ kept. IsReady kept)) (sym is) ready

pub holds-ready : (held : Option KeptConnection) (k : KeptConnection) → held ≡ Some k → IsReady k → IfSome held (λ kept. IsReady kept)
holds-ready held k is ready = subst (λ (h : Option KeptConnection). IfSome h (λ kept. IsReady kept)) (sym is) ready

pub feeds-held : (held held' : Option KeptConnection) (k v fed w k' : KeptConnection) (octets put : List ℕ) (room : ℕ) (end : RunEnd) → Some k ≡ held → v ≡ k
    → GoesOn v octets fed → w ≡ fed → Hands w room put k' end → held' ≡ Some k' → Feeds held octets room put held' end
feeds-held held held' k v fed w k' octets put room end is same goes alike hands puts =
    let on = subst (λ (u : KeptConnection). GoesOn u octets fed) same goes in
    let given = subst (λ (u : KeptConnection). Hands u room put k' end) alike hands in
    subst (λ (h : Option KeptConnection). Feeds h octets room put held' end) is
    (subst (λ (h : Option KeptConnection). FeedsTo k octets room put h end) (sym puts) (feeds-to k fed k' octets put room end on given))

-- a text about what is held
pub says-held : (P : KeptConnection → List ℕ → Type 0) (held held' : Option KeptConnection) (k v : KeptConnection) (text t put : List ℕ) (room : ℕ) (end : RunEnd)
    → Some k ≡ held → v ≡ k → held' ≡ Some k → P v text → t ≡ text → PutsText t room put end → Says P held room put held' end
says-held P held held' k v text t put room end is same kept says reads puts =
    subst (λ (h : Option KeptConnection). Says P h room put held' end) is
    (kept, inl (text, subst (λ (u : KeptConnection). P u text) same says, subst (λ (x : List ℕ). PutsText x room put end) reads puts))
