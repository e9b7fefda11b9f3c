-- An explanation of a connection whose octets arrive piece by piece.
use Rattle.std.specs.Prelude.{◌≡◌, ◌⊎◌, ℕ, ◌+◌, ◌<◌, ◌≤◌, ◌^◌, Bool, true, List, [], ◌++◌, length, Option, Some, None}
use Rattle.h2_spec.specs.Frames.Parse.{Stop, parse_all}
use Rattle.h2_spec.specs.State.{State}
use Rattle.h2_spec.specs.Trace.{left_by, next_event}
use Rattle.h2_conn.specs.Connection.{Connection, going}
use Rattle.h2_conn.specs.First.{TakesFirst}
use Rattle.h2_explain_step.specs.Explained.{ExplainsItem}
use Rattle.h2_explain.specs.Explains.{AreExplained, Gains, IsExplanation, IsItemText, IsRestText, IsSummary}
use Rattle.h2_explain_step.specs.declared.explainer.ItemExplainer.{ItemExplainer}
use Rattle.h2_explain.specs.Verdicts.{AreTallied, Tallied, TalliesItem, no_tally}
use Rattle.h2_explain.specs.declared.run_explainer.RunExplainer.{RunExplainer}
use Rattle.h2_explain_item.specs.declared.item.Explained.{Explained}
use Rattle.h2_explain.specs.declared.run.Form.{Form}
use Rattle.h2_explain.specs.declared.run.Summary.{Summary}
use Rattle.h2_explain.specs.declared.verdict.ClientVerdict.{ClientVerdict}

-- ---- an explanation

-- how many octets it was fed
abbrev pub total : {A : Type 0} → RunExplainer A → ℕ
total e = e.offset + (length e.held.items + e.late)

-- this many octets more can be counted
abbrev pub HasRoom : {A : Type 0} → RunExplainer A → ℕ → Type 0
HasRoom e more = (e.items ≤ e.offset) × (total e + more < 2 ^ 63)

-- this many octets more were counted
abbrev pub HasGained : {A : Type 0} → RunExplainer A → ℕ → RunExplainer A → Type 0
HasGained e more e' = (e'.items ≤ e'.offset) × (total e' ≡ total e + more)

-- it was fed no octets
pub record IsNew {A : Type 0} (form : Form) (e : RunExplainer A) : Type 0 where
  pub form_is : e.form ≡ form
  pub tally_is : e.tally ≡ no_tally
  pub items_are : e.items ≡ 0
  pub offset_is : e.offset ≡ 0
  pub held_is : e.held.items ≡ []
  pub late_is : e.late ≡ 0

-- ---- from some octets to those after some first items

-- what an explanation says of some first items: whatever octets come later, with what it says of the items after these
-- it is an explanation of all
abbrev pub Continues : Form → State → List ℕ → (items offset : ℕ) → Tallied → State → List ℕ → (items' offset' : ℕ) → Tallied → List ℕ → Type 0
Continues form s b items offset t s' b' items' offset' t' text =
    (later : List ℕ) (cut : Bool) (xs : List Explained) (more : List ℕ) → AreExplained form cut s' (b' ++ later) items' offset' t' xs more
    → (ys : List Explained) × AreExplained form cut s (b ++ later) items offset t ys (text ++ more)

-- what is counted of some first items: whatever octets come later, the verdict after the items after these is that on all
abbrev pub CountsOn : State → List ℕ → (items offset : ℕ) → Tallied → State → List ℕ → (items' offset' : ℕ) → Tallied → Type 0
CountsOn s b items offset t s' b' items' offset' t' =
    (later : List ℕ) (xs : List Explained) (v : ClientVerdict) → AreTallied s' (b' ++ later) (items' + 1) offset' xs t' v
    → (ys : List Explained) × AreTallied s (b ++ later) (items + 1) offset ys t v

-- some first items of these octets were explained, and led to that state and the octets after them
pub record ExplainsOn {A : Type 0} (e : RunExplainer A) (s : State) (b : List ℕ) (known : Option (List ℕ)) (e' : RunExplainer A) (s' : State) (b' : List ℕ) (known' : Option (List ℕ)) : Type 0 where
  pub form_is : e'.form ≡ e.form
  pub items_are : length (parse_all next_event s b).elements + e.items ≡ e'.items + length (parse_all next_event s' b').elements
  pub offset_is : e'.offset + length b' ≡ e.offset + length b
  pub counted : e'.items ≤ e'.offset
  pub state_is : (parse_all next_event s b).state ≡ (parse_all next_event s' b').state
  pub rest_is : (parse_all next_event s b).rest ≡ (parse_all next_event s' b').rest
  pub written : Gains (Continues e.form s b e.items e.offset e.tally s' b' e'.items e'.offset e'.tally) known known'
  pub tallied : CountsOn s b e.items e.offset e.tally s' b' e'.items e'.offset e'.tally

-- all items of these octets were
pub record ExplainsAll {A : Type 0} (e : RunExplainer A) (s : State) (b : List ℕ) (known : Option (List ℕ)) (e' : RunExplainer A) (s' : State) (b' : List ℕ) (known' : Option (List ℕ)) : Type 0 where
  pub on : ExplainsOn e s b known e' s' b' known'
  pub stops : next_event s' b' ≡ Stop

-- of the octets that are left those of an item that is not whole are held, and those after the end are counted
pub record Leaves {A : Type 0} (e : RunExplainer A) (s : State) (rest : List ℕ) (e' : RunExplainer A) : Type 0 where
  pub held_is : e'.held.items ≡ left_by s.core.phase rest
  pub left_is : length e'.held.items + e'.late ≡ e.late + length rest

-- the same, and the octets that are left
pub record Handles {A : Type 0} (e : RunExplainer A) (s : State) (b : List ℕ) (known : Option (List ℕ)) (e' : RunExplainer A) (s' : State) (known' : Option (List ℕ)) : Type 0 where
  pub rest : List ℕ
  pub all : ExplainsAll e s b known e' s' rest known'
  pub leaves : Leaves e s' rest e'

-- the explanation of some first items of these octets, and of any octets after them
abbrev pub IsCutShort : {A : Type 0} → RunExplainer A → State → List ℕ → List ℕ → Type 0
IsCutShort e s b text = (later : List ℕ) → (xs : List Explained) × AreExplained e.form true s (b ++ later) e.items e.offset e.tally xs text

-- the same of the octets that are held and a piece more
abbrev pub IsPieceCutShort : {A : Type 0} → RunExplainer A → State → List ℕ → List ℕ → Type 0
IsPieceCutShort e s piece text = IsCutShort e s (e.held.items ++ piece) text

-- the text of the end in this state, after the items that were explained
abbrev pub IsEndText : {A : Type 0} → RunExplainer A → State → List ℕ → Type 0
IsEndText e s text = IsRestText None e.form s e.items e.tally (length e.held.items + e.late) text

-- octets after the end are counted, and none are held
pub record PassesBy {A : Type 0} (e : RunExplainer A) (more : ℕ) (e' : RunExplainer A) : Type 0 where
  pub form_is : e'.form ≡ e.form
  pub items_are : e'.items ≡ e.items
  pub offset_is : e'.offset ≡ e.offset
  pub tally_is : e'.tally ≡ e.tally
  pub held_is : e'.held.items ≡ []
  pub late_is : e'.late ≡ e.late + (length e.held.items + more)

-- ---- one item

-- the next item of the octets was taken, its text was written, and it was counted
pub record TakesItem {A : Type 0} (e : RunExplainer A) (s : State) (b : List ℕ) (known : Option (List ℕ)) (e' : RunExplainer A) (c : Connection) (known' : Option (List ℕ)) (used : ℕ) : Type 0 where
  pub item : Explained
  pub explains : ExplainsItem s b (e.items + 1) e.offset c item
  pub used_is : used ≡ item.used
  pub written : Gains (IsItemText e.form c.state item) known known'
  pub tallied : TalliesItem e.tally item e'.tally
  pub form_is : e'.form ≡ e.form
  pub items_are : e'.items ≡ e.items + 1
  pub offset_is : e'.offset ≡ e.offset + used
  pub held_is : e'.held ≡ e.held
  pub late_is : e'.late ≡ e.late

-- or there is none, and nothing changes but the memory of items, which means nothing between two of them
pub record TakesNone {A : Type 0} (e : RunExplainer A) (s : State) (b : List ℕ) (known : Option (List ℕ)) (e' : RunExplainer A) (c : Connection) (known' : Option (List ℕ)) : Type 0 where
  pub none : next_event s b ≡ Stop
  pub conn_is : c ≡ going s []
  pub same : e' ≡ record e { explainer = record e.explainer { memory = e'.explainer.memory } }
  pub quiet : known' ≡ known

abbrev pub TakesIfThere : {A : Type 0} → RunExplainer A → State → List ℕ → Option (List ℕ) → RunExplainer A → Connection → Option (List ℕ) → Option ℕ → Type 0
TakesIfThere e s b known e' c known' None = TakesNone e s b known e' c known'
TakesIfThere e s b known e' c known' (Some used) = TakesItem e s b known e' c known' used

-- an item was taken that was not explained, or none
abbrev pub StopsAt : State → List ℕ → List ℕ → State → List ℕ → Type 0
StopsAt s b out t out' = ((t ≡ s) × (out' ≡ out)) ⊎ ((used : ℕ) × TakesFirst s b out t out' used)

-- ---- over all octets that came

-- all items of the octets that came were explained: the connection is that after them, the octets that are left are held,
-- or, after the end, counted
pub record IsExplaining {A : Type 0} (s : State) (b : List ℕ) (c : Connection) (e : RunExplainer A) : Type 0 where
  pub after : c ≡ going (parse_all next_event s b).state []
  pub stops : next_event (parse_all next_event s b).state (parse_all next_event s b).rest ≡ Stop
  pub items_are : e.items ≡ length (parse_all next_event s b).elements
  pub offset_is : e.offset + length (parse_all next_event s b).rest ≡ length b
  pub held_is : e.held.items ≡ left_by (parse_all next_event s b).state.core.phase (parse_all next_event s b).rest
  pub left_is : length e.held.items + e.late ≡ length (parse_all next_event s b).rest
  pub tallied : CountsOn s b 0 0 no_tally (parse_all next_event s b).state (parse_all next_event s b).rest e.items e.offset e.tally

-- what was written so far: whatever octets come later, what is written for them and for the end makes with it an
-- explanation of all
abbrev pub IsBeginning : {A : Type 0} → State → List ℕ → RunExplainer A → List ℕ → Type 0
IsBeginning s b e text = Continues e.form s b 0 0 no_tally (parse_all next_event s b).state (parse_all next_event s b).rest e.items e.offset e.tally text

-- it was fed a piece
abbrev pub GoesOn : {A : Type 0} → Connection → RunExplainer A → List ℕ → Connection → RunExplainer A → Type 0
GoesOn c e piece c' e' = (s : State) (b : List ℕ) → IsExplaining s b c e → IsExplaining s (b ++ piece) c' e'

-- what was written for the piece
abbrev pub SaysOf : {A : Type 0} → Connection → RunExplainer A → List ℕ → RunExplainer A → Option (List ℕ) → Option (List ℕ) → Type 0
SaysOf c e piece e' known known' =
    (s : State) (b : List ℕ) (text : List ℕ) → IsExplaining s b c e → IsBeginning s b e text
    → Gains (λ (more : List ℕ). IsBeginning s (b ++ piece) e' (text ++ more)) known known'

-- or for some first items, where it is cut short; whatever octets come later
abbrev pub SaysSome : {A : Type 0} → Connection → RunExplainer A → List ℕ → Option (List ℕ) → Option (List ℕ) → Type 0
SaysSome c e piece known known' =
    (s : State) (b : List ℕ) (text : List ℕ) → IsExplaining s b c e → IsBeginning s b e text
    → Gains (λ (more : List ℕ). (later : List ℕ) → IsExplanation e.form true s ((b ++ piece) ++ later) (text ++ more)) known known'

-- a read began: what was explained is the same
abbrev pub BeginsRead : {A : Type 0} → RunExplainer A → RunExplainer A → Type 0
BeginsRead {A} e e' = (read : ItemExplainer A) × (e' ≡ record e { explainer = read })

-- the end was explained, or not where memory was refused
abbrev pub EndsAs : {A : Type 0} → (cut : Bool) → Connection → RunExplainer A → Option (List ℕ) → Option (List ℕ) → Type 0
EndsAs cut c e known known' =
    (s : State) (b : List ℕ) (text : List ℕ) → IsExplaining s b c e → IsBeginning s b e text
    → Gains (λ (more : List ℕ). IsExplanation e.form cut s b (text ++ more)) known known'

-- what is summed up at the end
abbrev pub IsSummed : {A : Type 0} → Connection → RunExplainer A → Summary → Type 0
IsSummed c e summary = (s : State) (b : List ℕ) → IsExplaining s b c e → IsSummary s b summary
