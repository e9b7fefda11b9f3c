-- A connection that is explained while it is driven, and what is printed of it.
use Rattle.std.specs.Prelude.{◌≡◌, ℕ, ◌<◌, ◌≤◌, ◌^◌, ◌++◌, Bool, true, false, List, [], Option, IfSome}
use Rattle.std.specs.Io.KnownBytes.{Appends}
use Rattle.h2_spec.specs.State.{State}
use Rattle.h2_conn.specs.Connection.{Connection, going, halted}
use Rattle.h2_serve.specs.Drives.{HasNoItem}
use Rattle.h2_explain.specs.Explains.{IsExplanation, IsSummary}
use Rattle.h2_explain.specs.Explaining.{IsBeginning, IsExplaining, total}
use Rattle.h2_explain.specs.declared.run_explainer.RunExplainer.{RunExplainer}
use Rattle.h2_explain.specs.declared.run.Form.{Form}
use Rattle.h2_explain.specs.declared.run.Summary.{Summary}
use Rattle.h2_serve.specs.Numbered.{prefix_of, prefixed}
use Rattle.h2_serve.specs.declared.explained.explained_conn.Conclusion.{Conclusion}

-- the text explains a connection over octets, or, memory being refused, some first items of it; and this sums it up, if
-- there is a summary
abbrev pub Explains : Form → State → List ℕ → List ℕ → (cut : Bool) → Option Summary → Type 0
Explains form s octets text cut summary = IsExplanation form cut s octets text × IfSome summary (λ x. IsSummary s octets x)

-- the output gained the explanation of the octets of the connection with this number, each line after it
abbrev pub Shows : Form → (number : ℕ) → Conclusion → State → (before after : Option (List ℕ)) → List ℕ → Type 0
Shows form number x s before after octets =
    (text : List ℕ) × Explains form s octets text x.is_cut x.summary
    × Appends before after (prefixed (prefix_of form.json number) form.json true text)

-- ---- piece after piece

-- a connection together with the octets that its explanation holds; or one that was refused memory
abbrev pub whole : (failed : Bool) → State → List ℕ → Connection
whole false s held = going s held
whole true s held = halted s

-- the explanation can go on: it holds the octets of the connection, these complete no item, and this many octets came
abbrev pub IsWatched : {A : Type 0} → (failed : Bool) → Connection → RunExplainer A → (came : ℕ) → Type 0
IsWatched true c e came = Unit {0}
IsWatched false c e came =
    (c ≡ going c.state []) × (e.items ≤ e.offset) × (total e ≡ came) × (came < 2 ^ 63) × HasNoItem (going c.state e.held.items)

-- what was said in this form of the octets that came: of all items, and it goes on; or, memory being refused, of some
-- first items, whatever octets come later
abbrev pub IsExplained : {A : Type 0} → (refused : Bool) → Form → State → List ℕ → Connection → RunExplainer A → List ℕ → Type 0
IsExplained false form s b c e text = (e.form ≡ form) × IsExplaining s b c e × IsBeginning s b e text
IsExplained true form s b c e text = (later : List ℕ) → IsExplanation form true s (b ++ later) text

-- these octets came: whatever came and was said before, what is said now goes on with it, and P holds of it
abbrev pub GoesOn : {A : Type 0} → (refused : Bool) → Connection → RunExplainer A → (P : List ℕ → Type 0) → List ℕ → Connection → RunExplainer A → Type 0
GoesOn refused c e P octets c' e' =
    (form : Form) (s : State) (b text : List ℕ) → IsExplained false form s b c e text
    → (more : List ℕ) × IsExplained refused form s (b ++ octets) c' e' (text ++ more) × P more

-- the explanation ended: what was said before and at the end explains all octets, and P holds of the end
abbrev pub Concludes : {A : Type 0} → (refused : Bool) → Conclusion → Connection → RunExplainer A → (P : List ℕ → Type 0) → Type 0
Concludes refused x c e P =
    (form : Form) (s : State) (b text : List ℕ) → IsExplained refused form s b c e text
    → (more : List ℕ) × Explains form s b (text ++ more) x.is_cut x.summary × P more
