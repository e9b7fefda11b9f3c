-- A connection that is explained as its octets come, piece after piece.
use Rattle.std.proofs.Common.{◌≡◌, ◌∙◌, ℕ, ◌+◌, ◌<◌, ◌^◌, Bool, true, false, List, [], ◌++◌, length, Option, Some, None, Result, Ok, Err, is_err, IfOk, append_assoc, refl, sym, ap, subst, arith}
use Rattle.std.proofs.lemmas.Bool.{false≢true}
use Rattle.std.proofs.lemmas.List.{append-nil}
use Rattle.h2_spec.specs.State.{State}
use Rattle.h2_conn.specs.Connection.{Connection, going, halted}
use Rattle.h2_conn.specs.Runs.{Fed, Halts}
use Rattle.h2_serve.specs.Drives.{HasNoItem, HasRead}
use Rattle.h2_serve.specs.Wires.{grown}
use Rattle.h2_serve.proofs.Exchanges.{fed-no_item}
use Rattle.h2_serve.proofs.Halting.{sent-none}
use Rattle.std.specs.Io.KnownBytes.{Appends}
use Rattle.h2_explain.specs.Explains.{IsExplanation, not_written}
use Rattle.h2_explain.specs.declared.run.ExplainFault.{ExplainFault}
use Rattle.h2_explain.specs.Explaining as explaining
use Rattle.h2_explain.specs.Explaining.{BeginsRead, EndsAs, HasGained, IsBeginning, IsExplaining, IsNew, IsSummed, SaysOf, SaysSome}
use Rattle.h2_explain.specs.declared.run.Form.{Form}
use Rattle.h2_explain.specs.declared.run_explainer.RunExplainer.{RunExplainer}
use Rattle.h2_explain.specs.declared.run.Summary.{Summary}
use Rattle.h2_explain.proofs.Steps.{new-begins, new-explains}
use Rattle.h2_serve.specs.declared.explained.explained_conn.Conclusion.{Conclusion}
use Rattle.h2_serve.specs.declared.fault.ServeFault.{ServeFault}
use Rattle.h2_serve.specs.declared.fault.TextFault.{TextFault}
use Rattle.h2_serve.specs.Faults.{failed_by}
use Rattle.h2_serve.specs.Serves.{Grew}
use Rattle.h2_serve.specs.Numbered.{Grows, PrintsPrefixed, fresh_after, gathered_text, prefix_of, prefixed}
use Rattle.h2_serve.specs.ExplainedConns.{Concludes, GoesOn, IsWatched, IsExplained, Shows, whole}
use Rattle.h2_serve.specs.Passes.{goes-none, grew-more, not-before, prints-then}

-- whatever comes, what was said so far is an explanation that is cut short
pub cut-now : {A : Type 0} (form : Form) (s : State) (b octets text : List ℕ) (c : Connection) (e : RunExplainer A)
    → IsExplained false form s b c e text → (later : List ℕ) → IsExplanation form true s ((b ++ octets) ++ later) (text ++ [])
cut-now form s b octets text c e said later =
    subst (λ (o : List ℕ). IsExplanation form true s o (text ++ [])) (sym (append_assoc b octets later))
    (subst (λ (f : Form). IsExplanation f true s (b ++ (octets ++ later)) (text ++ [])) said.0 (said.2 (octets ++ later) true [] [] refl))

-- the same of these octets alone
cut-here : {A : Type 0} (form : Form) (s : State) (b text : List ℕ) (c : Connection) (e : RunExplainer A)
    → IsExplained false form s b c e text → IsExplanation form true s b (text ++ [])
cut-here form s b text c e said = subst (λ (o : List ℕ). IsExplanation form true s o (text ++ [])) (append-nil (b ++ []) ∙ append-nil b) (cut-now form s b [] text c e said [])

-- ---- the start

pub watched-new : {A : Type 0} (form : Form) (c : Connection) (e : RunExplainer A) → c ≡ going c.state [] → IsNew form e → HasNoItem c
    → IsWatched false c e 0
watched-new form c e is new none = (
  is,
  omega (arith, new.items_are, new.offset_is),
  omega (arith, new.offset_is, ap (λ (xs : List ℕ). length xs) new.held_is, new.late_is),
  omega arith,
  subst (λ (h : List ℕ). HasNoItem (going c.state h)) (sym new.held_is) (subst (λ (d : Connection). HasNoItem d) is none),
)

pub said-new : {A : Type 0} (form : Form) (c : Connection) (e : RunExplainer A) → c ≡ going c.state [] → IsNew form e → IsExplained false form c.state [] c e []
said-new form c e is new = (
  new.form_is,
  subst (λ (d : Connection). IsExplaining c.state [] d e) (sym is) (new-explains form c.state e new),
  new-begins form c.state e new,
)

-- ---- a piece

-- whatever is known of a read, the octets are those that were explained
explained-read : {A : Type 0} (form : Form) (s : State) (b text : List ℕ) (c : Connection) (e e' : RunExplainer A) (begins : BeginsRead e e')
    → IsExplained false form s b c e text → IsExplained false form s b c (record e { explainer = begins.0 }) text
explained-read form s b text c e e' begins said =
    let x = said.1 in (
      said.0,
      record { after = x.after; stops = x.stops; items_are = x.items_are; offset_is = x.offset_is; held_is = x.held_is; left_is = x.left_is; tallied = x.tallied },
      said.2,
    )

-- a read began, and nothing was said
pub goes-read : {A : Type 0} (P : List ℕ → Type 0) (c : Connection) (e e' : RunExplainer A) → BeginsRead e e' → P [] → GoesOn false c e P [] c e'
goes-read {A = A} P c e e' begins p = λ form s b text said.
    let none = goes-none P c e p form s b text said in (
      none.0,
      subst (λ (x : RunExplainer A). IsExplained false form s (b ++ []) c x (text ++ none.0)) (sym begins.1)
          (explained-read form s (b ++ []) (text ++ none.0) c e e' begins none.1),
      none.2,
    )

-- and it goes on being watched
pub watched-read : {A : Type 0} (failed : Bool) (c : Connection) (e e' : RunExplainer A) (came : ℕ) → BeginsRead e e'
    → IsWatched failed c e came → IsWatched failed c e' came
watched-read {A = A} true c e e' came begins watched = tt
watched-read {A = A} false c e e' came begins watched = subst (λ (x : RunExplainer A). IsWatched false c x came) (sym begins.1) watched

-- a text that was empty gained this
gained-is : (begun items more : List ℕ) → begun ≡ [] → Some items ≡ Some (begun ++ more) → items ≡ more
gained-is begun items more empty is = cc (subst (λ (h : List ℕ). Some items ≡ Some (h ++ more)) empty is)

-- all of its items were explained
pub goes-said : {A : Type 0} (P : List ℕ → Type 0) (c c' : Connection) (e e' : RunExplainer A) (piece begun items printed : List ℕ)
    → e'.form ≡ e.form → begun ≡ [] → printed ≡ items → explaining.GoesOn c e piece c' e'
    → SaysOf c e piece e' (Some begun) (Some items) → P printed → GoesOn false c e P piece c' e'
goes-said P c c' e e' piece begun items printed same empty whole goes says p = λ form s b text said.
    let gained = says s b text said.1 said.2 begun refl in (
      gained.0,
      (same ∙ said.0, goes s b said.1, gained.2),
      subst P (whole ∙ gained-is begun items gained.0 empty gained.1) p,
    )

-- or only some, as memory was refused
pub cut-said : {A : Type 0} (P : List ℕ → Type 0) (c c' : Connection) (e e' : RunExplainer A) (piece begun items printed : List ℕ)
    → begun ≡ [] → printed ≡ items → SaysSome c e piece (Some begun) (Some items) → P printed
    → GoesOn true c e P piece c' e'
cut-said P c c' e e' piece begun items printed empty whole says p = λ form s b text said.
    let gained = says s b text said.1 said.2 begun refl in (
      gained.0,
      λ later. subst (λ (f : Form). IsExplanation f true s ((b ++ piece) ++ later) (text ++ gained.0)) said.0 (gained.2 later),
      subst P (whole ∙ gained-is begun items gained.0 empty gained.1) p,
    )

-- or none
pub cut-before : {A : Type 0} (P : List ℕ → Type 0) (c c' : Connection) (e e' : RunExplainer A) (piece : List ℕ) → P [] → GoesOn true c e P piece c' e'
cut-before P c c' e e' piece p = λ form s b text said. ([], cut-now form s b piece text c e said, p)

-- whether memory for some of the text was refused too
pub cut-gathered : {A : Type 0} (P : List ℕ → Type 0) (c c' : Connection) (e e' : RunExplainer A) (piece begun items : List ℕ) (failed : Bool)
    → begun ≡ [] → (failed ≡ false → SaysSome c e piece (Some begun) (Some items)) → P (gathered_text failed items)
    → GoesOn true c e P piece c' e'
cut-gathered P c c' e e' piece begun items true empty says p = cut-before P c c' e e' piece p
cut-gathered P c c' e e' piece begun items false empty says p = cut-said P c c' e e' piece begun items items empty refl (says refl) p

-- then nothing was taken
halts-before : (s : State) (held piece out : List ℕ) → Halts (going s held) piece out (halted s) out
halts-before s held piece out = record {
  items = 0;
  within = omega arith;
  after = refl;
  sent = rw sent-none (sym (append-nil out));
}

pub halts-early : (failed : Bool) (s : State) (held piece out : List ℕ) → (whole failed s held).failed ≡ false
    → Halts (whole failed s held) piece out (halted s) out
halts-early false s held piece out is = halts-before s held piece out
halts-early true s held piece out is = cc

-- what was watched goes on being watched
pub watched-more : {A : Type 0} (failed : Bool) (c c' : Connection) (e e' : RunExplainer A) (came more came' : ℕ) (piece out out' : List ℕ)
    → (whole failed c.state e.held.items).failed ≡ false → IsWatched failed c e came → c' ≡ going c'.state []
    → HasGained e more e' → came' ≡ came + more → came' < 2 ^ 63
    → Fed (going c.state e.held.items) piece out (going c'.state e'.held.items) out' → IsWatched failed c' e' came'
watched-more false c c' e e' came more came' piece out out' is watched ready gained add small fed =
    (ready, gained.0, omega (arith, gained.1, watched.2, add), small, fed-no_item _ _ _ _ _ fed)
watched-more true c c' e e' came more came' piece out out' is watched ready gained add small fed = tt

-- ---- the end

pub ends-as : {A : Type 0} (P : List ℕ → Type 0) (failed : Bool) (x : Conclusion) (c : Connection) (e : RunExplainer A)
    → failed ≡ false → Concludes false x c e P → Concludes failed x c e P
ends-as P failed x c e is ends = subst (λ (f : Bool). Concludes f x c e P) (sym is) ends

-- memory was refused before: what was said is all
said-all : {A : Type 0} (P : List ℕ → Type 0) (c : Connection) (e : RunExplainer A) → P [] → Concludes true (record { is_cut = true; summary = None }) c e P
said-all P c e p = λ form s b text said. (
  [],
  (
    subst (λ (o : List ℕ). IsExplanation form true s o (text ++ [])) (append-nil b)
        (subst (λ (t : List ℕ). IsExplanation form true s (b ++ []) t) (sym (append-nil text)) (said [])),
    tt,
  ),
  p,
)

pub ends-cut : {A : Type 0} (P : List ℕ → Type 0) (failed : Bool) (c : Connection) (e : RunExplainer A)
    → failed ≡ true → P [] → Concludes failed (record { is_cut = true; summary = None }) c e P
ends-cut P failed c e is p = subst (λ (f : Bool). Concludes f (record { is_cut = true; summary = None }) c e P) (sym is) (said-all P c e p)

-- where memory for the text of the end was refused, the end was not explained
failed-cuts : {A : Type 0} (r : Result A ExplainFault) (failed : Bool) → failed ≡ not_written r → failed ≡ true → is_err r ≡ true
failed-cuts (Ok x) failed is e = absurd (false≢true (sym is ∙ e))
failed-cuts (Err fault) failed is e = refl

-- the end was explained, or memory was refused for it, or for its text; and this sums it up
gathered : {A : Type 0} (P : List ℕ → Type 0) (x : Summary) (c : Connection) (e : RunExplainer A) (begun items : List ℕ)
    (cut failed : Bool) → begun ≡ [] → (failed ≡ true → cut ≡ true) → (failed ≡ false → EndsAs cut c e (Some begun) (Some items)) → IsSummed c e x
    → P (gathered_text failed items) → Concludes false (record { is_cut = cut; summary = Some x }) c e P
gathered P x c e begun items cut true empty cuts ends summed p = λ form s b text said. (
  [],
  (
    subst (λ (f : Bool). IsExplanation form f s b (text ++ [])) (sym (cuts refl))
        (cut-here form s b text c e said),
    summed s b said.1,
  ),
  p,
)
gathered P x c e begun items cut false empty cuts ends summed p = λ form s b text said.
    let gained = ends refl s b text said.1 said.2 begun refl in (
      gained.0,
      (subst (λ (f : Form). IsExplanation f cut s b (text ++ gained.0)) said.0 gained.2, summed s b said.1),
      subst P (gained-is begun items gained.0 empty gained.1) p,
    )

pub ends-gathered : {A : Type 0} (P : List ℕ → Type 0) (x : Summary) (c : Connection) (e : RunExplainer A) (begun items : List ℕ)
    (r : Result (Unit {0}) ExplainFault) (cut failed : Bool) → cut ≡ is_err r → begun ≡ [] → failed ≡ not_written r
    → (failed ≡ false → EndsAs (is_err r) c e (Some begun) (Some items)) → IsSummed c e x → P (gathered_text failed items)
    → Concludes false (record { is_cut = cut; summary = Some x }) c e P
ends-gathered P x c e begun items r cut failed is empty flag ends summed p =
    subst (λ (f : Bool). Concludes false (record { is_cut = f; summary = Some x }) c e P) (sym is)
    (gathered P x c e begun items (is_err r) failed empty (failed-cuts r failed flag) ends summed p)

-- ---- all of it

shown : {A : Type 0} (form : Form) (number : ℕ) (refused : Bool) (summary : Conclusion) (s : State) (octets : List ℕ) (c c' : Connection)
    (e e' : RunExplainer A) (p q : List ℕ) (j k f g : Bool) (x y : Option TextFault) (l m n : Option (List ℕ))
    → p ≡ prefix_of form.json number → j ≡ form.json → f ≡ true → q ≡ p → k ≡ j
    → IsExplained false form s [] c e [] → GoesOn refused c e (λ more. PrintsPrefixed p j f x l more g y m) octets c' e'
    → Concludes refused summary c' e' (λ more. (y ≡ None) × Appends m n (prefixed q k g more))
    → Shows form number summary s l n octets
shown form number refused summary s octets c c' e e' p q j k f g x y l m n pe je fe qe ke said goes ends =
    let one = goes form s [] [] said in
    let two = ends form s octets one.0 one.1 in
    let text : List ℕ = one.0 ++ two.0 in
    let printed : PrintsPrefixed p j f x l text (fresh_after g two.0) None n =
    prints-then p q j k f g (fresh_after g two.0) x y None l m n one.0 two.0 qe ke one.2 (λ e. (two.2.0, refl, two.2.1)) in
    let gained : Appends l n (prefixed p j f text) = (printed refl).2 in (
      text,
      two.1,
      subst (λ (h : Bool). Appends l n (prefixed (prefix_of form.json number) form.json h text)) fe
          (subst (λ (h : Bool). Appends l n (prefixed (prefix_of form.json number) h f text)) je
          (subst (λ (h : List ℕ). Appends l n (prefixed h j f text)) pe gained)),
    )

-- the same of what was read, where its end was printed
pub shown-read : {A : Type 0} (form : Form) (number : ℕ) (result : Result Conclusion ServeFault) (refused failed : Bool) (s : State)
    (octets : List ℕ) (c c' : Connection) (e e' : RunExplainer A) (p q : List ℕ) (j k f g : Bool) (x y : Option TextFault)
    (l m n before after read read' : Option (List ℕ)) → l ≡ before → n ≡ after → read' ≡ grown read octets → failed ≡ refused
    → p ≡ prefix_of form.json number → j ≡ form.json → f ≡ true → q ≡ p → k ≡ j
    → IsExplained false form s [] c e [] → GoesOn refused c e (λ more. PrintsPrefixed p j f x l more g y m) octets c' e'
    → IfOk result (λ summary. Concludes failed summary c' e' (λ more. (y ≡ None) × Appends m n (prefixed q k g more)))
    → IfOk result (λ summary. HasRead (Shows form number summary s before after) read read')
shown-read form number (Err fault) refused failed s octets c c' e e' p q j k f g x y l m n before after read read' lb na grew is pe je fe qe ke said goes ends = tt
shown-read form number (Ok summary) refused failed s octets c c' e e' p q j k f g x y l m n before after read read' lb na grew is pe je fe qe ke said goes ends =
    let concludes = subst (λ (r : Bool). Concludes r summary c' e' (λ more. (y ≡ None) × Appends m n (prefixed q k g more))) is ends in
    let shows = shown form number refused summary s octets c c' e e' p q j k f g x y l m n pe je fe qe ke said goes concludes in (
      octets,
      grew,
      subst (λ (t : Option (List ℕ)). Shows form number summary s t after octets) lb
          (subst (λ (t : Option (List ℕ)). Shows form number summary s l t octets) na shows),
    )

-- ---- the output, whatever was printed

-- a printer that has not failed at the end had not failed before, and the output gained some text
pub grew-well : (x y : Option TextFault) (k l m : Option (List ℕ)) → Grows x y k l → m ≡ l → failed_by y ≡ false
    → (failed_by x ≡ false) × Grew k m
grew-well x y k l m grows is well = (
  not-before (failed_by x) (failed_by y) grows.0 well,
  subst (λ (t : Option (List ℕ)). Grew k t) (sym is) (grows.1 well),
)

pub flag-read : (a b flag : Bool) → a ≡ b → a ≡ flag → b ≡ flag
flag-read a b flag same is = sym same ∙ is

pub grew-read : (x y : Option TextFault) (l m n before after : Option (List ℕ)) (unwritten : Bool) → l ≡ before → n ≡ after
    → Grows x y l m → (unwritten ≡ false → (failed_by y ≡ false) × Grew m n) → unwritten ≡ false → Grew before after
grew-read x y l m n before after unwritten lb na grows ends well =
    let end = ends well in
    subst (λ (t : Option (List ℕ)). Grew t after) lb
    (subst (λ (t : Option (List ℕ)). Grew l t) na (grew-more l m n (grows.1 end.0) end.1))
