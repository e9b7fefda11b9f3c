-- The items of a connection that is shown, one after another.
use Rattle.std.proofs.Common.{◌≡◌, ◌∙◌, ℕ, ◌+◌, ◌<◌, ◌≤◌, Bool, true, false, ◌&&◌, List, [], ◌∷◌, ◌++◌, Option, Some, None, ap, arith, drop, length, length-drop, refl, subst, sym}
use Rattle.std.proofs.lemmas.List.{append_assoc, append-nil, drop-drop}
use Rattle.h2_cmd_dialogue.specs.Steps.{Start, Step}
use Rattle.h2_cmd_dialogue.specs.Woven.{Parts, Weaving, after_item, no_steps_taken, parts_of}
use Rattle.h2_cmd_inject.specs.Results.{AppendsOne}
use Rattle.h2_cmd_inject.specs.Views.{AreOpeningLines, AreTaken, AreWarningsSince, IsBelow, IsEnd, IsEndIf, IsFront, IsItemShown, IsItemView, IsView, TakesAll, TakesIfThere, TakesItem, TalliesSince, Viewing, begun, is_opening, judged_of, opening_parts, since_with, tally_since}
use Rattle.h2_explain.specs.Explains.{IsRestText, shows_item, summary_since}
use Rattle.h2_explain.specs.Verdicts.{Tallied, no_tally}
use Rattle.h2_explain.specs.declared.run.Form.{Form}
use Rattle.h2_explain.specs.declared.run.Summary.{Summary}
use Rattle.h2_explain_item.specs.Warnings.{AreWarnings}
use Rattle.h2_explain_item.specs.declared.change.changes.ShownChange.{ShownChange}
use Rattle.h2_explain_item.specs.declared.diagnosis.special.CaseFacts.{CaseFacts}
use Rattle.h2_explain_item.specs.declared.diagnosis.warning.Warnings.{Warnings}
use Rattle.h2_explain_item.specs.declared.item.Explained.{Explained}
use Rattle.h2_explain_item.specs.declared.notes.StreamNote.{StreamNote}
use Rattle.h2_explain_step.specs.Account.{ListsChanges}
use Rattle.h2_explain_step.specs.Explained.{IsItemOf, IsTextWith}
use Rattle.h2_explain_step.proofs.Taken.{item-uses}
use Rattle.h2_spec.specs.Opening.{opening_octets}
use Rattle.h2_spec.specs.State.{State}
use Rattle.h2_spec.specs.declared.connection.Config.{Config}

-- ---- a new connection

-- what the script makes of the opening
pub begun-parts : (steps : List Step) (s : State) (w : Weaving) (config : Config) (b out old : List ℕ) (p : Parts) → p ≡ parts_of steps w Start b → w ≡ no_steps_taken → b ≡ out
    → out ≡ old ++ opening_octets config → old ≡ [] → config ≡ s.config → p ≡ opening_parts steps s
begun-parts steps s w config b out old p is new same put none of =
    let sent : b ≡ opening_octets s.config = same ∙ put ∙ ap (λ (l : List ℕ). l ++ opening_octets config) none ∙ ap opening_octets of in
    is ∙ ap (λ (k : Weaving). parts_of steps k Start b) new ∙ ap (λ (k : List ℕ). parts_of steps no_steps_taken Start k) sent

abbrev pub viewing_at : State → Weaving → Option ℕ → Tallied → Viewing
viewing_at s w since t = record { state = s; weaving = w; since = since; tally = t; items = 0; offset = 0 }

pub view-begun : (steps : List Step) (s : State) (w : Weaving) (p : Parts) (since : Option ℕ) (t : Tallied) → w ≡ after_item steps no_steps_taken Start → p ≡ opening_parts steps s
    → since ≡ since_with None 0 p → t ≡ no_tally → viewing_at s w since t ≡ begun steps s
view-begun steps s w p since t is_w is_p is_since is_t =
    let spoken : since ≡ since_with None 0 (opening_parts steps s) = is_since ∙ ap (since_with None 0) is_p in
    ap (λ (k : Weaving). viewing_at s k since t) is_w ∙ ap (λ (k : Option ℕ). viewing_at s (after_item steps no_steps_taken Start) k t) spoken
    ∙ ap (viewing_at s (after_item steps no_steps_taken Start) (since_with None 0 (opening_parts steps s))) is_t

-- ---- one item

-- its text and what is below were put
pub item-put : (shown : Bool) (form : Form) (o : Bool) (opening : Parts) (since : Option ℕ) (p : Parts) (x y : Explained) (changes : List ShownChange) (own old mid new : List ℕ)
    → shown ≡ true → IsItemOf (judged_of since x) x.number x.offset x.ahead.now p.sent y → IsTextWith form.json form.color form.brief y changes own
    → mid ≡ old ++ own → AppendsOne (IsBelow form.json form.color o opening since p x) mid new → AppendsOne (IsItemShown shown form o opening since p x changes) old new
item-put shown form o opening since p x y changes own old mid new so of text put below =
    let all = below.2 ∙ ap (λ (k : List ℕ). k ++ below.0) put ∙ append_assoc old own below.0 in
    (own ++ below.0, subst (λ (b : Bool). IsItemShown b form o opening since p x changes (own ++ below.0)) (sym so) (y, of, own, below.0, text, below.1, refl), all)

warnings-since : (since : Option ℕ) (x : Explained) (f : CaseFacts) (ws ws' : Warnings) → AreWarnings x f ws → (since ≡ None → ws' ≡ ws) → AreWarningsSince since x ws'
warnings-since None x f ws ws' are same = (f, subst (AreWarnings x f) (sym (same refl)) are)
warnings-since (Some n) x f ws ws' are same = tt

-- it is shown with what it changed
pub item-viewed : (form : Form) (s : State) (o : Bool) (opening : Parts) (since : Option ℕ) (p : Parts) (x : Explained) (begun : ℕ) (note : ℕ → Option StreamNote)
    (f : CaseFacts) (ws ws' : Warnings) (changes : List ShownChange) (old new : List ℕ) → ListsChanges x s begun note changes → AreWarnings x f ws → (since ≡ None → ws' ≡ ws)
    → AppendsOne (IsItemShown (shows_item form x ws') form o opening since p x changes) old new → AppendsOne (IsItemView form s o opening since p x) old new
item-viewed form s o opening since p x begun note f ws ws' changes old new lists are same put =
    (put.0, (begun, note, changes, lists, ws', warnings-since since x f ws ws' are same, put.1), put.2)

-- it is counted, unless the script has spoken
pub tallied-since : (since : Option ℕ) (t : Tallied) (x : Explained) (f : CaseFacts) (ws : Warnings) (t' : Tallied) → AreWarnings x f ws → t' ≡ tally_since since t x f ws
    → TalliesSince since t x t'
tallied-since None t x f ws t' are is = (f, ws, are, is)
tallied-since (Some n) t x f ws t' are is = is

-- ---- all items

-- some first items were taken: with those after them all are
abbrev pub TakesOn : Form → List Step → Parts → Viewing → List ℕ → (old : List ℕ) → Viewing → List ℕ → (out : List ℕ) → Type 0
TakesOn form steps opening v b old m rest out =
    (after : Viewing) (left : List ℕ) (xs : List Explained) (more : List ℕ) → AreTaken form steps opening m rest after left xs more
    → AppendsOne (TakesAll form steps opening v b after left) old (out ++ more)

pub takes-start : (form : Form) (steps : List Step) (opening : Parts) (v : Viewing) (b old : List ℕ) → TakesOn form steps opening v b old v b old
takes-start form steps opening v b old = λ after left xs more taken. (more, (xs, taken), refl)

takes-next : (form : Form) (steps : List Step) (opening : Parts) (v m m' : Viewing) (b old rest out new text : List ℕ) (x : Explained)
    → TakesOn form steps opening v b old m rest out → TakesItem form steps opening m rest x m' text → new ≡ out ++ text
    → TakesOn form steps opening v b old m' (drop x.used rest) new
takes-next form steps opening v m m' b old rest out new text x before item put = λ after left xs more taken.
    let all = before after left (x ∷ xs) (text ++ more) (text, more, m', item, taken, refl) in
    (all.0, all.1, ap (λ (k : List ℕ). k ++ more) put ∙ append_assoc out text more ∙ all.2)

-- one more was taken, by what is known of the same opening
pub takes-one : (form : Form) (steps : List Step) (opening opening' : Parts) (v m m' : Viewing) (b old : List ℕ) (at : ℕ) (out new : List ℕ) (used : ℕ)
    → TakesOn form steps opening v b old m (drop at b) out → opening' ≡ opening → TakesIfThere form steps opening' m (drop at b) m' out new (Some used)
    → TakesOn form steps opening v b old m' (drop (at + used) b) new
takes-one form steps opening opening' v m m' b old at out new used before same there =
    let item = subst (λ (p : Parts). TakesItem form steps p m (drop at b) there.0 m' there.2) same there.3 in
    let next = takes-next form steps opening v m m' b old (drop at b) out new there.2 there.0 before item there.4 in
    let rest : drop there.0.used (drop at b) ≡ drop (at + used) b = ap (λ (n : ℕ). drop n (drop at b)) (sym there.1) ∙ drop-drop used at b in
    subst (λ (d : List ℕ). TakesOn form steps opening v b old m' d new) rest next

-- it has an octet or more, and no more than there are
pub takes-within : (form : Form) (steps : List Step) (opening : Parts) (m m' : Viewing) (b : List ℕ) (at : ℕ) (out new : List ℕ) (used : ℕ) → at ≤ length b
    → TakesIfThere form steps opening m (drop at b) m' out new (Some used) → (0 < used) × (at + used ≤ length b)
takes-within form steps opening m m' b at out new used within there =
    let uses = item-uses m.state (drop at b) _ _ there.3.connection there.0 there.3.explains in
    (omega (arith, there.1, uses.0), omega (arith, within, there.1, uses.1, length-drop at b))

-- none is left
pub takes-end : (form : Form) (steps : List Step) (opening opening' : Parts) (v m m' : Viewing) (b old rest out new : List ℕ)
    → TakesOn form steps opening v b old m rest out → TakesIfThere form steps opening' m rest m' out new None → AppendsOne (TakesAll form steps opening v b m' rest) old new
takes-end form steps opening opening' v m m' b old rest out new before there =
    let all = before m rest [] [] (there.0, refl, refl, refl) in
    let one : AppendsOne (TakesAll form steps opening v b m rest) old new = (all.0, all.1, there.2 ∙ sym (append-nil out) ∙ all.2) in
    subst (λ (k : Viewing). AppendsOne (TakesAll form steps opening v b k rest) old new) (sym there.1) one

-- ---- the end

pub end-json : (form : Form) (opening : Parts) (v : Viewing) (left : ℕ) (text old new : List ℕ) → form.json ≡ true
    → IsRestText v.since form v.state v.items v.tally left text → new ≡ old ++ text → AppendsOne (IsEnd form opening v left) old new
end-json form opening v left text old new so is put = (text, subst (λ (b : Bool). IsEndIf b (is_opening form v.items) form opening v left text) (sym so) is, put)

pub end-text : (form : Form) (opening : Parts) (v : Viewing) (left : ℕ) (text old mid new : List ℕ) → form.json ≡ false
    → IsRestText v.since form v.state v.items v.tally left text → mid ≡ old ++ text → AppendsOne (AreOpeningLines form.color (is_opening form v.items) opening) mid new
    → AppendsOne (IsEnd form opening v left) old new
end-text form opening v left text old mid new so is put below = (
  text ++ below.0,
  subst (λ (b : Bool). IsEndIf b (is_opening form v.items) form opening v left (text ++ below.0)) (sym so) (text, below.0, is, below.1, refl),
  below.2 ∙ ap (λ (k : List ℕ). k ++ below.0) put ∙ append_assoc old text below.0,
)

-- ---- a view

pub view-whole : (form : Form) (steps : List Step) (s : State) (b : List ℕ) (v after : Viewing) (opening opening' : Parts) (left rest t0 t1 t2 t3 : List ℕ) (summary : Summary)
    → t0 ≡ [] → v ≡ begun steps s → opening ≡ opening_parts steps s → opening' ≡ opening → rest ≡ left
    → AppendsOne (IsFront (is_opening form v.items && form.json)) t0 t1 → AppendsOne (TakesAll form steps opening v b after left) t1 t2
    → AppendsOne (IsEnd form opening' after (length rest)) t2 t3
    → summary ≡ summary_since after.since after.tally after.state after.items (length rest) → IsView form steps s b t3 summary
view-whole form steps s b v after opening opening' left rest t0 t1 t2 t3 summary none new is same kept front middle back summed =
    let first : t1 ≡ front.0 = front.2 ∙ ap (λ (k : List ℕ). k ++ front.0) none in
    let items = subst (λ (p : Parts). TakesAll form steps p v b after left middle.0) is middle.1 in
    let end = subst (λ (p : Parts). IsEnd form p after (length rest) back.0) (same ∙ is) back.1 in
    record {
      after = after;
      left = left;
      front = front.0;
      middle = middle.0;
      back = back.0;
      opens = subst (λ (k : Viewing). IsFront (is_opening form k.items && form.json) front.0) new front.1;
      taken = subst (λ (k : Viewing). TakesAll form steps (opening_parts steps s) k b after left middle.0) new items;
      ends = subst (λ (k : List ℕ). IsEnd form (opening_parts steps s) after (length k) back.0) kept end;
      whole = back.2 ∙ ap (λ (k : List ℕ). k ++ back.0) (middle.2 ∙ ap (λ (k : List ℕ). k ++ middle.0) first);
      summed = summed ∙ ap (λ (k : List ℕ). summary_since after.since after.tally after.state after.items (length k)) kept;
    }
