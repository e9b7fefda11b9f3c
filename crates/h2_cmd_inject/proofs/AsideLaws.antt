-- Lines below an item, one after another.
use Rattle.std.proofs.Common.{◌≡◌, ◌∙◌, ℕ, zero, suc, ◌+◌, ◌-◌, ◌<◌, ◌≤◌, Bool, true, false, List, [], ◌∷◌, ◌++◌, Option, Some, None, Result, OnOk, ap, arith, codes, refl, subst, sym}
use Rattle.std.proofs.lemmas.List.{append_assoc, append-nil}
use Rattle.std.proofs.lemmas.Result.{on_ok_weaker}
use Rattle.h2_cmd_dialogue.specs.Woven.{Parts}
use Rattle.h2_cmd_inject.proofs.ResultLaws.{Would, would-end, would-next}
use Rattle.h2_cmd_inject.specs.Asides.{AreFrameLines, ArePartLines, frames_if, frames_in, unjudged_lines}
use Rattle.h2_cmd_inject.specs.Results.{AppendsOne, AppendsSome}
use Rattle.h2_cmd_inject.specs.Views.{AreOpeningLines, IsBelow}
use Rattle.h2_explain_item.specs.declared.item.Explained.{Explained}
use Rattle.h2_explain_words.specs.Sent.{FirstFrame, first_frame}

-- ---- the frames of octets

-- lines for the first of them were put, and these octets are left
abbrev pub Frames : (FirstFrame → List ℕ → Type 0) → (most i : ℕ) → (octets rest old out : List ℕ) → Type 0
Frames Is most i octets rest old out = Would Is (frames_in most octets) old out (frames_in (most - i) rest)

frames-next : (n i : ℕ) (octets : List ℕ) (f : FirstFrame) → i < n → first_frame octets ≡ Some f → frames_in (n - i) octets ≡ f ∷ frames_in (n - (i + 1)) f.rest
frames-next n i octets f less first =
    let count : n - i ≡ suc (n - (i + 1)) = omega (arith, less) in
    ap (λ (k : ℕ). frames_in k octets) count ∙ ap (λ (x : Option FirstFrame). frames_if x (frames_in (n - (i + 1)))) first

frames-none : (n : ℕ) (octets : List ℕ) → first_frame octets ≡ None → frames_in n octets ≡ []
frames-none zero octets none = refl
frames-none (suc n) octets none = ap (λ (x : Option FirstFrame). frames_if x (frames_in n)) none

-- before the first
pub lines-init : (Is : FirstFrame → List ℕ → Type 0) (most : ℕ) (octets old : List ℕ) → Frames Is most 0 octets octets old old
lines-init Is most octets old =
    let all : most - 0 ≡ most = omega arith in
    λ more each. (more, rw all at each, refl)

-- one more was put
pub lines-next : (Is : FirstFrame → List ℕ → Type 0) (most i : ℕ) (octets rest old out new : List ℕ) (f : FirstFrame) → i < most → first_frame rest ≡ Some f
    → Frames Is most i octets rest old out → AppendsOne (Is f) out new → Frames Is most (i + 1) octets f.rest old new
lines-next Is most i octets rest old out new f less first before one =
    would-next Is (frames_in most octets) f (frames_in (most - (i + 1)) f.rest) old out new
    (subst (Would Is (frames_in most octets) old out) (frames-next most i rest f less first) before) one

-- no frame is left
pub lines-end : (Is : FirstFrame → List ℕ → Type 0) (most i : ℕ) (octets rest old out : List ℕ) → first_frame rest ≡ None
    → Frames Is most i octets rest old out → AppendsSome Is (frames_in most octets) old out
lines-end Is most i octets rest old out none before =
    would-end Is (frames_in most octets) old out (subst (Would Is (frames_in most octets) old out) (frames-none (most - i) rest none) before)

-- or as many as there can be were put
pub lines-full : (Is : FirstFrame → List ℕ → Type 0) (most i : ℕ) (octets rest old out : List ℕ) → most ≤ i
    → Frames Is most i octets rest old out → AppendsSome Is (frames_in most octets) old out
lines-full Is most i octets rest old out full before =
    let none : most - i ≡ 0 = omega (arith, full) in
    would-end Is (frames_in most octets) old out (subst (Would Is (frames_in most octets) old out) (ap (λ (k : ℕ). frames_in k rest) none) before)

-- ---- texts

-- those that did not go out, and then those of the script
both : (color : Bool) (p : Parts) (old mid new : List ℕ) → AppendsOne (AreFrameLines color (codes "withheld") p.withheld) old mid
    → AppendsOne (AreFrameLines color (codes "script") p.script) mid new → AppendsOne (ArePartLines color p) old new
both color p old mid new a b = (a.0 ++ b.0, (a.0, b.0, a.1, b.1, refl), b.2 ∙ ap (λ (k : List ℕ). k ++ b.0) a.2 ∙ append_assoc old a.0 b.0)

pub parts-put : {E : Type 0} (color : Bool) (p : Parts) (withheld script old mid new : List ℕ) (r : Result (Unit {0}) E) → withheld ≡ p.withheld → script ≡ p.script
    → AppendsOne (AreFrameLines color (codes "withheld") withheld) old mid → OnOk r (AppendsOne (AreFrameLines color (codes "script") script) mid new)
    → OnOk r (AppendsOne (ArePartLines color p) old new)
parts-put color p withheld script old mid new r is_withheld is_script one two =
    on_ok_weaker r
    (λ put. both color p old mid new (subst (λ (o : List ℕ). AppendsOne (AreFrameLines color (codes "withheld") o) old mid) is_withheld one)
    (subst (λ (o : List ℕ). AppendsOne (AreFrameLines color (codes "script") o) mid new) is_script put))
    two

-- what the script made of the opening was put, where that is shown
pub opening-put : {E : Type 0} (color is_opening : Bool) (opening : Parts) (old new : List ℕ) (r : Result (Unit {0}) E) → is_opening ≡ true
    → OnOk r (AppendsOne (ArePartLines color opening) old new) → OnOk r (AppendsOne (AreOpeningLines color is_opening opening) old new)
opening-put color is_opening opening old new r so put =
    subst (λ (b : Bool). OnOk r (AppendsOne (AreOpeningLines color b opening) old new)) (sym so) put

pub opening-none : (color is_opening : Bool) (opening : Parts) (old : List ℕ) → is_opening ≡ false → AppendsOne (AreOpeningLines color is_opening opening) old old
opening-none color is_opening opening old so =
    subst (λ (b : Bool). AppendsOne (AreOpeningLines color b opening) old old) (sym so) ([], refl, sym (append-nil old))

-- below an item of a text
around : (color is_opening : Bool) (opening : Parts) (since : Option ℕ) (p : Parts) (x : Explained) (old one two new : List ℕ)
    → AppendsOne (AreOpeningLines color is_opening opening) old one → two ≡ one ++ unjudged_lines color since x → AppendsOne (ArePartLines color p) two new
    → AppendsOne (IsBelow false color is_opening opening since p x) old new
around color is_opening opening since p x old one two new a put b =
    let between : List ℕ = unjudged_lines color since x in
    let front : two ≡ old ++ (a.0 ++ between) = put ∙ ap (λ (k : List ℕ). k ++ between) a.2 ∙ append_assoc old a.0 between in
    ((a.0 ++ between) ++ b.0, (a.0, b.0, a.1, b.1, refl), b.2 ∙ ap (λ (k : List ℕ). k ++ b.0) front ∙ append_assoc old (a.0 ++ between) b.0)

pub below-put : {E : Type 0} (json color is_opening : Bool) (opening : Parts) (since : Option ℕ) (p : Parts) (x : Explained) (old one two new : List ℕ)
    (r : Result (Unit {0}) E) → json ≡ false → AppendsOne (AreOpeningLines color is_opening opening) old one → two ≡ one ++ unjudged_lines color since x
    → OnOk r (AppendsOne (ArePartLines color p) two new) → OnOk r (AppendsOne (IsBelow json color is_opening opening since p x) old new)
below-put json color is_opening opening since p x old one two new r so first put last =
    subst (λ (b : Bool). OnOk r (AppendsOne (IsBelow b color is_opening opening since p x) old new)) (sym so)
    (on_ok_weaker r (around color is_opening opening since p x old one two new first put) last)

pub below-none : (json color is_opening : Bool) (opening : Parts) (since : Option ℕ) (p : Parts) (x : Explained) (old : List ℕ) → json ≡ true
    → AppendsOne (IsBelow json color is_opening opening since p x) old old
below-none json color is_opening opening since p x old so =
    subst (λ (b : Bool). AppendsOne (IsBelow b color is_opening opening since p x) old old) (sym so) ([], refl, sym (append-nil old))
