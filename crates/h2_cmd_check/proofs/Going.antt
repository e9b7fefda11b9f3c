-- What a walk has found over a line, in the words of the definitions.
use Rattle.std.proofs.Common.{◌≡◌, ◌∙◌, ◌++◌, ◌&&◌, ◌||◌, ◌==◌, ℕ, Bool, true, false, not, cond, List, [], ◌∷◌, Some, length, drop, map, refl, sym, ap, ap₂, subst, arith, Bor}
use Rattle.h2_conn.specs.Connection.{Connection, going}
use Rattle.h2_spec.specs.Frames.Parse.{parse_all}
use Rattle.h2_spec.specs.State.{State}
use Rattle.h2_spec.specs.Texts.Show.{show}
use Rattle.h2_spec.specs.Trace.{trace}
use Rattle.h2_spec.specs.Texts.View.{view}
use Rattle.h2_cmd_check.specs.Cases.{Start, all_hold, closes, errs, first_place, ignores, passed, played, plays, sight_above, sight_at, unspoken}
use Rattle.h2_cmd_check.specs.Commands.{is_present, left_with, text_by}
use Rattle.h2_cmd_check.specs.Frames.{is_none, sends, spoken_by}
use Rattle.h2_cmd_check.specs.ItemTexts.{text_before}
use Rattle.h2_cmd_cases.specs.Lines as line
use Rattle.h2_cmd_check.specs.ItemsTaken.{Sight, no_item, seen_by, sight, sight_by}
use Rattle.h2_cmd_check.specs.Texts.{explains, shows}
use Rattle.h2_cmd_check.specs.Walks.{Closes, Finds, Goes, Leaves, Passes, Speaks, Walks, left_by, place_of, sent_here, sight_here}
use Rattle.h2_cmd_check.specs.declared.case_debugger.CaseDebugger.{CaseDebugger}
use Rattle.h2_cmd_check.specs.declared.case_debugger.CaseDebugger.TheVariants.{Absent, Present, Left}
use Rattle.h2_cmd_check.specs.declared.walk.Walk.{Walk}

-- what is seen at a place is what a value has
pub here_is : (start : Start) (w : Walk) → seen_by w.seen ≡ sight_above start (place_of w) → sight_here w ≡ sight_at start (place_of w)
here_is start w e = ap (λ (x : Sight). sight_by w.debugger x) e

pub sent_is : (start : Start) (w : Walk) → seen_by w.seen ≡ sight_above start (place_of w) → sent_here w ≡ (sight_at start (place_of w)).sent
sent_is start w e = ap (λ (x : Sight). x.sent) (here_is start w e)

pub left_is : (start : Start) (w : Walk) → seen_by w.seen ≡ sight_above start (place_of w) → left_by w ≡ unspoken start (place_of w)
left_is start w e = ap (λ (t : List ℕ). drop w.spoken t) (sent_is start w e)

-- a walk that has the same octets and has seen the same
pub walks_same : (start : Start) (w w' : Walk) (c : Connection) → w'.octets ≡ w.octets → w'.at ≡ w.at → w'.seen ≡ w.seen → Walks start w c → Walks start w' c
walks_same start w w' c octets at seen is = record {
  within = rw (octets, at, seen) is.within;
  ready = is.ready;
  state = rw octets is.state;
  rest = rw (octets, at) is.rest;
  seen = rw (seen, octets) is.seen;
}

-- where the place stays
pub goes_found : (b : Bool) (w w' : Walk) → Finds b w w' → Goes b (place_of w) w w'
goes_found b w w' f = record {
  found = f.found;
  place = λ e. rw (f.octets, f.spoken e, f.speaks, f.debugger) refl;
}

pub goes_nowhere : (w : Walk) → Goes true (place_of w) w w
goes_nowhere w = record { found = at w.holds; place = λ e. refl }
  where
    at : (b : Bool) → b ≡ (b && true)
    at true = refl
    at false = refl

-- a line has spoken about what was sent
pub goes_sent : (start : Start) (w w' : Walk) (text : List ℕ) → seen_by w.seen ≡ sight_above start (place_of w) → Speaks text w w'
    → Passes start (line.Sent text) w w'
goes_sent start w w' text seen f = record {
  found = f.found ∙ ap (λ (t : List ℕ). w.holds && sends text t) (left_is start w seen);
  place = λ e.
      let here : sends text (left_by w) ≡ true = ap (sends text) (left_is start w seen) ∙ e in
      let spoken = f.spoken here ∙ ap₂ (λ (o t : List ℕ). spoken_by text o (length t) w.spoken) (left_is start w seen) (sent_is start w seen) in
      rw (f.octets, spoken, f.speaks, f.debugger) refl;
}

-- more octets after a place that closes
pub closes_is : (start : Start) (w : Walk) → seen_by w.seen ≡ sight_above start (place_of w) → (not w.speaks || is_none (left_by w)) ≡ closes start (place_of w)
closes_is start w e = ap (λ (t : List ℕ). not w.speaks || is_none t) (left_is start w e)

-- what has been spoken about once octets come, after commands or not
pub passed_is : (d : CaseDebugger) (speaks : Bool) (above : List ℕ) (seen : Sight) (spoken : ℕ)
    → cond (is_present d) (length seen.sent) (cond (not speaks && is_none above) (length (sight_by d seen).sent) spoken) ≡ cond (is_present d || (not speaks && is_none above)) (length seen.sent) spoken
passed_is Absent speaks above seen spoken = refl
passed_is (Present d) speaks above seen spoken = refl
passed_is (Left d) speaks above seen spoken = refl

pub left_spoken : (start : Start) (w one two : Walk) (more : List ℕ) → seen_by w.seen ≡ sight_above start (place_of w) → one.seen ≡ w.seen → one.debugger ≡ w.debugger
    → one.spoken ≡ cond (not w.speaks && is_none w.octets.items) (length (sent_here w)) w.spoken → Leaves more one two → two.spoken ≡ passed start (place_of w)
left_spoken start w one two more seen same debugger spoken l =
    let some : is_present one.debugger ≡ is_present w.debugger = ap (λ (d : CaseDebugger). is_present d) debugger in
    let sent : length one.seen.sent.items ≡ length w.seen.sent.items = ap (λ s. length s.sent.items) same in
    l.spoken ∙ rw (some, sent, spoken) (passed_is w.debugger w.speaks w.octets.items (seen_by w.seen) w.spoken)
    ∙ ap (λ (x : Sight). cond (is_present w.debugger || (not w.speaks && is_none w.octets.items)) (length x.sent) w.spoken) seen

pub goes_played : (start : Start) (w one two three : Walk) (more : List ℕ) → (length more == 0) ≡ false → seen_by w.seen ≡ sight_above start (place_of w) → Closes w one → Leaves more one two
    → three.octets.items ≡ two.octets.items ++ more → three.spoken ≡ two.spoken → three.speaks ≡ two.speaks → three.debugger ≡ two.debugger → three.holds ≡ two.holds
    → Goes (plays start (place_of w) (Some more)) (played start (place_of w) (Some more)) w three
goes_played start w one two three [] some seen f l octets spoken speaks debugger found = cc
goes_played start w one two three (o ∷ os) some seen f l octets spoken speaks debugger found = record {
  found = found ∙ l.found ∙ f.found ∙ ap (λ (b : Bool). w.holds && b) (closes_is start w seen);
  place = λ e.
      let above = octets ∙ ap (λ v. v.items ++ o ∷ os) (l.octets ∙ f.octets) in
      let so = spoken ∙ left_spoken start w one two (o ∷ os) seen f.seen f.debugger (f.spoken (closes_is start w seen ∙ e)) l in
      rw (above, so, speaks ∙ l.speaks ∙ f.speaks, debugger ∙ l.debugger ∙ ap (left_with (o ∷ os)) f.debugger) refl;
}

-- the case ends
pub closed : (start : Start) (w w' : Walk) → seen_by w.seen ≡ sight_above start (place_of w) → Closes w w' → w'.holds ≡ (w.holds && closes start (place_of w))
closed start w w' seen f = f.found ∙ ap (λ (b : Bool). w.holds && b) (closes_is start w seen)

-- a line of the state was looked for
pub goes_shown : (start : Start) (w w' : Walk) (c : Connection) (text : List ℕ) → Walks start w c → Finds (shows (text_by w.debugger (show (view c.state))) text) w w'
    → Passes start (line.Shown text) w w'
unfolding trace
goes_shown start w w' c text is f =
    subst (λ (s : State). Goes (shows (text_by w.debugger (show (view s))) text) (place_of w) w w') (sym is.state) (goes_found _ w w' f)

-- a cause was looked for, and a reason
pub goes_cause : (start : Start) (w w' : Walk) (text : List ℕ) → seen_by w.seen ≡ sight_above start (place_of w) → Finds (errs (sight_here w) text) w w'
    → Passes start (line.Cause text) w w'
goes_cause start w w' text seen f = subst (λ (s : Sight). Goes (errs s text) (place_of w) w w') (here_is start w seen) (goes_found _ w w' f)

pub goes_reason : (start : Start) (w w' : Walk) (text : List ℕ) → seen_by w.seen ≡ sight_above start (place_of w) → Finds (ignores (sight_here w) text) w w'
    → Passes start (line.Reason text) w w'
goes_reason start w w' text seen f = subst (λ (s : Sight). Goes (ignores s text) (place_of w) w w') (here_is start w seen) (goes_found _ w w' f)

-- a line of `explain` was looked for
pub goes_explained : (start : Start) (w w' : Walk) (texts : List (List ℕ)) (text : List ℕ) → start.texts ≡ texts → seen_by w.seen ≡ sight_above start (place_of w)
    → Finds (explains (text_before texts (sight_here w).items) text) w w' → Passes start (line.Explained text) w w'
goes_explained start w w' texts text are seen f =
    let items : (sight_here w).items ≡ (sight_at start (place_of w)).items = ap (λ (x : Sight). x.items) (here_is start w seen) in
    subst (λ (t : List ℕ). Goes (explains t text) (place_of w) w w')
    (ap₂ (λ (ts : List (List ℕ)) (n : ℕ). text_before ts n) (sym are) items) (goes_found _ w w' f)

-- before the first line
pub begun : (start : Start) (w : Walk) (c : Connection) → w.octets.items ≡ [] → w.at ≡ 0 → seen_by w.seen ≡ no_item start.sent → c ≡ going start.state [] → Walks start w c
unfolding sight trace parse_all
begun start w c octets at seen is = record {
  within = let none : w.seen.items ≡ 0 = ap (λ (x : Sight). x.items) seen in (omega (arith, at, none), omega (arith, at));
  ready = rw is refl;
  state = rw (octets, is) refl;
  rest = rw (octets, at) refl;
  seen = seen ∙ ap (λ (o : List ℕ). sight start.state start.sent o) (sym octets);
}

said_lent : (xs : List (Bor (List ℕ))) → map (λ l. line.line_said l.now) xs ≡ map line.line_said (map (λ l. l.now) xs)
said_lent [] = refl
said_lent (x ∷ xs) = ap (λ (ls : List line.CaseLine). line.line_said x.now ∷ ls) (said_lent xs)

-- after the last line
pub all_held : (start : Start) (w w' : Walk) (lines : List (Bor (List ℕ))) → w.holds ≡ true → w.octets.items ≡ [] → w.spoken ≡ 0 → w.speaks ≡ false → w.debugger ≡ Absent
    → w'.holds ≡ (w.holds && all_hold start (place_of w) (map (λ l. line.line_said l.now) lines))
    → w'.holds ≡ all_hold start first_place (map line.line_said (map (λ l. l.now) lines))
all_held start w w' lines held octets spoken speaks debugger is =
    is ∙ rw (held, octets, spoken, speaks, debugger) (ap (λ (ls : List line.CaseLine). all_hold start first_place ls) (said_lent lines))
