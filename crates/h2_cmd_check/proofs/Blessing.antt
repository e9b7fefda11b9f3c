-- A walk that writes a case anew, in the words of the definitions.
use Rattle.std.proofs.Common.{◌≡◌, ◌∙◌, ◌++◌, ◌==◌, ℕ, nat_lt, Bool, true, false, cond, List, [], ◌∷◌, Option, Some, length, length-drop, refl, sym, ap, ap₂, subst, append_assoc, arith}
use Rattle.std.proofs.lemmas.List.{append-nil}
use Rattle.h2_conn.specs.Connection.{Connection}
use Rattle.h2_spec.specs.declared.causes.Cause.{Cause}
use Rattle.h2_cmd_check.specs.Blessed.{blessed_at, error_text, filled, filled_line, filled_place, filled_place_script, filled_script, held_place, held_text, kept_line, left_place, left_text, more_say, outcome_text, renewed, renewed_cause, renewed_sent, renewed_sent_place, stays_after, taken_at, told_place, written_line, written_place}
use Rattle.h2_cmd_check.specs.Cases.{Place, Start, first_place, played, sight_above, sight_at, unspoken}
use Rattle.h2_cmd_check.specs.Commands.{left_with}
use Rattle.h2_cmd_check.specs.Frames.{sends, spoken_by}
use Rattle.h2_cmd_cases.specs.Frames.{told_lines}
use Rattle.h2_cmd_cases.specs.Lines.{line_said}
use Rattle.h2_cmd_check.specs.ItemsTaken.{Sight, seen_by}
use Rattle.h2_cmd_check.specs.Tap.{Gains}
use Rattle.h2_cmd_check.specs.Walks.{Keeps, Leaves, Lets, Tells, Walks, Writes, left_by, place_of, sight_here}
use Rattle.h2_cmd_check.specs.declared.case_debugger.CaseDebugger.{CaseDebugger}
use Rattle.h2_cmd_check.specs.declared.case_debugger.CaseDebugger.TheVariants.{Absent}
use Rattle.h2_cmd_check.specs.declared.growing.Growing.{Growing}
use Rattle.h2_cmd_check.specs.declared.walk.Walk.{Walk}
use Rattle.h2_cmd_check.proofs.Gains.{gains_both}
use Rattle.h2_cmd_check.proofs.Going.{here_is, left_is, left_spoken, sent_is}

abbrev place : List ℕ → ℕ → Bool → CaseDebugger → Place
place above spoken speaks debugging = record { above = above; spoken = spoken; speaks = speaks; debugging = debugging }

-- ---- octets that come

pub let_played : (start : Start) (w one two three : Walk) (more : List ℕ) → (length more == 0) ≡ false → seen_by w.seen ≡ sight_above start (place_of w) → Lets w one → Leaves more one two
    → three.octets.items ≡ two.octets.items ++ more → three.spoken ≡ two.spoken → three.speaks ≡ two.speaks → three.debugger ≡ two.debugger → place_of three ≡ played start (place_of w) (Some more)
let_played start w one two three [] some seen f l octets spoken speaks debugger = cc
let_played start w one two three (o ∷ os) some seen f l octets spoken speaks debugger =
    let above = octets ∙ ap (λ v. v.items ++ o ∷ os) (l.octets ∙ f.octets) in
    let so = spoken ∙ left_spoken start w one two (o ∷ os) seen f.seen f.debugger f.spoken l in
    rw (above, so, speaks ∙ l.speaks ∙ f.speaks, debugger ∙ l.debugger ∙ ap (left_with (o ∷ os)) f.debugger) refl

-- ---- a line that says what is sent

joined : (b : Bool) (a : List ℕ) (s p : ℕ) (q : Bool) (d : CaseDebugger) → place a (cond b s p) (cond b true q) d ≡ cond b (place a s true d) (place a p q d)
joined true a s p q d = refl
joined false a s p q d = refl

-- the sight stays where the octets and what was seen do
pub seen_same : (start : Start) (w w' : Walk) → w'.octets ≡ w.octets → w'.seen ≡ w.seen → seen_by w.seen ≡ sight_above start (place_of w) → seen_by w'.seen ≡ sight_above start (place_of w')
seen_same start w w' octets seen is = rw (octets, seen) is

-- it stays where it holds
pub held : (start : Start) (w w' : Walk) (text : List ℕ) (g g' : Growing) → seen_by w.seen ≡ sight_above start (place_of w) → Keeps text w w' g g'
    → Writes (held_text text (unspoken start (place_of w))) (held_place start (place_of w) text) w' g g'
held start w w' text g g' seen k =
    let left = left_is start w seen in
    let sent = sent_is start w seen in
    let said : sends text (left_by w) ≡ sends text (unspoken start (place_of w)) = ap (sends text) left in
    let speaks = k.speaks ∙ ap (λ (b : Bool). cond b true w.speaks) said in
    let spoken = k.spoken ∙ ap₂ (λ (b : Bool) (t : List ℕ). cond b (spoken_by text (left_by w) (length t) w.spoken) w.spoken) said sent
    ∙ ap (λ (o : List ℕ). cond (sends text (unspoken start (place_of w))) (spoken_by text o (length (sight_at start (place_of w)).sent) w.spoken) w.spoken) left in
    let there : place_of w' ≡ place w.octets.items (cond (sends text (unspoken start (place_of w))) (spoken_by text (unspoken start (place_of w)) (length (sight_at start (place_of w)).sent) w.spoken) w.spoken)
    (cond (sends text (unspoken start (place_of w))) true w.speaks) w.debugger = rw (k.octets, spoken, speaks, k.debugger) refl in (
      there ∙ joined (sends text (unspoken start (place_of w))) w.octets.items (spoken_by text (unspoken start (place_of w)) (length (sight_at start (place_of w)).sent) w.spoken) w.spoken w.speaks w.debugger,
      subst (λ (t : List ℕ). Gains (held_text text t) g g') left k.text,
    )

-- and all that is left is written
pub ended : (start : Start) (w w' : Walk) (g g' : Growing) → seen_by w.seen ≡ sight_above start (place_of w) → Tells true (left_text w.speaks (left_by w)) w w' g g'
    → Writes (left_text (place_of w).speaks (unspoken start (place_of w))) (left_place start (place_of w)) w' g g'
ended start w w' g g' seen t =
    let spoken = t.spoken ∙ ap (λ (o : List ℕ). length o) (sent_is start w seen) in
    (rw (t.octets, spoken, t.speaks, t.debugger) refl, subst (λ (o : List ℕ). Gains (left_text w.speaks o) g g') (left_is start w seen) t.text)

-- a line after which another one says what is sent
pub renewed_first : (start : Start) (w w' : Walk) (text : List ℕ) (g g' : Growing) → seen_by w.seen ≡ sight_above start (place_of w) → Keeps text w w' g g'
    → Writes (renewed_sent start (place_of w) true text) (renewed_sent_place start (place_of w) true text) w' g g'
renewed_first start w w' text g g' seen k =
    let one = held start w w' text g g' seen k in
    (one.0, subst (λ (t : List ℕ). Gains t g g') (sym (append-nil (held_text text (unspoken start (place_of w))))) one.1)

-- the last one before the next octets
pub renewed_last : (start : Start) (w one two : Walk) (text : List ℕ) (g h k : Growing) → seen_by w.seen ≡ sight_above start (place_of w) → Keeps text w one g h
    → Tells true (left_text one.speaks (left_by one)) one two h k
    → Writes (renewed_sent start (place_of w) false text) (renewed_sent_place start (place_of w) false text) two g k
renewed_last start w one two text g h k seen keeps tells =
    let first = held start w one text g h seen keeps in
    let last = ended start one two h k (seen_same start w one keeps.octets keeps.seen seen) tells in
    subst (λ (p : Place). Writes (held_text text (unspoken start (place_of w)) ++ left_text p.speaks (unspoken start p)) (left_place start p) two g k) first.0
    (last.0, gains_both _ _ g h k first.1 last.1)

-- a command: what was sent is spoken about
pub command_told : (start : Start) (w w' : Walk) (l : List ℕ) (g g' : Growing) → seen_by w.seen ≡ sight_above start (place_of w) → Tells w.speaks (kept_line l) w w' g g'
    → Writes (kept_line l) (told_place start (place_of w)) w' g g'
command_told start w w' l g g' seen t =
    let spoken = t.spoken ∙ ap (λ (o : List ℕ). length o) (sent_is start w seen) in
    (rw (t.octets, spoken, t.speaks, t.debugger) refl, t.text)

-- ---- a line that says why an item is an error

pub cause_renewed : (start : Start) (w : Walk) (l : List ℕ) (g g' : Growing) → seen_by w.seen ≡ sight_above start (place_of w) → Gains (renewed_cause l (sight_here w).first (sight_here w).cause) g g'
    → Gains (renewed_cause l (sight_at start (place_of w)).first (sight_at start (place_of w)).cause) g g'
cause_renewed start w l g g' seen x = subst (λ (s : Sight). Gains (renewed_cause l s.first s.cause) g g') (here_is start w seen) x

-- ---- a line of the script in a case that has no such lines

pub taken_is : (start : Start) (w : Walk) (c : Connection) → Walks start w c → taken_at start (place_of w) ≡ w.at
taken_is start w c is = omega (arith, length-drop w.at w.octets.items, is.within.1, ap (λ (r : List ℕ). length r) is.rest)

outcome_told : (start : Start) (w one two : Walk) (c d : Connection) (g k : Growing) → Walks start w c → Walks start one d
    → Tells one.speaks (told_lines (left_by one) ++ error_text (nat_lt w.at one.at) (sight_here one).cause) one two g k
    → Writes (outcome_text start (place_of w) (place_of one)) (told_place start (place_of one)) two g k
outcome_told start w one two c d g k is so t =
    let spoken = t.spoken ∙ ap (λ (o : List ℕ). length o) (sent_is start one so.seen) in
    let cause : (sight_here one).cause ≡ (sight_at start (place_of one)).cause = ap (λ (s : Sight). s.cause) (here_is start one so.seen) in
    let left = left_is start one so.seen in
    let here = sym (taken_is start w c is) in
    let there = sym (taken_is start one d so) in (
      rw (t.octets, spoken, t.speaks, t.debugger) refl,
      subst (λ (x : List ℕ). Gains x g k)
          (ap (λ (o : List ℕ). told_lines o ++ error_text (nat_lt w.at one.at) (sight_here one).cause) left
          ∙ ap₂ (λ (m n : ℕ). told_lines (unspoken start (place_of one)) ++ error_text (nat_lt m n) (sight_here one).cause) here there
          ∙ ap (λ (x : Option Cause). told_lines (unspoken start (place_of one)) ++ error_text (nat_lt (taken_at start (place_of w)) (taken_at start (place_of one))) x) cause)
          t.text,
    )

pub filled_told : (start : Start) (w one two : Walk) (c d : Connection) (more : List ℕ) (g k : Growing) → (length more == 0) ≡ false → Walks start w c → Walks start one d
    → place_of one ≡ played start (place_of w) (Some more)
    → Tells one.speaks (told_lines (left_by one) ++ error_text (nat_lt w.at one.at) (sight_here one).cause) one two g k
    → Writes (filled_script start (place_of w) (Some more)) (filled_place_script start (place_of w) (Some more)) two g k
filled_told start w one two c d [] g k some is so came t = cc
filled_told start w one two c d (o ∷ os) g k some is so came t =
    subst (λ (p : Place). Writes (outcome_text start (place_of w) p) (told_place start p) two g k) came (outcome_told start w one two c d g k is so t)

-- ---- line after line

pub renewed_on : (start : Start) (w w' : Walk) (stays stays' : Bool) (g g' h : Growing) (l : List ℕ) (ls : List (List ℕ)) (text : List ℕ)
    → Writes (written_line start (place_of w) stays (more_say ls) l (line_said l)) (written_place start (place_of w) stays (more_say ls) (line_said l)) w' g g' → stays' ≡ stays_after stays (line_said l)
    → (g.refused ≡ false → (h.refused ≡ false) × (g.octets.items ++ renewed start (place_of w) stays (l ∷ ls) ≡ text))
    → g'.refused ≡ false → (h.refused ≡ false) × (g'.octets.items ++ renewed start (place_of w') stays' ls ≡ text)
renewed_on start w w' stays stays' g g' h l ls text x after so_far = λ well.
    let one = x.1 well in
    let two = so_far one.0 in
    let said = written_line start (place_of w) stays (more_say ls) l (line_said l) in (
      two.0,
      ap (λ (t : List ℕ). t ++ renewed start (place_of w') stays' ls) one.1 ∙ append_assoc g.octets.items said (renewed start (place_of w') stays' ls)
          ∙ ap₂ (λ (p : Place) (b : Bool). g.octets.items ++ (said ++ renewed start p b ls)) x.0 after ∙ two.1,
    )

pub filled_on : (start : Start) (w w' : Walk) (g g' g'' h : Growing) (l : List ℕ) (ls : List (List ℕ)) (text : List ℕ)
    → Gains (kept_line l) g g' → Writes (filled_line start (place_of w) (line_said l)) (filled_place start (place_of w) (line_said l)) w' g' g''
    → (g.refused ≡ false → (h.refused ≡ false) × (g.octets.items ++ filled start (place_of w) (l ∷ ls) ≡ text))
    → g''.refused ≡ false → (h.refused ≡ false) × (g''.octets.items ++ filled start (place_of w') ls ≡ text)
filled_on start w w' g g' g'' h l ls text line x so_far = λ well.
    let said = filled_line start (place_of w) (line_said l) in
    let one = gains_both (kept_line l) said g g' g'' line x.1 well in
    let two = so_far one.0 in (
      two.0,
      ap (λ (t : List ℕ). t ++ filled start (place_of w') ls) one.1 ∙ append_assoc g.octets.items (kept_line l ++ said) (filled start (place_of w') ls)
          ∙ ap (λ (t : List ℕ). g.octets.items ++ t) (append_assoc (kept_line l) said (filled start (place_of w') ls))
          ∙ ap (λ (p : Place). g.octets.items ++ (kept_line l ++ (said ++ filled start p ls))) x.0 ∙ two.1,
    )

-- ---- a case

pub whole : (start : Start) (w : Walk) (lines : List (List ℕ)) (g g' : Growing) (text : List ℕ) → w.octets.items ≡ [] → w.spoken ≡ 0 → w.speaks ≡ false → w.debugger ≡ Absent → g.octets.items ≡ []
    → Gains (blessed_at start (place_of w) lines) g g' → (g'.refused ≡ false) × (text ≡ g'.octets.items) → text ≡ blessed_at start first_place lines
whole start w lines g g' text octets spoken speaks debugger empty x is = is.1 ∙ (x is.0).1 ∙ rw (empty, octets, spoken, speaks, debugger) refl
