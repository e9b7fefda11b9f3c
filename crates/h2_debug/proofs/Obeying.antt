-- Moves of a debugger, as the answers to commands.
use Rattle.std.proofs.Common.{◌≡◌, ◌∙◌, ◌+◌, ◌-◌, ◌<◌, ◌==◌, ℕ, zero, suc, Bool, true, false, true≢false, Result, Ok, Err, IfErr, IfOk, OnErr, OnOk, ap, eq-eqb, eqb-true, inl, inr, refl, sym, arith}
use Rattle.std.specs.Prelude.{◌&&◌, nat_lt, min, Option, Some}
use Rattle.h2_spec.specs.declared.special_cases.SpecialCase.{SpecialCase}
use Rattle.std.proofs.lemmas.Bool.{cond_both, lt-ltb, ltb-true, ne_eqb}
use Rattle.h2_spec.specs.Texts.Debug.{stop}
use Rattle.h2_debug.specs.Debugging.{Debugging, moved, moved_counting}
use Rattle.h2_debug.specs.Faults.{end_fault, start_fault}
use Rattle.h2_debug.specs.Cases.{can_be_special, case_at}
use Rattle.h2_debug.specs.Places.{cause_at, end, events, ignored_at}
use Rattle.h2_debug.specs.declared.fault.DebugFault.{DebugFault}
use Rattle.h2_debug.specs.declared.fault.DebugFault.TheVariants.{AtStart, NoMemory}
use Rattle.h2_debug.specs.Commands.{Step, Back, Run, Why}
use Rattle.h2_debug.specs.Replies.{Answer, Obeys, arrived, moved_reply, refused, reply_text, why_reply}

-- a test and what it decides
both : (a b : Bool) → (a && b) ≡ true → (a ≡ true) × (b ≡ true)
both true b e = (refl, e)
both false b e = absurd (true≢false (sym e))

pub stepped : (d after : Debugging) (n : ℕ) (r : Result ℕ DebugFault) → IfOk r (λ p. (p ≡ min (d.position + n) (end d.run)) × (after ≡ moved p d)) → OnOk r (0 < n → d.position < end d.run)
    → IfErr r (λ fault. fault ≡ end_fault (d.position == end d.run)) → OnErr r (0 < n) → OnErr r (after ≡ d) → Obeys d (Some (Step n)) (reply_text after (moved_reply r)) after
stepped d after n (Ok p) ok more fault some same =
    let q = min (d.position + n) (end d.run) in
    inl (cond_both (nat_lt 0 n && d.position == end d.run) (refused 19 d) (arrived q (moved q d)) (λ (a : Answer). (reply_text after (moved_reply (Ok p)) ≡ a.text) × (after ≡ a.after))
    (λ none. let x = both (nat_lt 0 n) (d.position == end d.run) none in absurd (omega (arith, more (ltb-true 0 n x.0), eqb-true d.position (end d.run) x.1)))
    (λ moves. rw (ok.1, ok.0) (refl, refl)))
stepped d after n (Err f) ok more fault some same = by (d.position == end d.run) refl
  where
    by : (b : Bool) → (d.position == end d.run) ≡ b → Obeys d (Some (Step n)) (reply_text after (moved_reply (Err f))) after
    by true e = inl (rw (fault, e, lt-ltb 0 n some) (refl, same))
    by false e = inr (rw (fault, e, lt-ltb 0 n some) (refl, refl, same))

pub backed : (d after : Debugging) (n : ℕ) (r : Result ℕ DebugFault) → IfOk r (λ p. (p ≡ d.position - n) × (after ≡ moved_counting p d)) → OnOk r (0 < n → 0 < d.position)
    → IfErr r (λ fault. fault ≡ start_fault d.position) → OnErr r (0 < n) → OnErr r (after ≡ d) → Obeys d (Some (Back n)) (reply_text after (moved_reply r)) after
backed d after n (Ok p) ok more fault some same =
    let q = d.position - n in
    inl (cond_both (nat_lt 0 n && d.position == 0) (refused 20 d) (arrived q (moved_counting q d)) (λ (a : Answer). (reply_text after (moved_reply (Ok p)) ≡ a.text) × (after ≡ a.after))
    (λ none. let x = both (nat_lt 0 n) (d.position == 0) none in absurd (omega (arith, more (ltb-true 0 n x.0), eqb-true d.position 0 x.1)))
    (λ moves. rw (ok.1, ok.0) (refl, refl)))
backed d after n (Err f) ok more fault some same = by d.position refl
  where
    by : (p : ℕ) → d.position ≡ p → Obeys d (Some (Back n)) (reply_text after (moved_reply (Err f))) after
    by zero e =
        let is : f ≡ AtStart = fault ∙ ap start_fault e in
        let start : (d.position == 0) ≡ true = eq-eqb d.position 0 e in
        inl (rw (is, start, lt-ltb 0 n some) (refl, same))
    by (suc p) e =
        let is : f ≡ NoMemory = fault ∙ ap start_fault e in
        let behind : (d.position == 0) ≡ false = ne_eqb d.position 0 (λ z. omega (arith, z, e)) in
        inr (rw (is, behind, lt-ltb 0 n some) (refl, refl, same))

pub run-on : (d after : Debugging) (r : Result ℕ DebugFault) → IfOk r (λ p. (p ≡ stop d.breaks (events d.run) d.position) × (after ≡ moved p d)) → OnOk r (d.position < end d.run)
    → IfErr r (λ fault. fault ≡ end_fault (d.position == end d.run)) → OnErr r (after ≡ d) → Obeys d (Some Run) (reply_text after (moved_reply r)) after
run-on d after (Ok p) ok more fault same =
    let q = stop d.breaks (events d.run) d.position in
    inl (cond_both (d.position == end d.run) (refused 19 d) (arrived q (moved q d)) (λ (a : Answer). (reply_text after (moved_reply (Ok p)) ≡ a.text) × (after ≡ a.after))
    (λ none. absurd (omega (arith, more, eqb-true d.position (end d.run) none)))
    (λ moves. rw (ok.1, ok.0) (refl, refl)))
run-on d after (Err f) ok more fault same = by (d.position == end d.run) refl
  where
    by : (b : Bool) → (d.position == end d.run) ≡ b → Obeys d (Some Run) (reply_text after (moved_reply (Err f))) after
    by true e = inl (rw (fault, e) (refl, same))
    by false e = inr (rw (fault, e) (refl, refl, same))

pub told : (d after : Debugging) (r : Result (Option SpecialCase) DebugFault) → IfOk r (λ case. case ≡ case_at d.run d.position)
    → OnErr r (can_be_special (cause_at d.run d.position) (ignored_at d.run d.position) ≡ true) → IfErr r (λ fault. fault ≡ NoMemory) → after ≡ d → Obeys d (Some Why) (reply_text after (why_reply r)) after
told d after (Ok case) ok memory fault same = inl (rw (same, ok) (refl, refl))
told d after (Err f) ok memory fault same = inr (rw fault (memory, refl, same))
