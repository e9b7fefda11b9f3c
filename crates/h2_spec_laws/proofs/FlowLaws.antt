-- Credit is not lost, and settings keep their ranges.
use Rattle.std.proofs.Common.{◌≡◌, ℕ, ◌+◌, ◌<◌, ◌≤◌, Bool, true, false, cond, Option, Some, None, Result, IfOk, unwrap_or, refl, arith, leb-true, leb-false}
use Rattle.std.proofs.lemmas.Bool.{cond_both, false≢true}
use Rattle.std.specs.Prelude.{nat_le, ◌&&◌, ◌==◌}
use Rattle.h2_spec.specs.declared.causes.Cause.{Cause}
use Rattle.h2_spec.specs.declared.flow.Settings.{Settings}
use Rattle.h2_spec.specs.Settings.{IsAllowed, initial, with_setting}
use Rattle.h2_spec.specs.Window.{given_back, still_owed}

pub given_back-and-still_owed : (threshold owed : ℕ) → unwrap_or (given_back threshold owed) 0 + still_owed threshold owed ≡ owed
given_back-and-still_owed threshold owed = at (nat_le threshold owed)
  where
    at : (t : Bool) → unwrap_or (cond t (Some owed) None) 0 + cond t 0 owed ≡ owed
    at true = omega arith
    at false = omega arith

pub still_owed-below : (threshold owed : ℕ) → 0 < threshold → still_owed threshold owed < threshold
still_owed-below threshold owed h = cond_both (nat_le threshold owed) 0 owed (λ n. n < threshold) (λ e. h) (λ e. leb-false threshold owed e)

pub allowed-initial : IsAllowed initial
allowed-initial = record { push = omega arith; window = omega arith; least_frame = omega arith; most_frame = omega arith }

-- with this value of the one field that has a range
with-push : (s : Settings) (v : ℕ) → IsAllowed s → v ≤ 1 → IsAllowed (record s { push = v })
with-push s v h fits = record { push = fits; window = h.window; least_frame = h.least_frame; most_frame = h.most_frame }

with-window : (s : Settings) (v : ℕ) → IsAllowed s → v ≤ 2147483647 → IsAllowed (record s { window = v })
with-window s v h fits = record { push = h.push; window = fits; least_frame = h.least_frame; most_frame = h.most_frame }

with-frame : (s : Settings) (v : ℕ) → IsAllowed s → 16384 ≤ v → v ≤ 16777215 → IsAllowed (record s { frame = v })
with-frame s v h least most = record { push = h.push; window = h.window; least_frame = least; most_frame = most }

-- with a value of a field that has none
others : (s : Settings) (table : ℕ) (streams list : Option ℕ) (size_update_pending : Bool) → IsAllowed s → IsAllowed (record s { header_table = table; streams = streams; list = list; size_update_pending = size_update_pending })
others s table streams list size_update_pending h = record { push = h.push; window = h.window; least_frame = h.least_frame; most_frame = h.most_frame }

abbrev Allows : Result Settings Cause → Type 0
Allows r = IfOk r IsAllowed

both : (a b : Bool) → (a && b) ≡ true → (a ≡ true) × (b ≡ true)
both true b e = (refl, e)
both false b e = absurd (false≢true e)

pub allowed-with_setting : (s : Settings) (id v : ℕ) → IsAllowed s → IfOk (with_setting s id v) IsAllowed
unfolding with_setting
allowed-with_setting s id v h =
    cond_both (id == 1) _ _ Allows (λ e. others s v s.streams s.list true h)
    (λ e. cond_both (id == 2) _ _ Allows (λ g. cond_both (nat_le v 1) _ _ Allows (λ t. with-push s v h (leb-true v 1 t)) (λ t. tt))
    (λ e. cond_both (id == 3) _ _ Allows (λ g. others s s.header_table (Some v) s.list s.size_update_pending h)
    (λ e. cond_both (id == 4) _ _ Allows (λ g. cond_both (nat_le v 2147483647) _ _ Allows (λ t. with-window s v h (leb-true v 2147483647 t)) (λ t. tt))
    (λ e. cond_both (id == 5) _ _ Allows (λ g. cond_both (nat_le 16384 v && nat_le v 16777215) _ _ Allows (λ t. let parts = both (nat_le 16384 v) (nat_le v 16777215) t in with-frame s v h (leb-true 16384 v parts.0) (leb-true v 16777215 parts.1)) (λ t. tt))
    (λ e. cond_both (id == 6) _ _ Allows (λ g. others s s.header_table s.streams (Some v) s.size_update_pending h)
    (λ e. h))))))
