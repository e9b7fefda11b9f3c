use Rattle.std.proofs.Common.{◌≡◌, ◌∙◌, ℤ, pos, ◌+ℤ◌, ◌≤ℤ◌, true, false, Result, Ok, Err, IsOk, is_err, arith, refl, rules, sym, true≢false}
use Rattle.h2_spec.specs.Window.{is_above_max}
use Rattle.h2_spec.specs.WindowUpdate.{connection_window}
use Rattle.h2_conn_rules.proofs.window_update.connection_window.Goals as goal

pub returns-then-increment-eq0-clause-rule : goal.returns-then-increment-eq0-clause-rule
unfolding connection_window
returns-then-increment-eq0-clause-rule c = search rules

not-above : (w : ℤ) → w ≤ℤ pos 2147483647 → is_above_max w ≡ false
not-above w h = grind (arith, h)

above : (w : ℤ) → (w ≤ℤ pos 2147483647 → ⊥) → is_above_max w ≡ true
above w h = grind (arith, h)

fails : {A E : Type 0} (r : Result A E) → is_err r ≡ true → IsOk r → ⊥
fails (Ok x) e ok = absurd (true≢false (sym e))
fails (Err x) e ok = absurd (true≢false (sym ok))

pub returns-then-is_err-clause-rule : goal.returns-then-is_err-clause-rule
unfolding connection_window
returns-then-is_err-clause-rule c =
    let over = above (c.args.core.send +ℤ pos c.args.increment) (λ within. fails c.add.result (sym c.is_err.ensures.value ∙ c.if-is_err.true) (c.add.ensures.fits.1 within)) in
    search rules

passes : {A E : Type 0} (r : Result A E) → is_err r ≡ false → IsOk r
passes (Ok x) e = refl
passes (Err x) e = absurd (true≢false e)

pub returns-clause-rule : goal.returns-clause-rule
unfolding connection_window
returns-clause-rule c =
    let fits = not-above (c.args.core.send +ℤ pos c.args.increment) (c.add.ensures.fits.0 (passes c.add.result (sym c.is_err.ensures.value ∙ c.if-is_err.false))) in
    search rules
