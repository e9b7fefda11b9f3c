-- Codes by their names.
use Rattle.std.proofs.Common.{◌≡◌, ◌∙◌, ℕ, suc, ◌+◌, ◌-◌, ◌<◌, ◌≤◌, Bool, true, false, List, Some, None, Option, ap, arith, cond}
use Rattle.h2_cmd_inject.specs.ScriptLines.{code_upto, has_name}

code-step : (code : ℕ) (name : List ℕ) → code < 14
    → code_upto (14 - code) code name ≡ cond (has_name code name) (Some code) (code_upto (14 - (code + 1)) (code + 1) name)
code-step code name less =
    let count : 14 - code ≡ suc (14 - (code + 1)) = omega arith in
    ap (λ (k : ℕ). code_upto k code name) count

pub code-found : (code : ℕ) (name : List ℕ) → code < 14 → has_name code name ≡ true → code_upto (14 - code) code name ≡ Some code
code-found code name less found =
    code-step code name less ∙ ap (λ (b : Bool). cond b (Some code) (code_upto (14 - (code + 1)) (code + 1) name)) found

pub code-other : (code : ℕ) (name : List ℕ) → code < 14 → has_name code name ≡ false
    → code_upto (14 - code) code name ≡ code_upto (14 - (code + 1)) (code + 1) name
code-other code name less other =
    code-step code name less ∙ ap (λ (b : Bool). cond b (Some code) (code_upto (14 - (code + 1)) (code + 1) name)) other

pub code-none : (code : ℕ) (name : List ℕ) → 14 ≤ code → code_upto (14 - code) code name ≡ None
code-none code name end =
    let count : 14 - code ≡ 0 = omega (arith, end) in
    ap (λ (k : ℕ). code_upto k code name) count
