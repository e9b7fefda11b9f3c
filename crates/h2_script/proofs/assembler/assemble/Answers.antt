use Rattle.std.proofs.Common.{◌≡◌, List, ℕ, Result, Ok, Err, subst, rules}
use Rattle.std.specs.Prelude.{IfErr, IfOk}
use Rattle.h2_spec.specs.Texts.Assemble.{assembled}
use Rattle.h2_spec.specs.Texts.Script.{IsReadingOf, Script}
use Rattle.h2_spec.proofs.ReadingLines.{script_read}
use Rattle.h2_script.specs.Readings.{Assembles, NamesBadLine}
use Rattle.h2_script.specs.declared.fault.ScriptFault.{ScriptFault}
use Rattle.h2_script.specs.declared.fault.ScriptFault.TheVariants as script
use Rattle.h2_script.proofs.assembler.assemble.Goals as goal

script_of : {X : Type 0} → (view : X → List ℕ) (text : List ℕ) (r : Result X ScriptFault) → Assembles view r (assembled text) → IfOk r (λ x. Script text (view x))
script_of view text (Ok x) read = subst (IsReadingOf text) read (script_read text)
script_of view text (Err fault) read = tt

bad_line_of : {X : Type 0} → (view : X → List ℕ) (text : List ℕ) (r : Result X ScriptFault) → Assembles view r (assembled text) → IfErr r (λ fault. NamesBadLine text fault)
bad_line_of view text (Ok x) read = tt
bad_line_of view text (Err script.NoMemory) read = tt
bad_line_of view text (Err (script.Syntax line kind)) read = subst (IsReadingOf text) read (script_read text)

pub returns-clause-script : goal.returns-clause-script
unfolding assembled
returns-clause-script g c =
    let same : c.as_bytes.result.now ≡ c.args.text.now = search rules in
    subst (λ (t : List ℕ). IfOk c.assemble_lines.result (λ v. Script t v.items)) same (script_of (λ v. v.items) c.as_bytes.result.now c.assemble_lines.result c.assemble_lines.ensures)

pub returns-clause-bad : goal.returns-clause-bad
unfolding assembled
returns-clause-bad g c =
    let same : c.as_bytes.result.now ≡ c.args.text.now = search rules in
    subst (λ (t : List ℕ). IfErr c.assemble_lines.result (λ fault. NamesBadLine t fault)) same (bad_line_of (λ v. v.items) c.as_bytes.result.now c.assemble_lines.result c.assemble_lines.ensures)
