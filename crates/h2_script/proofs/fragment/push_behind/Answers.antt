use Rattle.std.proofs.Common.{◌≡◌, ◌∙◌, ◌<◌, ◌++◌, List, ℕ, ap, length, arith, string_bytes}
use Rattle.h2_hpack_instruction.specs.Instructions.{instr_of}
use Rattle.h2_spec.specs.Texts.Written.{instruction_text}
use Rattle.h2_script.proofs.Fragments.{adds_first, adds_more, adds_on}
use Rattle.h2_script.proofs.fragment.push_behind.Goals.{then-not-is_empty+in_ok-push_str, else-not-is_empty}
use Rattle.h2_script.proofs.fragment.push_behind.Goals as goal

pub returns : goal.returns
returns g c =
    let old = string_bytes c.args.out.now in
    let mid = string_bytes c.if-not-is_empty.out in
    let new = string_bytes c.push_instruction.new.out in
    let i = instr_of c.args.instr.now in
    elim c.if-not-is_empty.branch [
      | then-not-is_empty+in_ok-push_str w ↦
          let some : 0 < length old = grind (arith, c.is_empty.ensures, w.if-not-is_empty.true) in
          adds_on c.push_instruction.result old mid new i (λ e. adds_more old mid new i some (ap string_bytes w.out-is ∙ w.in_ok-push_str.ensures.bytes) e) c.push_instruction.ensures
      | else-not-is_empty w ↦
          let none : length old ≡ 0 = grind (arith, c.is_empty.ensures, w.if-not-is_empty.false) in
          adds_on c.push_instruction.result old mid new i (λ e. adds_first old new i none (e ∙ ap (λ (x : List ℕ). x ++ instruction_text i) (ap string_bytes w.out-is))) c.push_instruction.ensures
    ]
