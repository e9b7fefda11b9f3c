use Rattle.std.proofs.Common.{◌≡◌, Some}
use Rattle.h2_hpack_instruction.specs.Instructions.{instr_of}
use Rattle.h2_spec.specs.Texts.Assemble.{instruction_at}
use Rattle.h2_script.proofs.Instructions.{adds_one}
use Rattle.h2_script.proofs.Long.{long_instruction}
use Rattle.h2_script.proofs.instruction.push_first.Goals as goal

pub push_instr-requires : goal.push_instr-requires
push_instr-requires g c =
    let read : Some (instr_of c.in-Some.instr, c.in-Some.behind.now) ≡ instruction_at c.args.text.now = rw c.in-Some.is at c.in_ok-instr.ensures in
    long_instruction c.args.text.now (instr_of c.in-Some.instr) c.in-Some.behind.now read

pub returns-in-Some : goal.returns-in-Some
returns-in-Some g c =
    adds_one c.push_instr.result c.and.result (λ t. t.now) c.in-Some.behind c.args.long.now c.push_instr.new.long c.args.octets.now.items c.push_instr.new.octets.items
    (instr_of c.in-Some.instr) (instruction_at c.args.text.now) c.and.ensures (rw c.in-Some.is at c.in_ok-instr.ensures) c.push_instr.ensures
