use Rattle.std.proofs.Common.{string_bytes}
use Rattle.h2_hpack_instruction.specs.Instructions.{instr_of}
use Rattle.h2_spec.specs.Hpack.Instruction.{instruction_at}
use Rattle.h2_script.proofs.Fragments.{read_writable, says_first}
use Rattle.h2_script.proofs.fragment.push_first.Goals as goal

pub push_said-requires : goal.push_said-requires
push_said-requires g c =
    let said = rw c.in-Some.is at c.in_ok-instr.ensures in
    read_writable c.args.rest.now (instr_of c.in-Some.instr) c.in-Some.used said.0 c.requires said.1

pub returns-in-Some : goal.returns-in-Some
returns-in-Some g c =
    let said = rw c.in-Some.is at c.in_ok-instr.ensures in
    says_first c.push_said.result c.and.result (string_bytes c.args.text.now) (string_bytes c.push_said.new.text) c.args.octets.now.items c.push_said.new.octets.items
    (instr_of c.in-Some.instr) c.in-Some.used (instruction_at c.args.rest.now) c.and.ensures said.0 said.1 c.push_said.ensures.text c.push_said.ensures.octets
