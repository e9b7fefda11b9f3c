use Rattle.std.proofs.Common.{◌≡◌, ◌-◌, ◌++◌, length, string_bytes, true}
use Rattle.h2_script.specs.Texts.{said_text}
use Rattle.h2_script.proofs.disassembler.push_all.Given as goal

abbrev pub invariant-loop-turn : goal.invariant-loop-turn
invariant-loop-turn g l =
    string_bytes l.out ++ said_text (length l.octets - l._turn) l.first l.rest ≡ string_bytes l.fn.out ++ said_text (length l.octets) true l.octets
