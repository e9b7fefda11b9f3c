use Rattle.std.proofs.Common.{arith, ◌≡◌, ◌+◌, ◌/◌, ◌++◌, length, take, length-append}
use Rattle.h2_spec.specs.Hpack.HuffmanCode.{bits_of}
use Rattle.h2_spec.proofs.BitLaws.{length-bits_of}
use Rattle.h2_prim.proofs.Reading.{halves, has_enough}
use Rattle.h2_prim.proofs.huffman.take_octet.Goals as goal

pub step-half-requires-clause-enough : goal.step-half-requires-clause-enough
step-half-requires-clause-enough c =
    let enough = c.requires.enough in
    has_enough enough.0 c.args.text.now c.args.len (c.args.row / 16) enough.1 c.requires.within (omega (arith, enough.2))

pub step-requires-clause-enough : goal.step-requires-clause-enough
step-requires-clause-enough c =
    let enough = c.requires.enough in
    let half = c.step-half in
    let high = bits_of 4 (c.args.octet / 16) in
    let more : length (enough.0 ++ high) ≡ length enough.0 + 4 = omega (arith, length-append enough.0 high, length-bits_of 4 (c.args.octet / 16)) in
    has_enough (enough.0 ++ high) half.new.text half.result.0 (half.result.1 / 16) (half.ensures.read enough.0 enough.1) half.ensures.within (omega (arith, more, enough.2))

pub returns-clause-read : goal.returns-clause-read
returns-clause-read c = λ bs at.
    let half = c.step-half in
    let whole = c.step in
    halves bs c.args.octet (take whole.result.0 whole.new.text) (whole.result.1 / 16) (whole.ensures.read (bs ++ bits_of 4 (c.args.octet / 16)) (half.ensures.read bs at))
