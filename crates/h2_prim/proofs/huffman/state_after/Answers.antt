use Rattle.std.proofs.Common.{arith, refl, ◌++◌, ◌/◌, ◌%◌, [], take, get_or}
use Rattle.h2_spec.specs.Hpack.HuffmanCode.{bits_of}
use Rattle.h2_spec.specs.Hpack.Huffman.{bits}
use Rattle.h2_prim.specs.States.{emitted}
use Rattle.h2_prim.proofs.Reading.{starts, stepped, halves, octet_more}
use Rattle.h2_prim.proofs.huffman.state_after.Goals as goal

pub loop-octet-init : goal.loop-octet-init
loop-octet-init c = record { read = ([], starts); row = (refl, omega arith) }

pub loop-octet-preserved : goal.loop-octet-preserved
loop-octet-preserved c =
    let l = c.loop-octet in
    let os = c.args.octets.now in
    let i = l.octet-index in
    let text = l.invariant.read.0 in
    let half = c.move_at-row in
    let whole = c.move_at-row-in-loop-octet in
    let octet = get_or os i 0 in
    let high = bits_of 4 (octet / 16) in
    let first = stepped (bits (take i os)) high text (l.row / 16) half.result.1 (half.result.0 / 16) l.invariant.read.1 half.ensures.leads in
    let both = stepped (bits (take i os) ++ high) (bits_of 4 (octet % 16)) (text ++ emitted half.result.1) (half.result.0 / 16) whole.result.1 (whole.result.0 / 16) first whole.ensures.leads in
    let text' = (text ++ emitted half.result.1) ++ emitted whole.result.1 in
    record { read = (text', octet_more os text' i octet (whole.result.0 / 16) c.loop-octet-test.true refl (halves (bits (take i os)) octet text' (whole.result.0 / 16) both)); row = whole.ensures.row }
