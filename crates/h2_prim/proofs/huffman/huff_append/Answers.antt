use Rattle.h2_spec.specs.Hpack.Huffman.{huffman_text}
use Rattle.std.proofs.Common.{arith, ◌≡◌, ◌+◌, ◌≤◌, ◌∙◌, ap, take, Some}
use Rattle.h2_prim.proofs.Reading.{refused, accepted, appended, stay}
use Rattle.h2_prim.proofs.huffman.huff_append.Goals as goal

pub returns-then-is_err-clause-eos : goal.returns-then-is_err-clause-eos
returns-then-is_err-clause-eos g c = let s = c.state_after.ensures.read in rw c.unwrap_or.ensures (refused (huffman_text c.args.octets.now) s.0 c.fault_at.result (c.fault_at.ensures c.args.octets.now s.0 s.1)).eos

pub returns-then-is_err-clause-padding : goal.returns-then-is_err-clause-padding
returns-then-is_err-clause-padding g c = let s = c.state_after.ensures.read in rw c.unwrap_or.ensures (refused (huffman_text c.args.octets.now) s.0 c.fault_at.result (c.fault_at.ensures c.args.octets.now s.0 s.1)).padding

pub returns-in-None-clause-text : goal.returns-in-None-clause-text
returns-in-None-clause-text g c =
    let text = take c.decode-len.result.0 c.decode-len.new.text in
    let printed = c.in-None.ensures c.args.octets.now text c.decode-len.ensures.read in
    let front : c.split_at_mut.result.0.now ≡ c.args.out.now.items =
    c.split_at_mut.ensures.front ∙ ap (take c.len-before.result) c.as_mut_slice.ensures.value ∙ stay _ c.len-before.result c.saturating_add-end.result c.args.out.now.items _ c.resize.new.self.items c.resize.ensures.items (c.len-before.ensures ∙ c.args.out.now.ok.0) (omega arith) in
    let within : c.len-before.result + c.decode-len.result.0 ≤ c.resize.new.self.len = omega (arith, c.decode-len.auto.text, c.as_mut_slice.ensures.len, c.decode-len.ensures.small.0, c.split_at_mut.ensures.back_len) in
    (text, printed, c.truncate.ensures.items ∙ appended c.len-before.result c.decode-len.result.0 c.resize.new.self.len c.split_at_mut.result.0.now c.decode-len.new.text _ c.args.out.now.items front (c.len-before.ensures ∙ c.args.out.now.ok.0) c.decode-len.ensures.small.0 within)

pub returns-in-None-clause-eos : goal.returns-in-None-clause-eos
returns-in-None-clause-eos g c =
    let text = take c.decode-len.result.0 c.decode-len.new.text in
    let printed = c.in-None.ensures c.args.octets.now text c.decode-len.ensures.read in
    (accepted (huffman_text c.args.octets.now) text tt printed).0

pub returns-in-None-clause-padding : goal.returns-in-None-clause-padding
returns-in-None-clause-padding g c =
    let text = take c.decode-len.result.0 c.decode-len.new.text in
    let printed = c.in-None.ensures c.args.octets.now text c.decode-len.ensures.read in
    (accepted (huffman_text c.args.octets.now) text tt printed).1

pub returns-in-Some-clause-eos : goal.returns-in-Some-clause-eos
returns-in-Some-clause-eos g c =
    let text = take c.decode-len.result.0 c.decode-len.new.text in
    let printed = c.in-Some.ensures c.args.octets.now text c.decode-len.ensures.read in
    (refused (huffman_text c.args.octets.now) text (Some c.in-Some.fault) printed).eos

pub returns-in-Some-clause-padding : goal.returns-in-Some-clause-padding
returns-in-Some-clause-padding g c =
    let text = take c.decode-len.result.0 c.decode-len.new.text in
    let printed = c.in-Some.ensures c.args.octets.now text c.decode-len.ensures.read in
    (refused (huffman_text c.args.octets.now) text (Some c.in-Some.fault) printed).padding
