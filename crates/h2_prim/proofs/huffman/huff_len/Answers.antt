use Rattle.std.proofs.Common.{arith, ◌≡◌, ◌+◌, ap, sym, ◌∙◌, refl, length, take}
use Rattle.std.proofs.lemmas.List.{take_all}
use Rattle.h2_spec.specs.Hpack.Huffman.{codes}
use Rattle.h2_spec.proofs.SpellingLaws.{length-spell_huffman}
use Rattle.h2_prim.proofs.Writing.{counted}
use Rattle.h2_prim.proofs.huffman.huff_len.Goals as goal

pub loop-octet-init : goal.loop-octet-init
unfolding codes
loop-octet-init c = record { counted = refl; few = omega arith }

pub loop-octet-preserved : goal.loop-octet-preserved
loop-octet-preserved c =
    let l = c.loop-octet in
    let k = c.code_of in
    let more = counted c.args.text.now l.octet-index k.result.1 k.result.0 c.loop-octet-test.true k.ensures.code in
    rw c.from-bits.ensures (record { counted = ap (λ n. n + k.result.1) l.invariant.counted ∙ more; few = omega (arith, k.ensures.bits) })

pub returns : goal.returns
returns c =
    let l = c.loop-octet in
    let all : take l.octet-index c.args.text.now ≡ c.args.text.now = take_all l.octet-index c.args.text.now c.loop-octet-test.false in
    let bits : l.bits ≡ length (codes c.args.text.now) = l.invariant.counted ∙ ap (λ t. length (codes t)) all in
    rw bits (sym (length-spell_huffman c.args.text.now))
