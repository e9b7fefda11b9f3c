use Rattle.std.proofs.Common.{arith, refl, ◌≡◌, ◌+◌, ◌-◌, ◌*◌, ◌/◌, length, take, get_or, subst}
use Rattle.std.proofs.lemmas.List.{take_all}
use Rattle.h2_spec.specs.Hpack.Huffman.{bits}
use Rattle.h2_prim.specs.States.{Represents}
use Rattle.h2_prim.proofs.Reading.{starts, octet_more, length-bits-take}
use Rattle.h2_prim.proofs.huffman.decode.Goals as goal

pub loop-pair-init : goal.loop-pair-init
loop-pair-init c = record { read = starts; within = omega arith; row = (refl, omega arith) }

pub take_octet-first-requires-clause-enough : goal.take_octet-first-requires-clause-enough
take_octet-first-requires-clause-enough c =
    let l = c.loop-pair in
    let os = c.args.octets.now in
    (bits (take (2 * l.pair) os), l.invariant.read, omega (arith, length-bits-take os (2 * l.pair) (omega arith)))

pub take_octet-second-requires-clause-enough : goal.take_octet-second-requires-clause-enough
take_octet-second-requires-clause-enough c =
    let l = c.loop-pair in
    let os = c.args.octets.now in
    let first = c.take_octet-first in
    let read = octet_more os (take first.result.0 first.new.text) (2 * l.pair) (get_or os (2 * l.pair) 0) (first.result.1 / 16) (omega arith) refl (first.ensures.read (bits (take (2 * l.pair) os)) l.invariant.read) in
    (bits (take (2 * l.pair + 1) os), read, omega (arith, length-bits-take os (2 * l.pair + 1) (omega arith)))

pub loop-pair-preserved : goal.loop-pair-preserved
loop-pair-preserved c =
    let l = c.loop-pair in
    let os = c.args.octets.now in
    let first = c.take_octet-first in
    let second = c.take_octet-second in
    let i = 2 * l.pair in
    let one = octet_more os (take first.result.0 first.new.text) i (get_or os i 0) (first.result.1 / 16) (omega arith) refl (first.ensures.read (bits (take i os)) l.invariant.read) in
    let text = take second.result.0 second.new.text in
    let two = octet_more os text (i + 1) (get_or os (i + 1) 0) (second.result.1 / 16) (omega arith) refl (second.ensures.read (bits (take (i + 1) os)) one) in
    let next : i + 1 + 1 ≡ 2 * (l.pair + 1) = omega arith in
    record { read = subst (λ n. Represents (bits (take n os)) text (second.result.1 / 16)) next two; within = second.ensures.within; row = second.ensures.row }

pub take_octet-last-requires-clause-enough : goal.take_octet-last-requires-clause-enough
take_octet-last-requires-clause-enough c =
    let l = c.loop-pair in
    let os = c.args.octets.now in
    (bits (take (2 * l.pair) os), l.invariant.read, omega (arith, length-bits-take os (2 * l.pair) (omega arith)))

pub returns-then-octets-eq0-clause-read : goal.returns-then-octets-eq0-clause-read
returns-then-octets-eq0-clause-read c =
    let l = c.loop-pair in
    let os = c.args.octets.now in
    let all : take (2 * l.pair) os ≡ os = take_all (2 * l.pair) os (omega arith) in
    subst (λ o. Represents (bits o) (take l.len l.text) (l.row / 16)) all l.invariant.read

pub returns-clause-read : goal.returns-clause-read
returns-clause-read c =
    let l = c.loop-pair in
    let os = c.args.octets.now in
    let last = c.take_octet-last in
    let text = take last.result.0 last.new.text in
    let i = length os - 1 in
    let before : 2 * l.pair ≡ i = omega arith in
    let read = last.ensures.read (bits (take i os)) (subst (λ n. Represents (bits (take n os)) (take l.len l.text) (l.row / 16)) before l.invariant.read) in
    let more = octet_more os text i (get_or os i 0) (last.result.1 / 16) (omega arith) refl read in
    let all : take (i + 1) os ≡ os = take_all (i + 1) os (omega arith) in
    subst (λ o. Represents (bits o) text (last.result.1 / 16)) all more
