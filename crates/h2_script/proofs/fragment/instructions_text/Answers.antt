use Rattle.std.proofs.Common.{◌≡◌, ◌<◌, List, ℕ, arith, ap, length, drop, string_bytes}
use Rattle.std.proofs.lemmas.List.{length-drop}
use Rattle.h2_script.proofs.Fragments.{reaches_end, reaches_first, reaches_next, reaches_none, read_takes}
use Rattle.h2_script.proofs.fragment.instructions_text.Goals as goal

pub loop-rest-init : goal.loop-rest-init
loop-rest-init g c = rw (c.new-text.ensures.bytes, c.new-octets.ensures.items) (reaches_first c.args.payload.now c.requires)

pub returns-in_default : goal.returns-in_default
returns-in_default g c =
    let none = rw c.in_default.is at c.in_ok-used.ensures in
    let some : 0 < length c.loop-rest.rest.now = grind (arith, c.is_empty.ensures, c.loop-rest-test.true) in
    reaches_none c.args.payload.now (string_bytes c.loop-rest.text) c.loop-rest.octets.items c.loop-rest.rest.now c.loop-rest.invariant some none

pub octets_from-rest-requires : goal.octets_from-rest-requires
octets_from-rest-requires g c =
    let first = rw c.in-Some.is at c.in_ok-used.ensures in
    (read_takes c.loop-rest.rest.now first.0 c.in-Some.used first.1).1

shorter : (rest rest' : List ℕ) (used : ℕ) → 0 < used → 0 < length rest → rest' ≡ drop used rest → length rest' < length rest
shorter rest rest' used takes some e = omega (arith, takes, some, ap length e, length-drop used rest)

pub loop-rest-smaller : goal.loop-rest-smaller
loop-rest-smaller g c =
    let first = rw c.in-Some.is at c.in_ok-used.ensures in
    let some : 0 < length c.loop-rest.rest.now = grind (arith, c.is_empty.ensures, c.loop-rest-test.true) in
    shorter c.loop-rest.rest.now c.octets_from-rest.result.now c.in-Some.used (read_takes c.loop-rest.rest.now first.0 c.in-Some.used first.1).0 some c.octets_from-rest.ensures

pub loop-rest-preserved : goal.loop-rest-preserved
loop-rest-preserved g c =
    let first = rw c.in-Some.is at c.in_ok-used.ensures in
    let some : 0 < length c.loop-rest.rest.now = grind (arith, c.is_empty.ensures, c.loop-rest-test.true) in
    reaches_next c.args.payload.now (string_bytes c.loop-rest.text) (string_bytes c.push_first.new.text) c.loop-rest.octets.items c.push_first.new.octets.items c.loop-rest.rest.now c.octets_from-rest.result.now
    first.0 c.in-Some.used c.loop-rest.invariant some first.1 first.2 first.3 first.4 c.octets_from-rest.ensures

pub returns : goal.returns
returns g c =
    let none : length c.loop-rest.rest.now ≡ 0 = grind (arith, c.is_empty.ensures, c.loop-rest-test.false) in
    reaches_end c.loop-rest.text c.if_spelled.result c.args.payload.now c.loop-rest.octets.items c.loop-rest.rest.now c.loop-rest.invariant none
    (rw c.as_slice.ensures.value at c.if_spelled.ensures)
