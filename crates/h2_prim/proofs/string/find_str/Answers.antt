use Rattle.std.proofs.Common.{◌≡◌, ◌≤◌, length, drop, refl, true, false}
use Rattle.h2_prim.proofs.Strings.{int-within, string_none, string_whole, string_missing, not_le, string_more, string_too_long}
use Rattle.h2_prim.proofs.string.find_str.Goals as goal

pub returns-in_default : goal.returns-in_default
returns-in_default c = string_none c.args.octets.now c.in_default.ensures.cases

pub octets_at-requires : goal.octets_at-requires
octets_at-requires c = int-within 7 c.in-Whole.length c.in-Whole.start c.args.octets.now c.in-Whole.ensures.value

pub returns-in-Some-octets_at : goal.returns-in-Some-octets_at
returns-in-Some-octets_at c =
    let e = c.in-Some-octets_at.ensures in
    string_whole c.in-Some.first.now c.in-Whole.length c.in-Whole.start c.args.octets.now _ c.in-Some-octets_at.inside.now c.in-Some.ensures.cases.0 c.in-Whole.ensures.value (e.enough.0 refl) e.there

pub returns-in-None : goal.returns-in-None
returns-in-None c =
    let none : c.in-Whole.length ≤ length (drop c.in-Whole.start c.args.octets.now) → ⊥ = λ h. let w : false ≡ true = c.in-None.ensures.enough.1 h in cc in
    string_missing c.in-Some.first.now c.in-Whole.length c.in-Whole.start c.args.octets.now _ c.in-Some.ensures.cases.0 c.in-Whole.ensures.value (not_le c.in-Whole.length (length (drop c.in-Whole.start c.args.octets.now)) none)

pub returns-in-More : goal.returns-in-More
returns-in-More c = string_more c.in-Some.first.now c.args.octets.now _ c.in-Some.ensures.cases.0 c.in-More.ensures.value

pub returns-in-TooLong : goal.returns-in-TooLong
returns-in-TooLong c = string_too_long c.in-Some.first.now c.args.octets.now _ c.in-Some.ensures.cases.0 c.in-TooLong.ensures.value
