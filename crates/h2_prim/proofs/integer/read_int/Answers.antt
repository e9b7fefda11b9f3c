use Rattle.std.proofs.Common.{◌≡◌, ◌∙◌, ℕ, ◌+◌, ◌*◌, ◌%◌, ap, arith}
use Rattle.h2_spec.specs.Read.{Whole, More, TooLong}
use Rattle.h2_spec.specs.Hpack.Integer.{scaled}
use Rattle.h2_prim.proofs.integer.read_int.Goals as goal
use Rattle.h2_prim.proofs.Groups.{int_at-low, int_at-full, int_at-none, read-is}

whole : (full value used : ℕ) → Whole (full + value) (used + 1) ≡ scaled full 1 1 (Whole value used)
whole full value used =
    let v : full + value ≡ full + 1 * value = omega arith in
    let u : used + 1 ≡ 1 + used = omega arith in
    λ i. Whole (v i) (u i)

pub returns-in_default-clause-value : goal.returns-in_default-clause-value
returns-in_default-clause-value c = int_at-none c.args.prefix c.args.octets.now c.in_default.ensures.cases

pub returns-then-low-full-clause-value : goal.returns-then-low-full-clause-value
returns-then-low-full-clause-value c =
    int_at-low c.args.prefix c.in-Some.first.now _ c.ones-full.result c.args.octets.now c.in-Some.rest.now
    c.in-Some.ensures.cases.0 c.ones-full.ensures.value (ap (λ x. x % (c.ones-full.result + 1)) c.from.ensures) c.if-low-full.true

pub returns-in-Whole-clause-value : goal.returns-in-Whole-clause-value
returns-in-Whole-clause-value c =
    whole c.ones-full.result c.in-Whole.value c.in-Whole.used ∙
    int_at-full c.args.prefix c.in-Some.first.now _ c.ones-full.result c.args.octets.now c.in-Some.rest.now _
    c.in-Some.ensures.cases.0 c.ones-full.ensures.value (ap (λ x. x % (c.ones-full.result + 1)) c.from.ensures) c.if-low-full.false c.in-Whole.ensures.value

pub returns-in-More-clause-value : goal.returns-in-More-clause-value
returns-in-More-clause-value c =
    int_at-full c.args.prefix c.in-Some.first.now _ c.ones-full.result c.args.octets.now c.in-Some.rest.now More
    c.in-Some.ensures.cases.0 c.ones-full.ensures.value (ap (λ x. x % (c.ones-full.result + 1)) c.from.ensures) c.if-low-full.false c.in-More.ensures.value

pub returns-in-TooLong-clause-value : goal.returns-in-TooLong-clause-value
returns-in-TooLong-clause-value c =
    int_at-full c.args.prefix c.in-Some.first.now _ c.ones-full.result c.args.octets.now c.in-Some.rest.now TooLong
    c.in-Some.ensures.cases.0 c.ones-full.ensures.value (ap (λ x. x % (c.ones-full.result + 1)) c.from.ensures) c.if-low-full.false c.in-TooLong.ensures.value

pub returns-in_default-clause-read : goal.returns-in_default-clause-read
returns-in_default-clause-read c = read-is c.args.prefix c.args.octets.now _ (returns-in_default-clause-value c)

pub returns-then-low-full-clause-read : goal.returns-then-low-full-clause-read
returns-then-low-full-clause-read c = read-is c.args.prefix c.args.octets.now _ (returns-then-low-full-clause-value c)

pub returns-in-Whole-clause-read : goal.returns-in-Whole-clause-read
returns-in-Whole-clause-read c = read-is c.args.prefix c.args.octets.now _ (returns-in-Whole-clause-value c)

pub returns-in-More-clause-read : goal.returns-in-More-clause-read
returns-in-More-clause-read c = read-is c.args.prefix c.args.octets.now _ (returns-in-More-clause-value c)

pub returns-in-TooLong-clause-read : goal.returns-in-TooLong-clause-read
returns-in-TooLong-clause-read c = read-is c.args.prefix c.args.octets.now _ (returns-in-TooLong-clause-value c)
