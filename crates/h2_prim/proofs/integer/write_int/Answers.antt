use Rattle.std.proofs.Common.{arith, ap, sym, ◌∙◌, ◌++◌, ◌≤◌, ◌-◌, ◌^◌, ◌≡◌, ◌+◌, ◌∷◌, [], append_assoc}
use Rattle.h2_spec.specs.Hpack.Integer.{groups_of, spell_int}
use Rattle.h2_prim.proofs.Groups.{write_fits, spell-short, spell-long}
use Rattle.h2_prim.proofs.integer.write_int.Goals as goal

pub overflow_add-high : goal.overflow_add-high
overflow_add-high g c =
    let low : c.from-value.result ≤ 2 ^ c.args.prefix - 1 = omega arith in
    let fits = write_fits c.args.prefix c.args.high c.from-value.result c.requires.prefix.0 c.requires.prefix.1 c.requires.high (omega arith) low in
    omega arith

pub returns-then-value-full-clause-ok : goal.returns-then-value-full-clause-ok
returns-then-value-full-clause-ok g c =
    let out = c.args.out.now.items in
    let spelled = spell-short c.args.prefix c.args.high c.from-value.result c.ones-full.result c.ones-full.ensures.value c.if-value-full.true in
    c.in_ok-push.ensures.items ∙ ap (λ x. out ++ x) (sym spelled) ∙ ap (λ v. out ++ spell_int c.args.prefix c.args.high v) c.from-value.ensures

pub overflow_add-high-2 : goal.overflow_add-high-2
overflow_add-high-2 g c =
    let low : c.ones-full.result ≤ 2 ^ c.args.prefix - 1 = omega arith in
    let fits = write_fits c.args.prefix c.args.high c.ones-full.result c.requires.prefix.0 c.requires.prefix.1 c.requires.high (omega arith) low in
    omega arith

pub returns-clause-ok : goal.returns-clause-ok
returns-clause-ok g c =
    let out = c.args.out.now.items in
    let full = c.ones-full.result in
    let v = c.from-value.result in
    let groups = groups_of 5 (v - full) in
    let spelled = spell-long c.args.prefix c.args.high v full c.ones-full.ensures.value c.if-value-full.false in
    let first : c.push_reserved.new.self.items ≡ out ++ (c.args.high + full) ∷ [] = c.push_reserved.ensures.items ∙ ap (λ x. x ++ (c.args.high + full) ∷ []) c.in_ok-reserve.ensures.items in
    c.write_groups.ensures ∙ ap (λ x. x ++ groups) first ∙ append_assoc out ((c.args.high + full) ∷ []) groups ∙ ap (λ x. out ++ x) (sym spelled)
    ∙ ap (λ n. out ++ spell_int c.args.prefix c.args.high n) c.from-value.ensures
