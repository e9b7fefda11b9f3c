use Rattle.std.proofs.Common.{◌∙◌, ap, sym}
use Rattle.h2_fields.specs.Rests.{RestChange}
use Rattle.h2_conn.proofs.TentativeLaws.{grows-not, is-before, same-block}
use Rattle.h2_conn.proofs.field_block.decoding.Decoding.unchanged.Goals as goal

pub returns-clause-before : goal.returns-clause-before
returns-clause-before g c =
    let inside = c.self.inside in
    let same = ap (λ (r : RestChange). r.before) c.unchanged-rest.ensures ∙ c.replace.ensures.value in
    is-before inside.purpose inside.collected inside.collected inside.rest c.unchanged-rest.result.before c.savepoint-savepoint.result c.args.self.now c.self.view_is c.savepoint-savepoint.ensures same (grows-not inside.collected)

pub returns-clause-after : goal.returns-clause-after
returns-clause-after g c =
    let inside = c.self.inside in
    let same = ap (λ (r : RestChange). r.after) c.unchanged-rest.ensures ∙ c.replace.ensures.value in
    same-block inside.purpose inside.collected inside.rest c.unchanged-rest.result.after c.args.self.now c.self.view_is same

pub returns-clause-untouched : goal.returns-clause-untouched
returns-clause-untouched g c =
    (c.savepoint-savepoint.ensures, ap (λ (r : RestChange). r.before) c.unchanged-rest.ensures ∙ sym (ap (λ (r : RestChange). r.all) c.unchanged-rest.ensures))
