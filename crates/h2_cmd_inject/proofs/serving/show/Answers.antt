use Rattle.std.proofs.Common.{◌≡◌, ◌∙◌, ◌++◌, ℕ, List, ap, subst}
use Rattle.h2_cmd_inject.specs.Views.{IsNumberedView}
use Rattle.h2_cmd_inject.proofs.serving.show.Goals as goal

pub returns-clause-summary : goal.returns-clause-summary
returns-clause-summary g c =
    let course = c.args.course.now in
    let all : c.as_slice-octets.result.now ≡ course.octets ++ course.inbox = c.as_slice-octets.ensures.value ∙ c.in_ok-extend_from_slice.ensures.items
    ∙ ap (λ (l : List ℕ). l ++ c.rest.result.now) (c.in_ok-octets.ensures.items ∙ c.octets.ensures) ∙ ap (λ (l : List ℕ). course.octets ++ l) c.rest.ensures in
    (c.in_ok-text.text.items, subst (λ (b : List ℕ). IsNumberedView c.args.form c.args.steps.now c.args.number c.args.conn.state b c.in_ok-text.text.items c.in_ok-text.summary) all c.in_ok-text.ensures)
