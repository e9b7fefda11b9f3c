use Rattle.std.proofs.Common.{◌∙◌, ap, length}
use Rattle.h2_spec.specs.Requests.Answer.{Answer, picked}
use Rattle.h2_spec.specs.State.{State}
use Rattle.h2_conn.proofs.state.State.body_length.Goals as goal

pub returns : goal.returns
returns g c =
    ap (λ (a : Answer). length a.body) c.answer.ensures
    ∙ ap (λ (s : State). length (picked s.book c.args.stream.now.pick).body) c.self.view_is
