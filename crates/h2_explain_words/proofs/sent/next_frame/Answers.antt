use Rattle.std.proofs.Common.{rules}
use Rattle.h2_explain_words.proofs.Fronts.{frame-found}
use Rattle.h2_explain_words.proofs.sent.next_frame.Goals as goal

pub returns : goal.returns
returns c =
    let h = c.in_ok-head.head in
    let rest = c.behind_head-rest.result.now in
    rw (c.first_octets-payload.ensures, c.octets_from.ensures) (frame-found c.args.octets.now rest h (search rules) c.behind_head-rest.ensures c.if-rest-length.false)
