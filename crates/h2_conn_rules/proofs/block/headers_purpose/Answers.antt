use Rattle.std.proofs.Common.{sym, ◌∙◌, rules}
use Rattle.h2_conn_rules.proofs.SoundLaws.{idle-above}
use Rattle.h2_conn_rules.proofs.block.headers_purpose.Goals as goal

pub returns-in-Idle-clause-known : goal.returns-in-Idle-clause-known
returns-in-Idle-clause-known c = λ book f r all is.
    let odd = c.if-id-eq1.true in
    (idle-above book f r.last c.args.id r.streams all (sym is ∙ c.in-Idle.is) odd, odd)

pub returns-in-Ended-clause-rule : goal.returns-in-Ended-clause-rule
returns-in-Ended-clause-rule c = search rules

pub returns-in-HalfRemote-clause-rule : goal.returns-in-HalfRemote-clause-rule
returns-in-HalfRemote-clause-rule c = search rules
