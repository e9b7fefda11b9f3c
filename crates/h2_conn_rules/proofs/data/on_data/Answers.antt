use Rattle.std.proofs.Common.{◌≡◌, true, ap, rules}
use Rattle.h2_spec.specs.Stream.{is_live}
use Rattle.h2_spec.specs.Effect.{on_data}
use Rattle.h2_conn_rules.proofs.data.on_data.Goals as goal

pub returns-in-HalfRemote-clause-sound : goal.returns-in-HalfRemote-clause-sound
returns-in-HalfRemote-clause-sound c = λ book r same has found last.
    let live : is_live c.args.stream.kind ≡ true = ap is_live c.in-HalfRemote.is in
    c.data_refused.ensures.sound book r found live last

pub returns-in-Idle-clause-rule : goal.returns-in-Idle-clause-rule
unfolding on_data
returns-in-Idle-clause-rule c = search rules

pub returns-in-WeReset-clause-rule : goal.returns-in-WeReset-clause-rule
unfolding on_data
returns-in-WeReset-clause-rule c = search rules

pub returns-in-HalfRemote-clause-rule : goal.returns-in-HalfRemote-clause-rule
unfolding on_data
returns-in-HalfRemote-clause-rule c = search rules
