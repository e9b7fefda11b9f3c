use Rattle.std.proofs.Common.{ap}
use Rattle.h2_spec.specs.declared.streams.Stream.{Stream}
use Rattle.h2_conn.specs.Records.{records}
use Rattle.h2_conn_rules.specs.Sound.{in_force}
use Rattle.h2_conn.proofs.state.State.purpose_at.Goals as goal

pub returns-clause-known : goal.returns-clause-known
returns-clause-known g c =
    let s = c.args.self.now in
    c.headers_purpose.ensures.known s.book (in_force s.core) (records s) c.consistent.ensures.sound.records (ap (λ (st : Stream). st.kind) c.stream_at.ensures.value)
